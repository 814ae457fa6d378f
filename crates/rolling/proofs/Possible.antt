-- The promise can be kept on every input, and in one way only: the kept frame is brought up to date cell by cell, each moved or worked out anew.
use mathlib.Core.Path.{◌≡◌, refl, sym, ◌∙◌, ap, subst}
use mathlib.Core.Logic.{◌⊎◌, inl, inr}
use mathlib.Core.Bool.{false, not, cond}
use mathlib.Core.List.{List, [], ◌∷◌}
use Prim.Native.Nat.{ℕ, suc, ◌+◌, ◌*◌, ◌<◌}
use native.Mathlib.Omega.{arith}
use native.Mathlib.Nat.{mul_comm}
use lib.Dec.{T, eqb, eqb→eq}
use lib.IntN.{pos, nat_abs}
use lib.ListN.{get_or}
use Rattle.plane.specs.Lists.{In}
use Rattle.plane.specs.Point.{Point}
use Rattle.plane.proofs.Tests.{T_dec, T_true, T_false, clash, eq-eqb}
use Rattle.words.specs.Ground.{first_of, stated, result}
use Rattle.words.specs.Ground.{Answer}
use Rattle.std.specs.Prelude.{Ok}
use Rattle.words.proofs.Kept.{can_keep}
use Rattle.words.proofs.Refusals.{stated_once}
use Rattle.shapes.specs.Plan.{plan_points, plan_tests}
use Rattle.grids.specs.Frame.{free, highest, greater, frame, bad_cell}
use Rattle.grids.specs.declared.Around.TheVariants.{Free}
use Rattle.grids.specs.Image.{cells, dilated}
use Rattle.grids.proofs.Pictures.{get_d_cells, length_cells}
use Rattle.grids.proofs.Putting.{frame_upto}
use Rattle.grids.proofs.Rules.{gives_once, over_makes}
use Rattle.cleaning.proofs.Fixed.{cells_once}
use Rattle.cleaning.proofs.Plans.{passing}
use Rattle.rolling.specs.Claim.{Arrivals, Possible}
use Rattle.rolling.specs.Rolling.{rolled, greatest_y, farther, DilatedTo, arrival_tests, Rolled, Arrived}
use Rattle.rolling.proofs.Clean.{rolled_clean}
use Rattle.rolling.proofs.Rolls.{Accepted, call_accepted}

-- ---- the cells that are worked out

-- the greatest of the cells covered is what the rule gives
dilated_gives : (P : List Point) (W H : ℕ) (f : List ℕ) → T (not (bad_cell f)) → (p : Point)
    → DilatedTo W H f (In P) p (dilated greater free P (frame free W H f) p)
dilated_gives P W H f t p = over_makes false P (frame free W H f) (frame_upto highest (omega arith) Free W H f (passing f t)) p

-- ---- the kept frame, brought up to date

-- the cell at a point: that one row below, moved, or the greatest of the cells covered
unfoldable pub brought_at : ℕ → ℕ → List Point → List ℕ → List ℕ → Point → ℕ
unfolding greatest_y
brought_at W H P live' kept p =
    cond (farther H (greatest_y P) (nat_abs p.1)) (get_or kept (suc (nat_abs p.1) * W + nat_abs p.0) 0) (dilated greater free P (frame free W H live') p)

unfoldable pub brought_up : ℕ → ℕ → List Point → List ℕ → List ℕ → List ℕ
brought_up W H P live' kept = cells W H (brought_at W H P live' kept)

pub brought : (P : List Point) (W H : ℕ) (row live kept : List ℕ) → Accepted W H row live kept
    → Rolled P W H row live kept (rolled W live row) (brought_up W H P (rolled W live row) kept)
unfolding brought_at brought_up
brought P W H row live kept a = record {
  shown = refl;
  size = length_cells W H (brought_at W H P l kept) ∙ mul_comm H W;
  moved = λ x r h k t.
      get_d_cells W H (brought_at W H P l kept) x r 0 h k
      ∙ ap (λ b. cond b (get_or kept (suc r * W + x) 0) (dilated greater free P (frame free W H l) (pos x, pos r))) (T_true (farther H (greatest_y P) r) t);
  anew = λ x r h k t.
      let e = get_d_cells W H (brought_at W H P l kept) x r 0 h k
      ∙ ap (λ b. cond b (get_or kept (suc r * W + x) 0) (dilated greater free P (frame free W H l) (pos x, pos r))) (T_false (farther H (greatest_y P) r) t) in
      subst (DilatedTo W H l (In P) (pos x, pos r)) (sym e)
      (dilated_gives P W H l (rolled_clean W live row a.live_clean a.row_clean) (pos x, pos r));
}
  where
    l : List ℕ
    l = rolled W live row

-- ---- on every input

pub possible : Possible
unfolding arrival_tests plan_tests
possible plan W H row live kept =
    let q = can_keep {S = List ℕ × List ℕ} (arrival_tests plan W H row live kept) tt (live, kept) (λ s. (s.0 ≡ live) × (s.1 ≡ kept))
    (λ r s. (stated r ≡ result 0) × Rolled P W H row live kept s.0 s.1) (refl, refl)
    (λ e. (
      Ok 0,
      (rolled W live row, brought_up W H P (rolled W live row) kept),
      (refl, brought P W H row live kept (call_accepted plan W H row live kept e)),
    )) in
    (q.0, q.1.0, q.1.1, q.2)
  where
    P : List Point
    P = plan_points plan

-- rows can arrive one after the other, whichever they are
pub possible_all : (plan : List ℕ) (W H : ℕ) (rows : List (List ℕ)) (live kept : List ℕ)
    → (live' : List ℕ) × (kept' : List ℕ) × Arrivals plan W H rows live kept live' kept'
possible_all plan W H [] live kept = (live, kept, (refl, refl))
possible_all plan W H (row ∷ rows) live kept =
    let q = possible plan W H row live kept in
    let r = possible_all plan W H rows q.1 q.2 in
    (r.0, r.1, (q.0, q.1, q.2, q.3, r.2))

-- ---- in one way only

pub rolled_once : (P : List Point) (W H : ℕ) (row live kept l k l' k' : List ℕ) → Rolled P W H row live kept l k → Rolled P W H row live kept l' k'
    → (l ≡ l') × (k ≡ k')
rolled_once P W H row live kept l k l' k' R S = (frames, cells_once W H k k' R.size S.size (λ x r h j. at x r h j (T_dec (farther H Y r))))
  where
    Y : ℕ
    Y = greatest_y P

    frames : l ≡ l'
    frames = R.shown ∙ sym S.shown

    at : (x r : ℕ) → x < W → r < H → T (farther H Y r) ⊎ T (not (farther H Y r)) → get_or k (r * W + x) 0 ≡ get_or k' (r * W + x) 0
    at x r h j (inl t) = R.moved x r h j t ∙ sym (S.moved x r h j t)
    at x r h j (inr t) =
        gives_once false (In P) (frame free W H l') (pos x, pos r) (get_or k (r * W + x) 0) (get_or k' (r * W + x) 0)
        (subst (λ f. DilatedTo W H f (In P) (pos x, pos r) (get_or k (r * W + x) 0)) frames (R.anew x r h j t)) (S.anew x r h j t)

pub arrived_once : (plan : List ℕ) (W H : ℕ) (row live kept : List ℕ) (s t : Answer) (l k l' k' : List ℕ)
    → Arrived plan W H row live kept s l k → Arrived plan W H row live kept t l' k'
    → (s ≡ t) × (l ≡ l') × (k ≡ k')
arrived_once plan W H row live kept s t l k l' k' a b = go (T_dec (eqb n 0))
  where
    n : ℕ
    n = first_of (arrival_tests plan W H row live kept)

    go : T (eqb n 0) ⊎ T (not (eqb n 0)) → (s ≡ t) × (l ≡ l') × (k ≡ k')
    go (inl u) =
        let e = eqb→eq n 0 u in
        let f = rolled_once (plan_points plan) W H row live kept l k l' k' (a.done e).1 (b.done e).1 in
        (stated_once s t ((a.done e).0 ∙ sym (b.done e).0), f.0, f.1)
    go (inr u) =
        let z : ¬ (n ≡ 0) = λ e. clash (eqb n 0) u (eq-eqb e) in
        let f = a.refused z in
        let g = b.refused z in
        (stated_once s t (f.0 ∙ sym g.0), f.1.0 ∙ sym g.1.0, f.1.1 ∙ sym g.1.1)

-- an accepted call, with whatever answer and frames its promise allows, leaves these
pub accepted_leaves : (plan : List ℕ) (W H : ℕ) (row live kept : List ℕ) (s : Answer) (l k : List ℕ) → first_of (arrival_tests plan W H row live kept) ≡ 0
    → Arrived plan W H row live kept s l k
    → (stated s ≡ result 0) × (l ≡ rolled W live row) × (k ≡ brought_up W H (plan_points plan) (rolled W live row) kept)
accepted_leaves plan W H row live kept s l k e a =
    let d = a.done e in
    let b = brought (plan_points plan) W H row live kept (call_accepted plan W H row live kept e) in
    let f = rolled_once (plan_points plan) W H row live kept l k (rolled W live row) (brought_up W H (plan_points plan) (rolled W live row) kept) d.1 b in
    (d.0, f.0, f.1)
