-- The step, and the claim by induction over the arrivals. The rows that stay are a part of the live frame before and of the live frame now; a row that is only
-- moved is far enough from both ends of that part, so the dilation of either frame there is that of the part.
use mathlib.Core.Path.{◌≡◌, refl, sym, ◌∙◌, ap, subst}
use mathlib.Core.Logic.{◌⊎◌, inl, inr}
use mathlib.Core.Bool.{false, not, ◌&&◌, ◌||◌}
use mathlib.Core.List.{List, [], ◌∷◌}
use Prim.Native.Nat.{ℕ, suc, ◌+◌, ◌-◌, ◌*◌, ◌≤◌, ◌<◌}
use native.Mathlib.Omega.{arith}
use native.Mathlib.Nat.{mul_comm, mul-le-mul_right}
use lib.Dec.{T, ltb, eqb, ltb→lt, eqb→eq}
use lib.IntN.{ℤ, pos, negsuc}
use lib.ListN.{length, get_or, take, drop, replicate, length-drop, length-replicate, get_or-replicate, get_or-append, get_or-eq_default}
use lib.Seq.{get_or-drop}
use Rattle.plane.specs.Lists.{In}
use Rattle.plane.specs.Point.{Point, PointSet, ◌-ᵖ◌}
use Rattle.plane.proofs.Tests.{T_and, T_dec, clash, cond_ind, un_not, eq-eqb, not_or, lt_or_le}
use Rattle.words.specs.Ground.{first_of, stated}
use Rattle.words.proofs.Refusals.{clear}
use Rattle.shapes.specs.Plan.{plan_points, plan_tests, plan_words}
use Rattle.shapes.proofs.Written.{plan_stands}
use Rattle.planning.specs.Planning.{ShapeSet}
use Rattle.planning.proofs.Decided.{accepted, written_words}
use Rattle.grids.specs.Frame.{free, highest, frame, over, bad_size, wrong_length, bad_cell}
use Rattle.grids.specs.Image.{value_at, cells}
use Rattle.grids.specs.Rules.{SomeCovered, Makes}
use Rattle.grids.specs.declared.Around.TheVariants.{Free}
use Rattle.grids.proofs.Pictures.{get_d_cells, length_cells}
use Rattle.grids.proofs.Putting.{frame_upto}
use Rattle.grids.proofs.Rules.{gives_once, over_makes}
use Rattle.cleaning.specs.declared.Operation.TheVariants.{Dilation}
use Rattle.cleaning.proofs.Fixed.{cells_once, direct_cell, same_direct}
use Rattle.cleaning.proofs.Plans.{passing}
use Rattle.rolling.specs.Claim.{all_free, Arrivals, Right, Step, Rolling, ShapeRolling}
use Rattle.rolling.specs.Rolling.{rolled, greatest_y, farther, DilatedTo, arrival_tests, Rolled}
use Rattle.rolling.proofs.Clean.{rolled_clean}
use Rattle.rolling.proofs.Part.{part_dilation}

-- ---- an accepted call

-- no ground holds: what that says of the frames and the row
pub record Accepted (W H : ℕ) (row live kept : List ℕ) : Type 0 where
  pub sides : T (not (bad_size W H))
  pub live_size : length live ≡ W * H
  pub kept_size : length kept ≡ W * H
  pub row_size : length row ≡ W
  pub live_clean : T (not (bad_cell live))
  pub kept_clean : T (not (bad_cell kept))
  pub row_clean : T (not (bad_cell row))

pub call_accepted : (plan : List ℕ) (W H : ℕ) (row live kept : List ℕ) → first_of (arrival_tests plan W H row live kept) ≡ 0 → Accepted W H row live kept
unfolding arrival_tests plan_tests
call_accepted plan W H row live kept e =
    let c = (clear (arrival_tests plan W H row live kept) tt e).1.1.1.1.1.1.1 in
    let l = (not_or (wrong_length W H live) (wrong_length W H kept)).0 c.1.0 in
    let v = (not_or (bad_cell live || bad_cell kept) (bad_cell row)).0 c.1.1.1.0 in
    let u = (not_or (bad_cell live) (bad_cell kept)).0 v.0 in
    record {
      sides = c.0;
      live_size = eqb→eq (length live) (W * H) (un_not (eqb (length live) (W * H)) l.0);
      kept_size = eqb→eq (length kept) (W * H) (un_not (eqb (length kept) (W * H)) l.1);
      row_size = eqb→eq (length row) W (un_not (eqb (length row) W) c.1.1.0);
      live_clean = u.0;
      kept_clean = u.1;
      row_clean = v.1;
    }

-- ---- the live frame, one row higher

-- the rows that stay are a part of the live frame before, from row 1 on, and of the live frame now, from row 0 on
module _ (W H : ℕ) (live row : List ℕ) (size : length live ≡ W * H) where
  before : (x y : ℕ) → x < W → y < H - 1 → get_or (drop W live) (y * W + x) 0 ≡ get_or live ((1 + y) * W + x) 0
  before x y h k = get_or-drop W live (y * W + x) 0 ∙ ap (λ n. get_or live n 0) (omega arith)

  now : (x y : ℕ) → x < W → y < H - 1 → get_or (drop W live) (y * W + x) 0 ≡ get_or (rolled W live row) ((0 + y) * W + x) 0
  now x y h k =
      let m = mul-le-mul_right {m = suc (suc y)} {n = H} W (omega arith) in
      let e = length-drop W live in
      let l : y * W + x < length (drop W live) = omega (arith, mul_comm W H) in
      sym (get_or-append (drop W live) row 0 (y * W + x) l) ∙ ap (λ n. get_or (rolled W live row) (n * W + x) 0) (omega arith)

  -- the dilation at a row that is only moved is what it was one row below
  pub up_dilation : (P : List Point) (x r : ℕ) → x < W → T (farther H (greatest_y P) r)
      → (v : ℕ) → DilatedTo W H live (In P) (pos x, pos (suc r)) v → DilatedTo W H (rolled W live row) (In P) (pos x, pos r) v
  up_dilation P x r h t v d =
      let Y = greatest_y P in
      let u = (T_and (ltb Y r) (ltb Y (H - 1 - r))).0 t in
      let above = ltb→lt Y r u.0 in
      let below = ltb→lt Y (H - 1 - r) u.1 in
      let old = part_dilation W H (H - 1) 1 live (drop W live) before P x r h
      (record { inner = omega arith; here = omega arith; first = inr (omega arith); last = inl (omega arith) }) v in
      let new = part_dilation W H (H - 1) 0 (rolled W live row) (drop W live) now P x r h
      (record { inner = omega arith; here = omega arith; first = inl refl; last = inr (omega arith) }) v in
      let e : 1 + r ≡ suc r = omega arith in
      let f : 0 + r ≡ r = omega arith in
      subst (λ n. DilatedTo W H (rolled W live row) (In P) (pos x, pos n) v) f
      (new.0 (old.1 (subst (λ n. DilatedTo W H live (In P) (pos x, pos n) v) (sym e) d)))

-- ---- the step

-- a kept frame whose cells are what the rule gives is right
dilated_right : (P : List Point) (W H : ℕ) (live kept : List ℕ) → T (not (bad_cell live)) → length kept ≡ W * H
    → ((x r : ℕ) → x < W → r < H → DilatedTo W H live (In P) (pos x, pos r) (get_or kept (r * W + x) 0)) → Right W H (In P) live kept
dilated_right P W H live kept clean size cell = record {
  picture = over false P F;
  made = m;
  cut = cells_once W H kept (cells W H (over false P F)) size (length_cells W H (over false P F) ∙ mul_comm H W) (λ x r h k.
      gives_once false (In P) F (pos x, pos r) (get_or kept (r * W + x) 0) (over false P F (pos x, pos r)) (cell x r h k) (m (pos x, pos r))
      ∙ sym (get_d_cells W H (over false P F) x r 0 h k));
}
  where
    F : Point → ℕ
    F = frame free W H live

    m : Makes false (In P) F (over false P F)
    m = over_makes false P F (frame_upto highest (omega arith) Free W H live (passing live clean))

pub rolled_right : (P : List Point) (W H : ℕ) (row live kept live' kept' : List ℕ) → Accepted W H row live kept → Rolled P W H row live kept live' kept'
    → Right W H (In P) live kept → Right W H (In P) live' kept'
rolled_right P W H row live kept live' kept' A R D =
    dilated_right P W H live' kept' (subst (λ l. T (not (bad_cell l))) (sym R.shown) (rolled_clean W live row A.live_clean A.row_clean)) R.size
    (λ x r h k. go x r h k (T_dec (farther H (greatest_y P) r)))
  where
    Y : ℕ
    Y = greatest_y P

    go : (x r : ℕ) → x < W → r < H → T (farther H Y r) ⊎ T (not (farther H Y r)) → DilatedTo W H live' (In P) (pos x, pos r) (get_or kept' (r * W + x) 0)
    go x r h k (inr t) = R.anew x r h k t
    go x r h k (inl t) =
        let u = ltb→lt Y (H - 1 - r) ((T_and (ltb Y r) (ltb Y (H - 1 - r))).0 t).1 in
        let p : Point = (pos x, pos (suc r)) in
        let before = subst (DilatedTo W H live (In P) p) (sym (direct_cell Dilation W H live (In P) kept D x (suc r) h (omega arith))) (D.made p) in
        let up = up_dilation W H live row A.live_size P x r h t (get_or kept (suc r * W + x) 0) before in
        let here = subst (DilatedTo W H (rolled W live row) (In P) (pos x, pos r)) (sym (R.moved x r h k t)) up in
        subst (λ l. DilatedTo W H l (In P) (pos x, pos r) (get_or kept' (r * W + x) 0)) (sym R.shown) here

pub step : Step
step plan W H row live kept s live' kept' a D = go (T_dec (eqb (first_of (arrival_tests plan W H row live kept)) 0))
  where
    A : PointSet
    A = In (plan_points plan)

    n : ℕ
    n = first_of (arrival_tests plan W H row live kept)

    go : T (eqb n 0) ⊎ T (not (eqb n 0)) → Right W H A live' kept'
    go (inl t) =
        let e = eqb→eq n 0 t in
        rolled_right (plan_points plan) W H row live kept live' kept' (call_accepted plan W H row live kept e) (a.done e).1 D
    go (inr t) =
        let u = a.refused (λ e. clash (eqb n 0) t (eq-eqb e)) in
        subst (λ l. Right W H A l kept') (sym u.1.0) (subst (λ k. Right W H A live k) (sym u.1.1) D)

-- ---- the claim

pub steps : (plan : List ℕ) (W H : ℕ) (rows : List (List ℕ)) (live kept live' kept' : List ℕ) → Arrivals plan W H rows live kept live' kept'
    → Right W H (In (plan_points plan)) live kept → Right W H (In (plan_points plan)) live' kept'
steps plan W H [] live kept live' kept' a D =
    subst (λ l. Right W H (In (plan_points plan)) l kept') (sym a.0) (subst (λ k. Right W H (In (plan_points plan)) live k) (sym a.1) D)
steps plan W H (row ∷ rows) live kept live' kept' a D =
    steps plan W H rows a.1 a.2 live' kept' a.4 (step plan W H row live kept a.0 a.1 a.2 a.3 D)

-- a free frame is free everywhere, and so is what any points give of it
free_cell : (n i : ℕ) → get_or (replicate n free) i free ≡ free
free_cell n i = go (lt_or_le i n)
  where
    go : (i < n) ⊎ (n ≤ i) → get_or (replicate n free) i free ≡ free
    go (inl h) = get_or-replicate n i free free h
    go (inr h) = get_or-eq_default (replicate n free) free {n = i} (let e = length-replicate n free in omega arith)

all_free_lem : (W H : ℕ) (x y : ℤ) → value_at free W H (all_free W H) x y ≡ 0
unfolding value_at
all_free_lem W H (pos x) (pos y) =
    cond_ind (ltb x W && ltb y H) (get_or (all_free W H) (y * W + x) free) free (λ v. v ≡ 0) (λ _. free_cell (W * H) (y * W + x)) (λ _. refl)
all_free_lem W H (pos x) (negsuc y) = refl
all_free_lem W H (negsuc x) y = refl

pub free_right : (W H : ℕ) (A : PointSet) → Right W H A (all_free W H) (all_free W H)
free_right W H A = record {
  picture = λ p. free;
  made = λ p. inr (inr (refl, none p 1 (omega arith), none p 2 (omega arith)));
  cut = cells_once W H (all_free W H) (cells W H (λ p. free)) (length-replicate (W * H) free) (length_cells W H (λ p. free) ∙ mul_comm H W) (λ x y h k.
      free_cell (W * H) (y * W + x) ∙ sym (get_d_cells W H (λ p. free) x y 0 h k));
}
  where
    none : (p : Point) (v : ℕ) → 1 ≤ v → SomeCovered false A (frame free W H (all_free W H)) p v → ⊥
    none p v l c = let q = p -ᵖ c.0 in let z = all_free_lem W H q.0 q.1 in omega (arith, c.2)

pub rolling : Rolling
rolling plan W H rows live kept a = steps plan W H rows (all_free W H) (all_free W H) live kept a (free_right W H (In (plan_points plan)))

pub shape_rolling : ShapeRolling
shape_rolling ws out r out' e w W H rows live kept a =
    let d = w.offset in
    let ms = w.stages in
    let P = w.picked.plan in
    let S = accepted ws out e in
    let plan = plan_words d ms in
    let head : take (stated r).1 out' ≡ plan = ap (λ n. take n.1 out') w.answer ∙ written_words ws out out' S d ms P w.words in
    let b = subst (λ p. Arrivals p W H rows (all_free W H) (all_free W H) live kept) head a in
    same_direct Dilation W H live (In (plan_points plan)) (ShapeSet ws) kept (plan_stands ws S d ms P) (rolling plan W H rows live kept b)
