-- The rows now present. Frames that a call leaves are again W × H cells that pass ground 13, so that no later refusal is owed to them: whether a row is taken is
-- a matter of the plan, of W and H and of the row. The live frame is then the free rows of the start and the rows taken, less as many rows as were taken.
use mathlib.Core.Path.{◌≡◌, sym, ◌∙◌, ap, ap₂, subst}
use mathlib.Core.Logic.{◌⊎◌, inl, inr}
use mathlib.Core.Bool.{Bool, false, not, cond, ◌||◌}
use mathlib.Core.List.{List, [], ◌∷◌, ◌++◌, append_assoc, append-nil}
use Prim.Native.Nat.{ℕ, zero, suc, ◌+◌, ◌*◌, ◌≤◌, ◌<◌, zero-le, suc-le-suc}
use native.Mathlib.Omega.{arith}
use native.Mathlib.Nat.{mul_comm, mul-le-mul_right}
use lib.Dec.{T, ltb, eqb, eqb→eq}
use lib.IntN.{pos}
use lib.ListN.{length, get_or, drop, length-append, length-drop, length-replicate, get_or-replicate}
use lib.Seq.{drop-append-le, drop-drop}
use Rattle.plane.specs.Lists.{In, keep, flat}
use Rattle.plane.specs.Point.{Point}
use Rattle.plane.proofs.Tests.{T_dec, T_true, T_false, clash, eq-eqb, not_or, not_ltb, not_not}
use Rattle.words.specs.Ground.{first_of}
use Rattle.shapes.specs.Plan.{plan_points, plan_tests}
use Rattle.grids.specs.Frame.{free, highest, frame, bad_side, bad_size, wrong_length, bad_cell}
use Rattle.grids.proofs.Pictures.{at_places}
use Rattle.grids.proofs.Rules.{gives_upto}
use Rattle.cleaning.proofs.Plans.{passing}
use Rattle.rolling.specs.Claim.{all_free, Arrivals, takes_row, Present}
use Rattle.rolling.specs.Rolling.{rolled, greatest_y, farther, wrong_row, arrival_tests, Rolled, Arrived}
use Rattle.rolling.proofs.Clean.{rolled_clean}
use Rattle.rolling.proofs.Rolls.{Accepted, call_accepted}

-- W × H cells that pass ground 13
pub record Good (W H : ℕ) (f : List ℕ) : Type 0 where
  pub size : length f ≡ W * H
  pub clean : T (not (bad_cell f))

none_bad : (f : List ℕ) → ((i : ℕ) → i < length f → get_or f i 0 ≤ highest) → T (not (bad_cell f))
none_bad [] h = tt
none_bad (v ∷ f) h = (not_or (ltb highest v) (bad_cell f)).1 (not_ltb highest v (h 0 (suc-le-suc zero-le)), none_bad f (λ i l. h (suc i) (suc-le-suc l)))

pub free_good : (W H : ℕ) → Good W H (all_free W H)
free_good W H = record {
  size = length-replicate (W * H) free;
  clean = none_bad (all_free W H) (λ i h.
      let e = get_or-replicate (W * H) i free 0 (subst (λ n. i < n) (length-replicate (W * H) free) h) in omega arith);
}

-- ---- what an accepted call leaves

some_row : (H : ℕ) → T (not (eqb H 0)) → 1 ≤ H
some_row zero t = absurd t
some_row (suc H) t = suc-le-suc zero-le

module _ (W H : ℕ) (row live kept : List ℕ) (A : Accepted W H row live kept) where
  room : W ≤ length live
  room =
      let s = some_row H ((not_or (eqb H 0) (ltb 240 H)).0 ((not_or (bad_side W) (bad_side H)).0 A.sides).1).0 in
      let m = mul-le-mul_right {m = 1} {n = H} W s in
      let e = A.live_size in
      omega (arith, mul_comm W H)

  pub live_good : Good W H (rolled W live row)
  live_good = record {
    size = length-append (drop W live) row ∙ (let d = length-drop W live in let r = room in let e = A.live_size in let f = A.row_size in omega arith);
    clean = rolled_clean W live row A.live_clean A.row_clean;
  }

  pub kept_good : (P : List Point) (live' kept' : List ℕ) → Rolled P W H row live kept live' kept' → Good W H kept'
  kept_good P live' kept' R = record {
    size = R.size;
    clean = none_bad kept' (λ i h.
        at_places W H (λ n. get_or kept' n 0 ≤ highest) (λ x r h k. low x r h k (T_dec (farther H (greatest_y P) r))) i (subst (λ n. i < n) R.size h));
  }
    where
      low : (x r : ℕ) → x < W → r < H → T (farther H (greatest_y P) r) ⊎ T (not (farther H (greatest_y P) r)) → get_or kept' (r * W + x) 0 ≤ highest
      low x r h k (inl t) = let e = R.moved x r h k t in let b = passing kept A.kept_clean (suc r * W + x) in omega arith
      low x r h k (inr t) = gives_upto false (In P) (frame free W H live') (pos x, pos r) (get_or kept' (r * W + x) 0) (R.anew x r h k t)

-- ---- refusals are owed to the plan, to W and H, and to the row

pub only_row : (plan : List ℕ) (W H : ℕ) (row live kept : List ℕ) → Good W H live → Good W H kept
    → eqb (first_of (arrival_tests plan W H row live kept)) 0 ≡ takes_row plan W H row
unfolding arrival_tests takes_row
only_row plan W H row live kept g k =
    ap₂ (λ b c. eqb (first_of (plan_tests plan ++ (11, bad_size W H) ∷ (12, b) ∷ (15, wrong_row W row) ∷ (13, c) ∷ [])) 0) lengths bytes
  where
    long : (f : List ℕ) → Good W H f → T (not (wrong_length W H f))
    long f e = not_not (eqb (length f) (W * H)) (eq-eqb e.size)

    lengths : (wrong_length W H live || wrong_length W H kept) ≡ false
    lengths = T_false (wrong_length W H live || wrong_length W H kept) ((not_or (wrong_length W H live) (wrong_length W H kept)).1 (long live g, long kept k))

    bytes : (bad_cell live || bad_cell kept || bad_cell row) ≡ bad_cell row
    bytes = ap₂ (λ a b. a || b || bad_cell row) (T_false (bad_cell live) g.clean) (T_false (bad_cell kept) k.clean)

-- ---- one arrival after the other

-- the rows t, one after the other
abbrev joined : List (List ℕ) → List ℕ
joined t = flat (λ row. row) t

-- the rows of f and then those of t, less as many as t has
abbrev after : ℕ → List ℕ → List (List ℕ) → List ℕ
after W f t = drop (W * length t) (f ++ joined t)

after_none : (W : ℕ) (f : List ℕ) → after W f [] ≡ f
after_none W f = let e : W * 0 ≡ 0 = omega arith in ap (λ n. drop n (f ++ [])) e ∙ append-nil f

-- a row arrives, and then the others do
after_one : (W : ℕ) (f row : List ℕ) (t : List (List ℕ)) → W ≤ length f → after W (rolled W f row) t ≡ after W f (row ∷ t)
after_one W f row t h =
    let n = W * length t in
    let J = joined t in
    let e : W + n ≡ W * suc (length t) = omega (arith, mul_comm W (suc (length t)), mul_comm W (length t)) in
    ap (drop n) (append_assoc (drop W f) row J ∙ sym (drop-append-le W f (row ++ J) h)) ∙ drop-drop n W (f ++ (row ++ J)) ∙ ap (λ m. drop m (f ++ (row ++ J))) e

pub presents : (plan : List ℕ) (W H : ℕ) (rows : List (List ℕ)) (live kept live' kept' : List ℕ) → Good W H live → Good W H kept
    → Arrivals plan W H rows live kept live' kept'
    → live' ≡ after W live (keep (takes_row plan W H) rows)
presents plan W H [] live kept live' kept' g k a = a.0 ∙ sym (after_none W live)
presents plan W H (row ∷ rows) live kept live' kept' g k a = go (λ u v. presents plan W H rows a.1 a.2 live' kept' u v a.4) (T_dec b)
  where
    -- the call for this row, and the frames that it leaves
    n : ℕ
    n = first_of (arrival_tests plan W H row live kept)

    b : Bool
    b = takes_row plan W H row

    l : List ℕ
    l = a.1

    m : List ℕ
    m = a.2

    first : Arrived plan W H row live kept a.0 l m
    first = a.3

    t : List (List ℕ)
    t = keep (takes_row plan W H) rows

    go : (Good W H l → Good W H m → live' ≡ after W l t) → T b ⊎ T (not b) → live' ≡ after W live (cond b (row ∷ t) t)
    go rest (inl u) =
        let e = eqb→eq n 0 (subst T (sym (only_row plan W H row live kept g k)) u) in
        let A = call_accepted plan W H row live kept e in
        let R = (first.done e).1 in
        rest (subst (Good W H) (sym R.shown) (live_good W H row live kept A)) (kept_good W H row live kept A (plan_points plan) l m R)
        ∙ ap (λ f. after W f t) R.shown ∙ after_one W live row t (room W H row live kept A)
        ∙ ap (λ c. after W live (cond c (row ∷ t) t)) (sym (T_true b u))
    go rest (inr u) =
        let f = first.refused (λ e. clash b u (subst T (only_row plan W H row live kept g k) (eq-eqb e))) in
        rest (subst (Good W H) (sym f.1.0) g) (subst (Good W H) (sym f.1.1) k)
        ∙ ap (λ f. after W f t) f.1.0 ∙ ap (λ c. after W live (cond c (row ∷ t) t)) (sym (T_false b u))

pub shows : Present
shows plan W H rows live kept a = presents plan W H rows (all_free W H) (all_free W H) live kept (free_good W H) (free_good W H) a
