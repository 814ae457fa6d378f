-- What demand 2 says of frames in which every cell was measured, cases each read off the statement alone, as in Examples.
use mathlib.Core.Path.{◌≡◌, refl, sym, ◌∙◌, ap, subst}
use mathlib.Core.Logic.{inl, inr, ⊎_elim}
use mathlib.Core.Bool.{cond, ◌&&◌}
use mathlib.Core.List.{List, [], ◌∷◌}
use Prim.Native.Nat.{ℕ, zero, suc, ◌+◌, ◌*◌, ◌<◌}
use native.Mathlib.Omega.{arith}
use lib.Dec.{ltb}
use lib.IntN.{ℤ, pos, negsuc, nat_abs, ◌+ℤ◌, +ℤ_idr}
use lib.ListN.{get_or, replicate}
use borrow.Author.Tests.{le-ltb}
use Rattle.plane.specs.Lists.{In}
use Rattle.plane.specs.Point.{Point, ◌+ᵖ◌, negᵖ, erosion}
use Rattle.words.specs.Ground.{stated}
use Rattle.words.specs.Ground.{Answer}
use Rattle.masks.specs.Mask.{mask_cells}
use Rattle.shapes.specs.Plan.{plan_points, plan_tests}
use Rattle.grids.specs.Grid.{work_tests}
use Rattle.grids.specs.Image.{value_at}
use Rattle.cleaning.specs.Cleaning.{part, Cleaned}
use Rattle.cleaning.specs.declared.Operation.TheVariants.{Erosion, Opening}
use Rattle.claim.specs.Minkowski.{AllMeasured, frame_points, with_outside, Minkowski}

-- the plan of the points (0, 0) and (1, 0)
abbrev beside : List ℕ
beside = 0x30000001 ∷ 0x40000f0f ∷ 0x50000003 ∷ []

one_measured : AllMeasured (1 ∷ [])
one_measured zero e = omega arith
one_measured (suc i) e = let n : ◌≡◌ {A = ℕ} 0 2 = e in omega arith

two_measured : AllMeasured (1 ∷ 1 ∷ [])
two_measured zero e = omega arith
two_measured (suc i) e = one_measured i e

-- 1 1 eroded by it: the last cell stays, since the points are joined to what is outside
stays_off : Minkowski → (s : Answer) (i' j' : List ℕ) → Cleaned Erosion beside 2 1 (1 ∷ 1 ∷ []) (replicate 272 7) (replicate 272 7) s i' j'
    → get_or (part (stated s).1 2 1 i' j') 1 0 ≡ 1
unfolding plan_tests work_tests plan_points mask_cells value_at ◌+ᵖ◌ negᵖ
stays_off M s i' j' p = ⊎_elim
    (λ q. q.0)
    (λ q. absurd (q.1 all))
    ((M.cleaning Erosion beside 2 1 (1 ∷ 1 ∷ []) (replicate 272 7) (replicate 272 7) s i' j' p refl two_measured).cell 1 0 (omega arith) (omega arith))
  where
    past : (x y : ℕ) → x < 2 → y < 1 → ¬ (◌≡◌ {A = Point} (pos 2, pos 0) (pos x, pos y))
    past x y h k q = let e : 2 ≡ x = ap (λ z. nat_abs z.0) q in omega arith

    all : erosion (with_outside 2 1 (1 ∷ 1 ∷ [])) (In (plan_points beside)) (pos 1, pos 0)
    all b (inl e) = subst (λ z. with_outside 2 1 (1 ∷ 1 ∷ []) ((pos 1, pos 0) +ᵖ z)) (sym e) (inl refl)
    all b (inr (inl e)) = subst (λ z. with_outside 2 1 (1 ∷ 1 ∷ []) ((pos 1, pos 0) +ᵖ z)) (sym e) (inr past)
    all b (inr (inr e)) = absurd e

-- the frame 1 has no point in another column than 0
only_first : (x y : ℤ) → frame_points 1 1 (1 ∷ []) (x, y) → x ≡ pos 0
unfolding value_at
only_first (pos zero) y h = refl
only_first (pos (suc x)) (pos y) h =
    let e = ap {B = ℕ} (λ t. cond (t && ltb y 1) (get_or (1 ∷ []) (y * 1 + suc x) 0) 0) (le-ltb (suc x) 1 (omega arith)) in
    let n : ◌≡◌ {A = ℕ} 0 1 = sym e ∙ h in
    absurd (omega arith)
only_first (pos (suc x)) (negsuc y) h = absurd (let n : ◌≡◌ {A = ℕ} 0 1 = h in omega arith)
only_first (negsuc x) y h = absurd (let n : ◌≡◌ {A = ℕ} 0 1 = h in omega arith)

-- 1 opened by the two points: nothing stays, since what is outside reads as free
goes_off : Minkowski → (s : Answer) (i' j' : List ℕ) → Cleaned Opening beside 1 1 (1 ∷ []) (replicate 256 7) (replicate 256 7) s i' j'
    → get_or (part (stated s).1 1 1 i' j') 0 0 ≡ 0
unfolding plan_tests work_tests plan_points mask_cells ◌+ᵖ◌ negᵖ
goes_off M s i' j' p = ⊎_elim
    (λ q. absurd (none q.1.0 q.1.2))
    (λ q. q.0)
    ((M.cleaning Opening beside 1 1 (1 ∷ []) (replicate 256 7) (replicate 256 7) s i' j' p refl one_measured).cell 0 0 (omega arith) (omega arith))
  where
    none : (q : Point) → erosion (frame_points 1 1 (1 ∷ [])) (In (plan_points beside)) q → ⊥
    none q h =
        let a : q.0 ≡ pos 0 = sym (+ℤ_idr q.0) ∙ only_first (q.0 +ℤ pos 0) (q.1 +ℤ pos 0) (h (pos 0, pos 0) (inl refl)) in
        let b : pos 0 +ℤ pos 1 ≡ pos 0
        = ap (λ x. x +ℤ pos 1) (sym a) ∙ only_first (q.0 +ℤ pos 1) (q.1 +ℤ pos 0) (h (pos 1, pos 0) (inr (inl refl))) in
        let n : ◌≡◌ {A = ℕ} 1 0 = ap nat_abs b in
        omega arith
