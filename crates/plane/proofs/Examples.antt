-- Worked cases of ⊕, ⊖, moves and extents, on the pair of points (0, 0) and (1, 0) and on the single point (0, 0).
use mathlib.Core.Path.{◌≡◌, refl, ap}
use mathlib.Core.Logic.{inl, inr}
use mathlib.Core.List.{List, [], ◌∷◌}
use Prim.Native.Nat.{ℕ}
use native.Mathlib.Omega.{arith}
use lib.IntN.{pos, negsuc, nat_abs}
use Rattle.plane.specs.Extent.{width, height, corner, span}
use Rattle.plane.specs.Lists.{In}
use Rattle.plane.specs.Point.{Point, PointSet, ◌+ᵖ◌, negᵖ, ◌⊕◌, ◌⊖◌, moved, only}

pair : PointSet
pair = In ((pos 0, pos 0) ∷ (pos 1, pos 0) ∷ [])

-- the pair reaches (2, 0) with itself
sum_two : (pair ⊕ pair) (pos 2, pos 0)
unfolding pair ◌+ᵖ◌
sum_two = ((pos 1, pos 0), (pos 1, pos 0), inr (inl refl), inr (inl refl), refl)

-- (0, 0) with every point of the pair lies in the pair
difference_origin : (pair ⊖ pair) (pos 0, pos 0)
unfolding pair ◌+ᵖ◌
difference_origin b (inl e) = inl (ap (λ q. (pos 0, pos 0) +ᵖ q) e)
difference_origin b (inr (inl e)) = inr (inl (ap (λ q. (pos 0, pos 0) +ᵖ q) e))
difference_origin b (inr (inr f)) = absurd f

-- (0, 0) with some point of the pair, but not with every one, lies in the single point
difference_not_some : ¬ (only (pos 0, pos 0) ⊖ pair) (pos 0, pos 0)
unfolding pair ◌+ᵖ◌
difference_not_some h = let z : ◌≡◌ {A = ℕ} 1 0 = ap (λ q. nat_abs q.0) (h (pos 1, pos 0) (inr (inl refl))) in omega arith

-- (1, 0) with (1, 0) does not lie in the pair: the difference is not read behind
difference_not_behind : ¬ (pair ⊖ pair) (pos 1, pos 0)
unfolding pair ◌+ᵖ◌
difference_not_behind h = out (h (pos 1, pos 0) (inr (inl refl)))
  where
    out : pair (pos 2, pos 0) → ⊥
    out (inl e) = let z : ◌≡◌ {A = ℕ} 2 0 = ap (λ q. nat_abs q.0) e in omega arith
    out (inr (inl e)) = let z : ◌≡◌ {A = ℕ} 2 1 = ap (λ q. nat_abs q.0) e in omega arith
    out (inr (inr f)) = f

-- moved by (1, 0), the single point is (1, 0)
moved_on : moved (pos 1, pos 0) (only (pos 0, pos 0)) (pos 1, pos 0)
unfolding ◌+ᵖ◌ negᵖ
moved_on = refl

-- three points: w = 4, h = 2, least x −1, least y 0
three : List Point
three = (pos 3, pos 0) ∷ (negsuc 0, pos 2) ∷ (pos 1, pos 1) ∷ []

three_extents : (width three ≡ 4) × (height three ≡ 2) × (corner three ≡ (negsuc 0, pos 0))
unfolding three span
three_extents = (refl, refl, refl)
