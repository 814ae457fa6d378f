-- Computed cases of the definitions.
use mathlib.Core.Path.{◌≡◌, refl}
use mathlib.Core.Bool.{true, false}
use mathlib.Core.List.{List, [], ◌∷◌}
use Prim.Native.Nat.{ℕ}
use lib.IntN.{pos, negsuc}
use lib.ListN.{replicate}
use Rattle.plane.specs.Point.{◌+ᵖ◌, negᵖ}
use Rattle.shapes.specs.Shape.{out_of_range}
use Rattle.shapes.specs.Listed.{least_anchor}
use Rattle.elements.specs.declared.Shape.{Shape}
use Rattle.elements.specs.Standing.{cells_of, points_of, window_points}

-- cells (0, 0), (1, 0) and (0, 1), which stand at (−15, 15), at (0, 0) and at (15, 0)
three : List ℕ
three = 3 ∷ 1 ∷ replicate 14 0

corner_shape : Shape
corner_shape = record { fits = true; x = 0; y = 30; rows = 3 ∷ replicate 15 0 }

cells_of_three : cells_of three ≡ (0, 0) ∷ (1, 0) ∷ (0, 1) ∷ []
unfolding cells_of three
cells_of_three = refl

-- the place is biased by 15
points_at_the_corner : points_of corner_shape ≡ (negsuc 14, pos 15) ∷ (negsuc 13, pos 15) ∷ []
unfolding points_of corner_shape ◌+ᵖ◌
points_at_the_corner = refl

-- the anchor is taken from each cell
points_of_a_window : window_points three (1, 0) ≡ (negsuc 0, pos 0) ∷ (pos 0, pos 0) ∷ (negsuc 0, pos 1) ∷ []
unfolding window_points three ◌+ᵖ◌ negᵖ
points_of_a_window = refl

-- one row more is out of range, and so is one column less
in_range_at_the_corner : out_of_range (points_of corner_shape) ≡ false
unfolding out_of_range points_of corner_shape ◌+ᵖ◌
in_range_at_the_corner = refl

past_the_corner : out_of_range (points_of (record { fits = true; x = 0; y = 30; rows = three })) ≡ true
unfolding out_of_range points_of three ◌+ᵖ◌
past_the_corner = refl

-- the least anchor of points that start at (−15, 15)
anchor_at_the_corner : least_anchor (points_of corner_shape) ≡ (15, 0)
unfolding least_anchor points_of corner_shape ◌+ᵖ◌
anchor_at_the_corner = refl
