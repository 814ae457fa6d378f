-- Document 01, "Shapes": the extents w = greatest x − least x and h likewise in y, of a finite list of points and of any set of points.
use Rattle.std.specs.Prelude.{◌≡◌, cond, List, [], ◌∷◌, map, ℕ, ℤ, pos, ◌+ℤ◌, ◌-ℤ◌, nat_abs, ◌≤ℤ◌}
use Rattle.std.specs.Int.Signed.{lt_z}
use Rattle.plane.specs.Point.{Point, PointSet}

-- a point's coordinates
abbrev pub x_of : Point → ℤ
x_of p = p.0

abbrev pub y_of : Point → ℤ
y_of p = p.1

-- the least and the greatest of a list of integers; 0 of none
unfoldable pub least : List ℤ → ℤ
least [] = pos 0
least (z ∷ []) = z
least (z ∷ y ∷ zs) = let l = least (y ∷ zs) in cond (lt_z z l) z l

unfoldable pub greatest : List ℤ → ℤ
greatest [] = pos 0
greatest (z ∷ []) = z
greatest (z ∷ y ∷ zs) = let g = greatest (y ∷ zs) in cond (lt_z z g) g z

-- greatest less least
unfoldable pub span : List ℤ → ℕ
unfolding least greatest
span zs = nat_abs (greatest zs -ℤ least zs)

-- the extents w and h of the points of a list
abbrev pub width : List Point → ℕ
width A = span (map x_of A)

abbrev pub height : List Point → ℕ
height A = span (map y_of A)

-- the least x and the least y
abbrev pub corner : List Point → Point
corner A = (least (map x_of A), least (map y_of A))

-- n is the greatest less the least of a coordinate over the set S
pub record Extent (axis : Point → ℤ) (S : PointSet) (n : ℕ) : Type 0 where
  pub low : Point
  pub low_in : S low
  pub low_least : (p : Point) → S p → axis low ≤ℤ axis p
  pub high : Point
  pub high_in : S high
  pub high_greatest : (p : Point) → S p → axis p ≤ℤ axis high
  pub size : axis high ≡ axis low +ℤ pos n
