-- Document 01, "Shapes": a shape as one value, and the new shapes that moving, joining and summing make of it. Its cells are moved to both axes, as they are
-- planned; x and y say where they stand, biased by 15, as the fields of a place word. What is no shape, or out of range, is `no_shape`.
use Rattle.std.specs.Prelude.{◌≡◌, true, false, not, List, map, ℕ, ◌+◌, ◌-◌, ◌≤◌, T, ℤ, pos, ◌+ℤ◌, ◌-ℤ◌, get_or, replicate}
use Rattle.plane.specs.Lists.{In, flat, bits, up_to}
use Rattle.plane.specs.Point.{Point, Cell, point, ◌+ᵖ◌, ◌-ᵖ◌, ◌≐◌}
use Rattle.rows.specs.Cells.{Cells, At}
use Rattle.rows.specs.Leaves.{Raised}
use Rattle.extents.specs.Extents.{Least, SomeCell, row, column}
use Rattle.shapes.specs.Shape.{out_of_range, too_far}
use Rattle.elements.specs.declared.Shape.{Shape}
use Rattle.elements.specs.declared.Window.{Window}

-- the cells of rows of bits, as a list: cell (x, y) is bit x of row y
unfoldable pub cells_of : List ℕ → List Cell
cells_of rows = flat (λ y. map (λ x. (x, y)) (bits 16 (get_or rows y 0))) (up_to 16)

-- where the cell (0, 0) of a shape stands
abbrev pub place : Shape → Point
place s = (pos s.x -ℤ pos 15, pos s.y -ℤ pos 15)

-- a shape's points
unfoldable pub points_of : Shape → List Point
unfolding cells_of
points_of s = map (λ c. point c +ᵖ place s) (cells_of s.rows)

-- the points of the cells of a window with the anchor a: (x − ax, y − ay)
unfoldable pub window_points : List ℕ → Cell → List Point
unfolding cells_of
window_points rows a = map (λ c. point c -ᵖ point a) (cells_of rows)

-- what a value is that is a shape: it has a cell in column 0 and one in row 0, and its points are in range
pub record Sound (s : Shape) : Type 0 where
  pub fits : s.fits ≡ true
  pub left : Least column (At s.rows) 0
  pub top : Least row (At s.rows) 0
  pub range : T (not (out_of_range (points_of s)))

-- what is no shape, or out of range
abbrev pub no_shape : Shape
no_shape = record { fits = false; x = 0; y = 0; rows = replicate 16 0 }

-- r is the new shape of the points A, of which ground 8 decides whether they are one; and no shape where what it is made of is none
pub record Made (Given : Type 0) (A : List Point) (r : Shape) : Type 0 where
  pub made : Given → T (not (out_of_range A)) → Sound r × (In (points_of r) ≐ In A)
  pub far : T (out_of_range A) → r ≡ no_shape
  pub none : (Given → ⊥) → r ≡ no_shape

-- v is the coordinate x, biased by 15, moved by d; above 30 where that is too far from 0
pub record Along (x : ℕ) (d : ℤ) (v : ℕ) : Type 0 where
  pub near : T (not (too_far ((pos x -ℤ pos 15) +ℤ d))) → pos v ≡ pos x +ℤ d
  pub far : T (too_far ((pos x -ℤ pos 15) +ℤ d)) → v ≡ 31

-- every cell of X, moved by (i, j), has coordinates to n
pub record Within (X : Cells) (i j n : ℕ) : Type 0 where
  pub all : (x y : ℕ) → X x y → (x + i ≤ n) × (y + j ≤ n)

-- what the cells of a window are with an anchor, if they are a shape: not empty, and the anchor is in the same range
pub record Anchored (w : Window) : Type 0 where
  pub in_x : w.ax ≤ 15
  pub in_y : w.ay ≤ 15
  pub some : SomeCell (At w.rows)

-- the shape's cells in the window with the least anchor: a place below 15 is the anchor's, one above 15 moves the cells. That these are the shape's points
-- and their least anchor is the law `into_window`
pub record InWindow (s : Shape) (r : Window) : Type 0 where
  pub ax : r.ax ≡ 15 - s.x
  pub ay : r.ay ≡ 15 - s.y
  pub cells : Raised (At s.rows) (s.x - 15) (s.y - 15) (At r.rows)
