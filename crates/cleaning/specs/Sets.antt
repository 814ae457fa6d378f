-- Document 01, "Frames", for frames in which every cell was measured: what a shape gives directly is the set that Minkowski's definitions make of the occupied
-- points.
use Rattle.std.specs.Prelude.{◌≡◌, ◌⊎◌, List, ℕ, ◌+◌, ◌*◌, ◌<◌, pos, length, get_or}
use Rattle.plane.specs.Point.{PointSet, dilation, erosion, opening, closing}
use Rattle.grids.specs.Frame.{occupied}
use Rattle.cleaning.specs.Operation.{as_read}
use Rattle.cleaning.specs.declared.Operation.{Operation}
use Rattle.cleaning.specs.declared.Operation.TheVariants.{Dilation, Erosion, Opening, Closing}

-- the set that an operation makes of X and A
abbrev pub made : Operation → PointSet → PointSet → PointSet
made Dilation X A = dilation X A
made Erosion X A = erosion X A
made Opening X A = opening X A
made Closing X A = closing X A

-- a cell's value is 1 if P, and 0 if not
abbrev pub Says : ℕ → Type 0 → Type 0
Says v P = ((v ≡ 1) × P) ⊎ ((v ≡ 0) × ¬ P)

-- W × H cells r: X is the set of points whose cell reads as occupied in the operation's call, and cell (x, y) is 1 if (x, y) lies in the set that the operation
-- makes of X and A, and 0 if not
pub record DirectSet (op : Operation) (W H : ℕ) (f : List ℕ) (A : PointSet) (r : List ℕ) : Type 0 where
  pub size : length r ≡ W * H
  pub cell : (x y : ℕ) → x < W → y < H → Says (get_or r (y * W + x) 0) (made op (occupied (as_read op W H f)) A (pos x, pos y))
