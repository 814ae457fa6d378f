-- No stage gives a byte above n, which is not 0, where there was none.
use mathlib.Core.Bool.{Bool, true, false}
use mathlib.Core.List.{List, [], ◌∷◌}
use Prim.Native.Nat.{ℕ, ◌≤◌}
use Rattle.grids.specs.Grid.{grid_bytes, once}
use Rattle.grids.specs.declared.Around.{Around}
use Rattle.grids.proofs.Values.{Upto}
use Rattle.grids.proofs.Stage.{once_upto}
use Rattle.cleaning.specs.declared.Operation.{Operation}
use Rattle.cleaning.specs.declared.Operation.TheVariants.{Dilation, Erosion, Opening, Closing}
use Rattle.cleaning.specs.Operation.{around, through, last_grid}

module _ (n : ℕ) (l : 1 ≤ n) where
  through_upto : (erode : Bool) (k : Around) (W H : ℕ) (ms g : List ℕ) → Upto n (grid_bytes k W H g)
      → Upto n (grid_bytes k W H (through (once erode k W H) ms g))
  through_upto erode k W H [] g b = b
  through_upto erode k W H (m ∷ ms) g b = through_upto erode k W H ms (once erode k W H m g) (once_upto n l erode k W H m g b)

  pub last_upto : (op : Operation) (W H : ℕ) (ms g : List ℕ) → Upto n (grid_bytes (around op) W H g)
      → Upto n (grid_bytes (around op) W H (last_grid op W H ms g))
  unfolding last_grid
  last_upto Dilation W H ms g b = through_upto false (around Dilation) W H ms g b
  last_upto Erosion W H ms g b = through_upto true (around Erosion) W H ms g b
  last_upto Opening W H ms g b = through_upto false (around Opening) W H ms _ (through_upto true (around Opening) W H ms g b)
  last_upto Closing W H ms g b = through_upto true (around Closing) W H ms _ (through_upto false (around Closing) W H ms g b)
