-- A shift by one column makes no difference to what is left in the end; the measure is the mask, which a shift lowers.
use mathlib.Core.Path.{◌≡◌}
use Prim.Native.Nat.{◌<◌}
use Rattle.masks.proofs.Shifts.{columns_down}
use Rattle.masks.proofs.by_columns.Given as goal

abbrev pub invariant-loop-mask : goal.invariant-loop-mask
invariant-loop-mask l = (l.n < 512) × (columns_down l.n ≡ columns_down l.mask)

abbrev pub decreases-loop-mask : goal.decreases-loop-mask
decreases-loop-mask l = l.n
