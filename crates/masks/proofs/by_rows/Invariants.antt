-- A shift by one row makes no difference to what is left in the end; the measure is the mask, which a shift lowers.
use mathlib.Core.Path.{◌≡◌}
use Prim.Native.Nat.{◌<◌}
use Rattle.masks.proofs.Shifts.{rows_down}
use Rattle.masks.proofs.by_rows.Given as goal

abbrev pub invariant-loop-m : goal.invariant-loop-m
invariant-loop-m l = (l.m < 512) × (rows_down l.m ≡ rows_down l.mask)

abbrev pub decreases-loop-m : goal.decreases-loop-m
decreases-loop-m l = l.m
