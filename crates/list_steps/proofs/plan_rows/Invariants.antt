-- The invariant: r is the sum of the masks from i on, cut to the window.
use Prim.Native.Nat.{◌≤◌, min}
use lib.ListN.{length}
use Rattle.lists.specs.Held.{SumRows, masks_from}
use Rattle.list_steps.proofs.plan_rows.Given as goal

abbrev pub invariant-loop-i : goal.invariant-loop-i
invariant-loop-i l = (min 2 (length l.ws) ≤ l.i) × SumRows (masks_from l.i l.ws) l.r
