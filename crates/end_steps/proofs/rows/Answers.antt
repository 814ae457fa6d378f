-- Where no cell is above 1, one plane has both levels.
use Prim.Native.Nat.{ℕ}
use native.Mathlib.Omega.{arith}
use lib.ListN.{length-replicate}
use Rattle.end_steps.proofs.EndPlanes.{none_above, one_room}
use Rattle.end_steps.proofs.rows.Goals as goal

pub with_planes-requires-else-greatest-gt1 : goal.with_planes-requires-else-greatest-gt1
with_planes-requires-else-greatest-gt1 c =
    let E = c.workable.ensures.yes c.if-not-workable.false in
    (E, one_room E.whole (length-replicate {A = ℕ} 2058 0) (length-replicate {A = ℕ} 2058 0) (none_above E.whole c.greatest_cell-greatest.ensures c.if-greatest-gt1.false), omega arith)
