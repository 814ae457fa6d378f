-- The zeros above the highest bit, taken from 15, are the column of the last cell.
use Rattle.edges.proofs.Columns.{last_of}
use Prim.Native.Nat.{◌<◌}
use native.Mathlib.Omega.{arith}
use Rattle.edge_steps.proofs.last_in.Goals as goal

pub overflow_sub-result : goal.overflow_sub-result
overflow_sub-result c = let l : c.args.row < 65536 = omega arith in omega (arith, (last_of c.args.row c.requires l).0)

pub returns : goal.returns
returns c = (last_of c.args.row c.requires (omega arith)).1
