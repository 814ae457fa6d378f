-- The invariant: the rows passed, from j to y, have the moved row of a or'ed in, and the others are as they were.
use Rattle.std.proofs.Common.{◌≡◌, length}
use Rattle.rows.proofs.Fill.{Filled}
use Rattle.rows.proofs.Shifts.{ored, was}
use Rattle.row_sum_steps.proofs.onto.Given as goal

abbrev pub invariant-loop-y : goal.invariant-loop-y
invariant-loop-y l = (length l.r ≡ 16) × Filled (ored l.initial.r l.a l.i l.j) (was l.initial.r) l.j l.y l.r
