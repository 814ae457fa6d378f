-- The invariant: the rows before y are and'ed with the moved row of t, 0 past its end, and the others are as they were.
use Rattle.std.proofs.Common.{◌≡◌, length}
use Rattle.rows.proofs.Fill.{Filled}
use Rattle.rows.proofs.Shifts.{anded, was}
use Rattle.row_steps.proofs.under.Given as goal

abbrev pub invariant-loop-y : goal.invariant-loop-y
invariant-loop-y l = (length l.r ≡ 16) × Filled (anded l.initial.r l.t l.i l.j) (was l.initial.r) 0 l.y l.r
