-- The invariant: r is the sum of a and the rows of b before j. A row without a cell changes nothing.
use Rattle.rows.specs.Leaves.{SumTo}
use Rattle.row_sum_steps.proofs.sum_of.Given as goal

abbrev pub invariant-loop-j : goal.invariant-loop-j
invariant-loop-j l = SumTo l.fn.a l.fn.b l.j l.r
