-- The invariant: r is z with a put onto it for each bit of b before i.
use Rattle.rows.specs.Leaves.{RowSum}
use Rattle.row_sum_steps.proofs.row_sum.Given as goal

abbrev pub invariant-loop-i : goal.invariant-loop-i
invariant-loop-i l = RowSum l.initial.r l.a l.b l.j l.i l.r
