use Rattle.rows.proofs.Sums.{row_sum_end}
use Rattle.row_sum_steps.proofs.row_sum.Goals as goal

pub returns-then-b-i-eq0 : goal.returns-then-b-i-eq0
returns-then-b-i-eq0 c = row_sum_end _ _ _ _ c.loop-i.i c.loop-i.r c.if-b-i-eq0.true c.loop-i.invariant
