use Rattle.std.proofs.Common.{arith}
use Rattle.completions.proofs.Drawing.{appended_more}
use Rattle.pool_steps.proofs.pools.appended.Goals as goal

pub loop-t-preserved : goal.loop-t-preserved
loop-t-preserved c = λ w. appended_more _ _ _ _ _ (omega arith) (c.loop-t.invariant w)
