use Rattle.std.proofs.Common.{refl, arith}
use Rattle.completions.proofs.Drawing.{fitted_more}
use Rattle.pool_steps.proofs.pools.fitted.Goals as goal

pub loop-m-preserved : goal.loop-m-preserved
loop-m-preserved c =
    let a = c.args in
    let l = c.loop-m in
    let f = c.fitting-n.ensures in
    fitted_more a.nums.now a.need a.cand.now l.list l.n l.m-index _ _ (omega arith) refl f.0 f.1.0 f.1.1 l.invariant
