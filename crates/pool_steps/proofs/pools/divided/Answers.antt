-- The candidates that fit, a number that is needed, and the division by it.
use Rattle.std.proofs.Common.{arith}
use Rattle.completions.proofs.Drawing.{divided_by}
use Rattle.pool_steps.proofs.pools.divided.Goals as goal

pub returns : goal.returns
returns c =
    let i = c.in_ok-number.ensures in
    let long = c.fitted-count.array_long in
    divided_by _ _ _ _ c.fitted-count.new.list _ _ _ _ i.0 (omega arith) i.1 (omega arith) c.fitted-count.ensures c.split-without.ensures
