use Prim.Native.Nat.{◌-◌}
use native.Mathlib.Omega.{arith}
use Rattle.lists.proofs.Summed.{sum_origin, sum_more, sum_end}
use Rattle.list_steps.proofs.plan_rows.Goals as goal

pub loop-i-init : goal.loop-i-init
loop-i-init c = (omega arith, sum_origin _ _ (omega arith))

pub loop-i-preserved : goal.loop-i-preserved
loop-i-preserved c =
    let i = c.loop-i.i in
    (omega arith, sum_more c.args.ws.now i (i - 1) c.loop-i.r c.with_stage-r.result (omega arith) (omega arith) c.loop-i.invariant.1 c.with_stage-r.ensures)

pub returns : goal.returns
returns c = sum_end c.args.ws.now c.loop-i.i c.loop-i.r (omega arith) c.loop-i.invariant.0 c.loop-i.invariant.1
