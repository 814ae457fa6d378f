-- The sum of the stages that the list holds, at the place that it holds, is the shape of its points.
use Rattle.shape_calls.proofs.Turning.{plan_read}
use Rattle.shape_calls.proofs.Calls.{plan_clear}
use Rattle.rows.proofs.Known.{rows16}
use Rattle.shape_calls.proofs.read_plan.Goals as goal

pub returns : goal.returns
returns c =
    let ws = c.args.ws.now in
    let a = c.read_place-place in
    let r = c.plan_rows-rows in
    plan_read ws (plan_clear ws c.requires) r.result (rows16 r.result _ r.type_inv) r.ensures a.result.x a.result.y a.ensures.0 a.ensures.1
