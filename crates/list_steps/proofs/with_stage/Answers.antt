-- A stage word's mask is added.
use mathlib.Core.Path.{sym}
use lib.ListN.{get_or}
use Rattle.lists.proofs.Summed.{stage_sum}
use Rattle.list_steps.proofs.with_stage.Goals as goal

pub returns-in-Stage : goal.returns-in-Stage
returns-in-Stage c =
    stage_sum c.args.z c.mask_rows.result c.sum_of.result (get_or c.args.ws.now c.args.at 0) _ (sym c.in-Stage.ensures) c.mask_rows.ensures c.sum_of.ensures
