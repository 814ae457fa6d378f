use Rattle.completions.proofs.Covering.{carried_none, carried_more}
use Rattle.path_steps.proofs.carried.Goals as goal

pub loop-j-init : goal.loop-j-init
loop-j-init c = carried_none _ _

pub loop-j-preserved : goal.loop-j-preserved
loop-j-preserved c = carried_more _ _ _ _ _ c.loop-j.invariant c.grown-next.ensures
