-- From the start: the path is empty, and the residue is the target.
use Rattle.completions.proofs.Nodes.{no_sum}
use Rattle.completion_steps.proofs.may_sum.Goals as goal

pub returns : goal.returns
returns c = λ e. no_sum _ _ _ _ _ _ (c.node.ensures e)
