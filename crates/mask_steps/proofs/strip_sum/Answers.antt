use Rattle.rows.specs.Leaves.{strip}
use Rattle.mask_steps.proofs.strip_sum.Goals as goal

pub returns : goal.returns
unfolding strip
returns c = cc (c.moved.ensures, c.moved-2.ensures, c.moved-3.ensures)
