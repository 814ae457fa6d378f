use Rattle.rows.specs.Leaves.{hold}
use Rattle.mask_steps.proofs.strip_residue.Goals as goal

pub returns : goal.returns
unfolding hold
returns c = cc (c.held.ensures, c.held-2.ensures, c.held-3.ensures)
