-- Eight cases.
use Rattle.plane_unpack_steps.proofs.Masks.{mask_is}
use Rattle.plane_unpack_steps.proofs.lines.mask.Goals as goal

pub returns : goal.returns
returns c = mask_is c.args.j c.requires
