-- The bits of the word less those that have one a step later.
use Rattle.faces.proofs.BitEnds.{ends_of}
use Rattle.face_steps.proofs.ends.Goals as goal

pub returns : goal.returns
returns c = ends_of c.args.b c.args.step
