-- The rows of the part are worked out into a part of the kept frame.
use Rattle.rolling_calls.proofs.Putting.{end_part, end_put}
use Rattle.rolling_calls.proofs.end.Goals as goal

pub returns : goal.returns
returns c = end_put c.requires (c.rows.ensures.through (end_part c.requires))
