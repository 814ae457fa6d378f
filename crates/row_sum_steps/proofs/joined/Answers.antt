-- b put onto a, unmoved, has the cells of both.
use Rattle.rows.proofs.Known.{rows16}
use Rattle.rows.proofs.Joins.{onto_joined}
use Rattle.row_sum_steps.proofs.joined.Goals as goal

pub returns : goal.returns
returns c = onto_joined c.args.a c.args.b c.onto.result (rows16 c.args.b _ c.well_formed.1.0) c.onto.ensures
