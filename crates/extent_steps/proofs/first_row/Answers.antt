use Rattle.std.proofs.Common.{rules}
use Rattle.rows.proofs.Known.{rows16}
use Rattle.extents.proofs.Search.{first_row_of}
use Rattle.extent_steps.proofs.first_row.Goals as goal

pub returns : goal.returns
returns c = first_row_of c.args.a (rows16 c.args.a _ c.well_formed.0) _ (search rules)
