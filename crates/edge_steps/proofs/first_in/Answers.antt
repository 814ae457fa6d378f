-- The zeros below the lowest bit are the column of the first cell.
use mathlib.Core.Path.{◌∙◌, ap}
use lib.Count.{count_trailing_zeros, trailing_le}
use Rattle.edges.proofs.Columns.{first_of, none_16}
use native.Mathlib.Omega.{arith}
use Rattle.edge_steps.proofs.first_in.Goals as goal

pub overflow_cast-result : goal.overflow_cast-result
overflow_cast-result c = omega (arith, trailing_le 16 c.args.row)

pub returns : goal.returns
returns c = record { some = λ p. first_of 16 c.args.row p (omega arith); none = λ e. ap (count_trailing_zeros 16) e ∙ none_16 }
