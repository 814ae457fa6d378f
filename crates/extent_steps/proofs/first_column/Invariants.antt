-- The invariant: the columns with a cell are `first` or after it.
use Rattle.rows.specs.Cells.{At}
use Rattle.extents.proofs.Search.{From}
use Rattle.extents.specs.Extents.{column}
use Rattle.extent_steps.proofs.first_column.Given as goal

abbrev pub invariant-loop-first : goal.invariant-loop-first
invariant-loop-first l = From column (At l.fn.a) l.first
