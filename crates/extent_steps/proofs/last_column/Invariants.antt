-- The invariant: the columns with a cell are before `last`.
use Rattle.rows.specs.Cells.{At}
use Rattle.extents.proofs.Search.{Below}
use Rattle.extents.specs.Extents.{column}
use Rattle.extent_steps.proofs.last_column.Given as goal

abbrev pub invariant-loop-last : goal.invariant-loop-last
invariant-loop-last l = Below column (At l.fn.a) l.last
