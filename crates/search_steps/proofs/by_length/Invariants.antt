-- The invariant: no list of fewer than n stages sums to the cells.
use Rattle.masks.specs.Mask.{stage}
use Rattle.rows.specs.Cells.{At}
use Rattle.search.proofs.Lengths.{NoneBelow}
use Rattle.search_steps.proofs.by_length.Given as goal

abbrev pub invariant-loop-n : goal.invariant-loop-n
invariant-loop-n l = NoneBelow stage (λ m t. t) (At l.cells) l.n
