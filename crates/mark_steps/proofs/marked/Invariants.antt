-- The invariant: the masks before `m` have their marks.
use Rattle.masks.specs.Mask.{stage}
use Rattle.rows.specs.Cells.{At}
use Rattle.search.specs.Tree.{Candidates}
use Rattle.mark_steps.proofs.marked.Given as goal

abbrev pub invariant-loop-m : goal.invariant-loop-m
invariant-loop-m l = Candidates stage (At l.cells) l.m l.marks
