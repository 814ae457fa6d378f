-- Each byte passed is the bit.
use lib.ListN.{get_or}
use Rattle.rows.specs.Cells.{bit}
use Rattle.ranges.specs.Ranges.{Ranged}
use Rattle.plane_unpack_steps.proofs.lines.cells.Given as goal

abbrev pub invariant-loop-k : goal.invariant-loop-k
invariant-loop-k l = Ranged 0 0 l.k (λ k. bit (get_or l.s k 0) l.j) l.initial.d l.d
