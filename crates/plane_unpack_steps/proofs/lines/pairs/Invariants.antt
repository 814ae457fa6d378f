-- Each byte passed is the cell.
use Rattle.ranges.specs.Ranges.{Ranged}
use Rattle.plane_unpack_steps.specs.Pairs.{pair_bit}
use Rattle.plane_unpack_steps.proofs.lines.pairs.Given as goal

abbrev pub invariant-loop-k : goal.invariant-loop-k
invariant-loop-k l = Ranged 0 0 l.k (pair_bit l.s l.t l.j) l.initial.d l.d
