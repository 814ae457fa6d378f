-- Each cell passed is the one of the other slice.
use lib.ListN.{get_or}
use Rattle.ranges.specs.Ranges.{Ranged}
use Rattle.ranges.proofs.copy.Given as goal

abbrev pub invariant-loop-k : goal.invariant-loop-k
invariant-loop-k l = Ranged 0 0 l.k (λ k. get_or l.s k 0) l.initial.d l.d
