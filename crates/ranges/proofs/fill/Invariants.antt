-- Each cell passed has the value.
use Rattle.ranges.specs.Ranges.{Ranged}
use Rattle.ranges.proofs.fill.Given as goal

abbrev pub invariant-loop-k : goal.invariant-loop-k
invariant-loop-k l = Ranged 0 0 l.k (λ _. l.value) l.initial.d l.d
