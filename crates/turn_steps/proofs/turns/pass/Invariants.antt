-- The invariant: the stages before word k were run, and those that are left take the grid that is shown to the last one.
use Rattle.turn_steps.proofs.Alternating.{Midway}
use Rattle.turn_steps.proofs.turns.pass.Given as goal

abbrev pub invariant-loop-k : goal.invariant-loop-k
invariant-loop-k l = Midway l.erode l.outside l.plan l.w l.h l.t l.initial.first l.initial.second l.k l.n l.first l.second
