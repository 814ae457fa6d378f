-- Chunk after chunk; what is read is past what was written.
use Rattle.std.specs.Prelude.{◌+◌, get_or, min}
use Rattle.ranges.specs.Ranges.{Ranged}
use Rattle.rolling_steps.proofs.up.Given as goal

abbrev pub invariant-loop-p : goal.invariant-loop-p
invariant-loop-p l = Ranged 0 0 (min l.p l.n) (λ k. get_or l.initial.d (k + l.w) 0) l.initial.d l.d
