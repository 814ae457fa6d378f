-- The invariant: the best so far is needed, or none before i is needed.
use Rattle.std.proofs.Common.{◌≡◌, ℕ, ◌<◌, get_or}
use Rattle.std.specs.Prelude.{MatchOption}
use Rattle.pool_steps.proofs.pools.scarce.Given as goal

abbrev pub invariant-loop-i : goal.invariant-loop-i
invariant-loop-i l = MatchOption l.best ((k : ℕ) → k < l.i → get_or l.need k 0 ≡ 0) (λ b. (b < 18) × (0 < get_or l.need b 0))
