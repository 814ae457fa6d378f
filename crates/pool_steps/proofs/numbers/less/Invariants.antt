-- The invariant: the numbers before i are less.
use Rattle.std.proofs.Common.{◌≡◌, ℕ, ◌-◌, ◌<◌, length, get_or}
use Rattle.completions.specs.Completing.{number_in}
use Rattle.pool_steps.proofs.numbers.less.Given as goal

abbrev pub invariant-loop-i : goal.invariant-loop-i
invariant-loop-i l = (length l.r ≡ 18) × ((k : ℕ) → k < l.i → get_or l.r k 0 ≡ get_or l.need k 0 - number_in l.nums k l.m)
