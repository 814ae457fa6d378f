-- The invariant: the greatest excess so far is 0 exactly where the numbers before i are at most what is needed.
use Rattle.std.proofs.Common.{◌≡◌, ℕ, ◌<◌, ◌≤◌, get_or}
use Rattle.completions.specs.Completing.{number_in, Fit}
use Rattle.pool_steps.proofs.numbers.fits.Given as goal

abbrev pub invariant-loop-i : goal.invariant-loop-i
invariant-loop-i l = (l.over ≡ 0 → (k : ℕ) → k < l.i → number_in l.nums k l.m ≤ get_or l.need k 0) × (Fit (number_in l.nums) l.need l.m → l.over ≡ 0)
