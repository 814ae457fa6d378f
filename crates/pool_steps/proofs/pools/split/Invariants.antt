-- The invariant: of the masks so far those without the number are in the one list and those with it in the other.
use Rattle.std.proofs.Common.{◌≡◌, ◌+◌, length}
use Rattle.completions.proofs.Drawing.{SplitTo}
use Rattle.pool_steps.proofs.pools.split.Given as goal

abbrev pub invariant-loop-m : goal.invariant-loop-m
invariant-loop-m l = (l.p + l.q ≡ l.m-index) × (length l.initial.list ≡ 512 → SplitTo l.nums l.masks l.i l.list l.other l.p l.q l.m-index)
