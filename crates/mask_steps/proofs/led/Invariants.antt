-- The invariant: the rows before y stand two rows on.
use Rattle.std.proofs.Common.{◌≡◌, ◌+◌, ◌-◌, length}
use lib.ListN.{get_or}
use Rattle.rows.proofs.Fill.{Filled}
use Rattle.mask_steps.proofs.led.Given as goal

abbrev pub invariant-loop-y : goal.invariant-loop-y
invariant-loop-y l = (length l.r ≡ 18) × Filled (λ q. get_or l.a (q - 2) 0) (λ q. 0) 2 (l.y + 2) l.r
