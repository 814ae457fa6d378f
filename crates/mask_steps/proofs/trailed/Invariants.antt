-- The invariant: the rows before y are copied.
use Rattle.std.proofs.Common.{◌≡◌, length}
use lib.ListN.{get_or}
use Rattle.rows.proofs.Fill.{Filled}
use Rattle.mask_steps.proofs.trailed.Given as goal

abbrev pub invariant-loop-y : goal.invariant-loop-y
invariant-loop-y l = (length l.r ≡ 18) × Filled (λ q. get_or l.t q 0) (λ q. 0) 0 l.y l.r
