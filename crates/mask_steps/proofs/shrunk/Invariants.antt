-- The invariant: the rows before y are made.
use Rattle.std.proofs.Common.{◌≡◌, length}
use Rattle.rows.proofs.Fill.{Filled}
use Rattle.rows.proofs.Strips.{rest_row}
use Rattle.mask_steps.proofs.shrunk.Given as goal

abbrev pub invariant-loop-y : goal.invariant-loop-y
invariant-loop-y l = (length l.r ≡ 16) × Filled (rest_row l.u l.m) (λ q. 0) 0 l.y l.r
