-- The invariant: r has the greater values of the directions before i.
use Rattle.std.proofs.Common.{◌≡◌, ℕ, ◌<◌, length}
use lib.ListN.{get_or}
use Rattle.edges.specs.Numbers.{Supported}
use Rattle.edge_steps.proofs.raised.Given as goal

abbrev pub invariant-loop-i : goal.invariant-loop-i
invariant-loop-i l = (length l.r ≡ 16) × ((k : ℕ) → k < l.i → Supported k l.first l.last l.y (get_or l.s k 0) (get_or l.r k 0))
