-- The invariant: the sum so far and what is left from `i` on make the whole; each word adds at most 2, so nothing wraps.
use mathlib.Core.Path.{◌≡◌}
use Prim.Native.Nat.{◌+◌, ◌*◌, ◌≤◌}
use lib.ListN.{drop}
use Rattle.plan_steps.specs.Extent.{extent_of}
use Rattle.plan_steps.proofs.total.Given as goal

abbrev pub invariant-loop-i : goal.invariant-loop-i
invariant-loop-i l = (l.sum ≤ 2 * l.i) × (l.sum + extent_of l.down (drop l.i l.ws) ≡ extent_of l.down (drop 2 l.ws))
