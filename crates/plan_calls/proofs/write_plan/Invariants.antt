-- The invariant: out holds the head, the place and the first i stages, and past them what it held.
use mathlib.Core.Path.{◌≡◌}
use Prim.Native.Nat.{◌≤◌}
use lib.ListN.{length}
use Rattle.plan_calls.proofs.Words.{WrittenTo}
use Rattle.plan_calls.proofs.write_plan.Given as goal

abbrev pub invariant-loop-i : goal.invariant-loop-i
invariant-loop-i l = (l.n ≤ 30) × (32 ≤ length l.initial.out) × ((length l.out ≡ length l.initial.out) × WrittenTo l.x l.y l.masks l.n l.initial.out l.i l.out)
