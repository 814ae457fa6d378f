-- The invariant: s has the greatest values on the rows before y.
use Rattle.std.proofs.Common.{ℕ, ◌<◌}
use lib.ListN.{get_or}
use Rattle.edges.specs.Numbers.{Topped}
use Rattle.edge_steps.proofs.tops.Given as goal

abbrev pub invariant-loop-y : goal.invariant-loop-y
invariant-loop-y l = (i : ℕ) → i < 16 → Topped i l.cells l.y (get_or l.s i 0)
