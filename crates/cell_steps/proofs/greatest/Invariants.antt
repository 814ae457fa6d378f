-- The invariant: the greatest so far and the cells to come have the greatest of all.
use mathlib.Core.Path.{◌≡◌}
use Prim.Native.Nat.{max}
use lib.ListN.{drop}
use Rattle.cell_steps.specs.Leaves.{greatest_of}
use Rattle.cell_steps.proofs.greatest.Given as goal

abbrev pub invariant-loop-c : goal.invariant-loop-c
invariant-loop-c l = max l.v (greatest_of (drop l.c-index l.cells)) ≡ greatest_of l.cells
