-- The invariant: the count so far and those of the cells to come make the whole; each cell adds at most 1, so a byte holds those of 255.
use mathlib.Core.Path.{◌≡◌}
use Prim.Native.Nat.{◌+◌, ◌≤◌}
use lib.ListN.{drop}
use Rattle.cell_steps.specs.Leaves.{counts_of}
use Rattle.cell_steps.proofs.in_chunk.Given as goal

abbrev pub invariant-loop-c : goal.invariant-loop-c
invariant-loop-c l = (l.n ≤ l.c-index) × (l.n + counts_of l.v (drop l.c-index l.cells) ≡ counts_of l.v l.cells)
