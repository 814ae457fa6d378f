-- The invariant: the count so far and those of the cells behind the chunks passed make the whole, which is at most the number of cells, so nothing wraps.
use mathlib.Core.Path.{◌≡◌}
use Prim.Native.Nat.{◌+◌, ◌*◌}
use lib.ListN.{drop}
use Rattle.cell_steps.specs.declared.TheConstants.{CHUNK}
use Rattle.cell_steps.specs.Leaves.{counts_of}
use Rattle.cell_steps.proofs.in_chunks.Given as goal

abbrev pub invariant-loop-i : goal.invariant-loop-i
invariant-loop-i l = l.n + counts_of l.v (drop (l.i * CHUNK) l.cells) ≡ counts_of l.v l.cells
