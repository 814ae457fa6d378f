-- What the test on what the three rows read says.
use Prim.Native.Nat.{ℕ, ◌+◌, ◌*◌, ◌-◌, ◌≤◌}
use native.Mathlib.Omega.{arith}
use lib.Dec.{T}
use borrow.Author.Tests.{le-leb}
use Rattle.plane_pass_steps.specs.Passes.{reads_fit}
use Rattle.plane_row_steps.specs.MaskRows.{rows_fit}

pub rows_there : (n m s : ℕ) → s ≤ 65537 → n + (2 * s + 4) ≤ m → T (rows_fit n m s)
rows_there n m s h l = rw (le-leb s 65537 h, le-leb (2 * s + 4) m (omega arith), le-leb n (m - (2 * s + 4)) (omega arith)) tt

-- what a pass reads is there
pub reads_there : (n m c x y z : ℕ) → n + (x + c) ≤ m → n + (y + c) ≤ m → n + (z + c) ≤ m → T (reads_fit n m c x y z)
reads_there n m c x y z h i j =
    rw (le-leb c m (omega arith), le-leb (n + x) (m - c) (omega arith), le-leb (n + y) (m - c) (omega arith), le-leb (n + z) (m - c) (omega arith)) tt
