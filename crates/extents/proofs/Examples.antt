-- A worked case.
use mathlib.Core.Path.{refl}
use mathlib.Core.List.{[], ◌∷◌}
use Prim.Native.Nat.{ℕ, zero, suc, ◌≤◌}
use native.Mathlib.Omega.{arith}
use Rattle.rows.specs.Cells.{At}
use Rattle.rows.proofs.RowBits.{no_bit}
use Rattle.extents.specs.Extents.{Least, row}

-- row 1 is the first with a cell
first_cell : Least row (At (0 ∷ 4 ∷ [])) 1
first_cell = record { x = 2; y = 1; cell = refl; at = refl; all = from_row_1 }
  where
    from_row_1 : (x y : ℕ) → At (0 ∷ 4 ∷ []) x y → 1 ≤ y
    from_row_1 x zero h = absurd (no_bit x h)
    from_row_1 x (suc y) h = omega arith
