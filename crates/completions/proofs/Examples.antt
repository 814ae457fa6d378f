-- A case of what is said where nothing completes a sum: not one mask of the list does, either.
use mathlib.Core.Path.{sym}
use mathlib.Core.Logic.{⊎_elim}
use mathlib.Core.Bool.{Bool}
use mathlib.Core.List.{List, [], ◌∷◌}
use Prim.Native.Nat.{ℕ}
use native.Mathlib.Omega.{arith}
use Rattle.rows.specs.Cells.{Cells}
use Rattle.completions.specs.Completing.{Fills, None}

not_one : (permitted : ℕ → Bool) (A Y : Cells) (m : ℕ) (xs : List ℕ) → None permitted A Y (m ∷ xs) 1 1 → Fills permitted A Y (m ∷ []) → ⊥
not_one permitted A Y m xs h f =
    h.no (m ∷ []) f (λ n i. ⊎_elim (λ e. record { at = 0; before = omega arith; is = sym e }) (λ z. absurd z) i) (omega arith)
