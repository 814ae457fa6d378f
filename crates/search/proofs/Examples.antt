-- A case of the order that picks: 3 then 7 is not found where 3 then 5 sums to the cells too.
use mathlib.Core.Bool.{Bool}
use mathlib.Core.List.{[], ◌∷◌}
use Prim.Native.Nat.{ℕ}
use Rattle.rows.specs.Cells.{Cells}
use Rattle.search.specs.Plans.{SumsTo, Found}

not_found : (permitted : ℕ → Bool) (A : Cells) → Found permitted A (3 ∷ 7 ∷ []) → SumsTo permitted A (3 ∷ 5 ∷ []) → ⊥
not_found permitted A f s = f.first (3 ∷ 5 ∷ []) s tt
