-- Document 01, "Shortest plan": what the search answers for a set of cells. The permitted masks are a parameter; nothing here stands on the plane, so no
-- offset is spoken of.
use Rattle.std.specs.Prelude.{◌≡◌, Bool, not, List, ℕ, ◌≤◌, T, get_or, Option, MatchOption}
use Rattle.plane.specs.Lists.{all}
use Rattle.masks.specs.Chain.{falling, before}
use Rattle.rows.specs.Cells.{Cells, Same, AtSum, chosen}
use Rattle.search.specs.declared.Chosen.{Chosen}

-- ms are permitted masks, in any order, whose sum is A
pub record SumsTo (permitted : ℕ → Bool) (A : Cells) (ms : List ℕ) : Type 0 where
  pub masks : T (all permitted ms)
  pub sum : Same A (AtSum ms)

-- the plan that is picked was found: its stages never fall and sum to A, and no list of permitted stages that never falls and sums to A comes before it
pub record Found (permitted : ℕ → Bool) (A : Cells) (ms : List ℕ) : Type 0 where
  pub sums : SumsTo permitted A ms
  pub sorted : T (not (falling ms))
  pub first : (ns : List ℕ) → SumsTo permitted A ns → T (not (falling ns)) → T (not (before ns ms))

-- the plan that is picked for A, as an array has it, which is 0 past the stages
pub record Plan (permitted : ℕ → Bool) (A : Cells) (c : Chosen) : Type 0 where
  pub found : Found permitted A (chosen c.masks c.n)
  pub past : (i : ℕ) → c.n ≤ i → get_or c.masks i 0 ≡ 0

-- the answer for A: the plan that is picked, or that no list of permitted masks, of any length and in any order, sums to A
abbrev pub Shortest : (ℕ → Bool) → Cells → Option Chosen → Type 0
Shortest permitted A r = MatchOption r ((ms : List ℕ) → SumsTo permitted A ms → ⊥) (Plan permitted A)
