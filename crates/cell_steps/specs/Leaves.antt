-- What the loops over cells compute; proofs/ has that these are ground 13, the load and the number of measured cells.
use Rattle.std.specs.Prelude.{◌≡◌, List, [], ◌∷◌, cond, ℕ, ◌+◌, ◌≤◌, ◌<◌, max, eqb, length}
use Rattle.plane.specs.Lists.{keep}
use Rattle.grids.specs.Image.{fold}

-- the greatest of some bytes; 0 where there is none
abbrev pub greatest_of : List ℕ → ℕ
greatest_of f = fold max 0 f

-- what a cell adds to the count of cells that are v
abbrev pub count_of : ℕ → ℕ → ℕ
count_of v c = cond (eqb c v) 1 0

-- the counts of some cells together
abbrev pub counts_of : ℕ → List ℕ → ℕ
counts_of v [] = 0
counts_of v (c ∷ cs) = count_of v c + counts_of v cs

-- the number of cells that are v
unfoldable pub times_of : ℕ → List ℕ → ℕ
times_of v f = length (keep (λ c. eqb c v) f)

-- that number, of 2,147,483,647 cells at most; 0 where there are more
pub record Counted (v : ℕ) (f : List ℕ) (r : ℕ) : Type 0 where
  pub few : length f ≤ 0x7fffffff → r ≡ times_of v f
  pub many : 0x7fffffff < length f → r ≡ 0
