-- The faces of a set of cells. The face in a direction is the cells where the direction has its greatest value; seen along rows or columns it is a set of
-- numbers, its shadow. The face of X ⊕ Y is the sum of the faces, so of a sum of 3×3 masks a shadow is a run or every second number, and in some directions
-- only the one or only the other.
use Rattle.std.specs.Prelude.{◌≡◌, ◌⊎◌, List, [], ◌∷◌, ℕ, ◌+◌, ◌<◌, get_or}
use Rattle.rows.specs.Cells.{Cells, Same, AtSum}
use Rattle.edges.specs.Edges.{Top}
use Rattle.extents.specs.Extents.{row, column}

-- k is the number, row or column, of a cell where direction i has its greatest value on X
pub record Shadow (number : ℕ → ℕ → ℕ) (i : ℕ) (X : Cells) (k : ℕ) : Type 0 where
  pub x : ℕ
  pub y : ℕ
  pub top : Top i X x y
  pub at : number x y ≡ k

-- each number of S but the greatest has one a step later; with 1 a finite S is a run, with 2 it is every second number
pub record Spaced (step : ℕ) (S : ℕ → Type 0) : Type 0 where
  pub next : (a b : ℕ) → S a → S b → a < b → S (a + step)

-- the one step that the rows of a face can have in direction i; 0 where 1 and 2 both can
unfoldable pub only_of : ℕ → ℕ
only_of i = get_or (0 ∷ 2 ∷ 0 ∷ 1 ∷ 0 ∷ 1 ∷ 0 ∷ 2 ∷ 0 ∷ 2 ∷ 0 ∷ 1 ∷ 0 ∷ 1 ∷ 0 ∷ 2 ∷ []) i 0

-- S is spaced by 1 or by 2, and by that one where it is given
abbrev pub Fair : ℕ → (ℕ → Type 0) → Type 0
Fair only S = ((only ≡ 2 → ⊥) × Spaced 1 S) ⊎ ((only ≡ 1 → ⊥) × Spaced 2 S)

-- the rows of each face of X are those that a sum of masks can have, and so are the columns of its last row and of its first, the faces in (0, 1) and (0, −1)
pub record FairFaces (X : Cells) : Type 0 where
  pub rows : (i : ℕ) → i < 16 → Fair (only_of i) (Shadow row i X)
  pub last : Fair 0 (Shadow column 4 X)
  pub first : Fair 0 (Shadow column 12 X)

-- no list of masks sums to X
pub record NeverSum (X : Cells) : Type 0 where
  pub no : (L : List ℕ) → Same X (AtSum L) → ⊥
