-- How far the cells of the window reach: the least and the greatest column or row with a cell, and what the functions that look for them answer.
use Rattle.std.specs.Prelude.{◌≡◌, List, ℕ, Option, None, Some, ◌≤◌, ◌<◌}
use Rattle.rows.specs.Cells.{Cells, At, bit}

-- X has no cell
pub record NoCell (X : Cells) : Type 0 where
  pub no : (x y : ℕ) → X x y → ⊥

-- X has a cell
pub record SomeCell (X : Cells) : Type 0 where
  pub x : ℕ
  pub y : ℕ
  pub cell : X x y

-- the row of a cell
abbrev pub row : ℕ → ℕ → ℕ
row x y = y

-- the column of a cell
abbrev pub column : ℕ → ℕ → ℕ
column x y = x

-- the least number of a cell of X, its column or its row, is n
pub record Least (number : ℕ → ℕ → ℕ) (X : Cells) (n : ℕ) : Type 0 where
  pub x : ℕ
  pub y : ℕ
  pub cell : X x y
  pub at : number x y ≡ n
  pub all : (x y : ℕ) → X x y → n ≤ number x y

-- the greatest number of a cell of X, its column or its row, is n
pub record Greatest (number : ℕ → ℕ → ℕ) (X : Cells) (n : ℕ) : Type 0 where
  pub x : ℕ
  pub y : ℕ
  pub cell : X x y
  pub at : number x y ≡ n
  pub all : (x y : ℕ) → X x y → number x y ≤ n

-- what a search for the least number of a cell of X answers: None where X has none
abbrev pub FirstOf : (ℕ → ℕ → ℕ) → Cells → Option ℕ → Type 0
FirstOf number X None = NoCell X
FirstOf number X (Some n) = Least number X n

-- what a search for the greatest number of a cell of X answers: None where X has none
abbrev pub LastOf : (ℕ → ℕ → ℕ) → Cells → Option ℕ → Type 0
LastOf number X None = NoCell X
LastOf number X (Some n) = Greatest number X n

-- bit x of r is set where a has a cell in column x before row n
pub record Columns (a : List ℕ) (n r : ℕ) : Type 0 where
  pub to : (x : ℕ) → bit r x ≡ 1 → (y : ℕ) × At a x y
  pub from : (x y : ℕ) → y < n → At a x y → bit r x ≡ 1
