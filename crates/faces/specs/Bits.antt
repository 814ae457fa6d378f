-- What the functions that look at faces answer. A set of numbers from 0 to 15 is a word, with bit k set where k lies in it.
use Rattle.std.specs.Prelude.{◌≡◌, ◌⊎◌, List, ℕ, ◌+◌, ◌≤◌, ◌<◌, get_or}
use Rattle.rows.specs.Cells.{At, bit}
use Rattle.edges.specs.Edges.{ahead, behind}
use Rattle.edges.specs.Numbers.{FirstIn}
use Rattle.faces.specs.Faces.{only_of, Fair}

-- the numbers of a word
abbrev pub Bits : ℕ → ℕ → Type 0
Bits b k = bit b k ≡ 1

-- b has the numbers of S
pub record Indicated (S : ℕ → Type 0) (b : ℕ) : Type 0 where
  pub to : (k : ℕ) → bit b k ≡ 1 → S k
  pub from : (k : ℕ) → S k → bit b k ≡ 1

-- r has the numbers of b with none a step later
pub record Ends (b step r : ℕ) : Type 0 where
  pub kept : (k : ℕ) → bit r k ≡ 1 → bit b k ≡ 1
  pub last : (k : ℕ) → bit r k ≡ 1 → bit b (k + step) ≡ 1 → ⊥
  pub from : (k : ℕ) → bit b k ≡ 1 → (bit b (k + step) ≡ 1 → ⊥) → bit r k ≡ 1

-- b has two numbers
pub record Two (b : ℕ) : Type 0 where
  pub low : ℕ
  pub high : ℕ
  pub apart : low < high
  pub first : bit b low ≡ 1
  pub second : bit b high ≡ 1

-- b has at most one number
pub record Lone (b : ℕ) : Type 0 where
  pub same : (j k : ℕ) → bit b j ≡ 1 → bit b k ≡ 1 → j ≡ k

-- r is 1 where s and v are the same, else 0
pub record Mark (s v r : ℕ) : Type 0 where
  pub small : r ≤ 1
  pub to : r ≡ 1 → s ≡ v
  pub from : s ≡ v → r ≡ 1

-- r is b, with y put to it where s and v are the same
pub record Marked (b s v y r : ℕ) : Type 0 where
  pub to : (k : ℕ) → bit r k ≡ 1 → (bit b k ≡ 1) ⊎ ((k ≡ y) × (s ≡ v))
  pub kept : (k : ℕ) → bit b k ≡ 1 → bit r k ≡ 1
  pub from : s ≡ v → bit r y ≡ 1

-- row y has a cell with the value s of direction i, which is kept 64 more than it is
pub record OnRow (i : ℕ) (cells : List ℕ) (s y : ℕ) : Type 0 where
  pub x : ℕ
  pub cell : At cells x y
  pub at : ahead i x y + 64 ≡ behind i x y + s

-- b has the rows before n that have a cell with the value s of direction i
pub record RowsTo (i : ℕ) (cells : List ℕ) (s n b : ℕ) : Type 0 where
  pub to : (y : ℕ) → bit b y ≡ 1 → OnRow i cells s y
  pub from : (y : ℕ) → y < n → OnRow i cells s y → bit b y ≡ 1

-- r is the row whose number is the first of b, or no cell where b has none
pub record RowAt (cells : List ℕ) (b r : ℕ) : Type 0 where
  pub none : b ≡ 0 → r ≡ 0
  pub some : 0 < b → (y : ℕ) × (FirstIn b y × (r ≡ get_or cells y 0))

-- the rows of each face are those that a sum of masks can have
pub record AllFair (rows : List ℕ) : Type 0 where
  pub fair : (i : ℕ) → i < 16 → Fair (only_of i) (Bits (get_or rows i 0))

-- the rows of a face are none that a sum of masks can have
pub record Unfair (rows : List ℕ) : Type 0 where
  pub i : ℕ
  pub inside : i < 16
  pub never : Fair (only_of i) (Bits (get_or rows i 0)) → ⊥
