-- What the functions that find the numbers of rows answer. A greatest value is kept 64 more than it is, so that it is never below 0; no value at all is 0.
use Rattle.std.specs.Prelude.{◌≡◌, ◌⊎◌, List, ℕ, ◌+◌, ◌*◌, ◌≤◌, ◌<◌, get_or}
use Rattle.rows.specs.Cells.{At, bit}
use Rattle.edges.specs.Edges.{ahead, behind, Number}

-- r is the column of the first cell of a row
pub record FirstIn (row r : ℕ) : Type 0 where
  pub cell : bit row r ≡ 1
  pub all : (x : ℕ) → bit row x ≡ 1 → r ≤ x

-- r is the column of a row's first cell, and 16 where it has none
pub record FirstFound (row r : ℕ) : Type 0 where
  pub some : 0 < row → FirstIn row r
  pub none : row ≡ 0 → r ≡ 16

-- r is the column of the last cell of a row
pub record LastIn (row r : ℕ) : Type 0 where
  pub cell : bit row r ≡ 1
  pub all : (x : ℕ) → bit row x ≡ 1 → x ≤ r

-- r is the greater of a and b
pub record Greater (a b r : ℕ) : Type 0 where
  pub left : a ≤ r
  pub right : b ≤ r
  pub one : (r ≡ a) ⊎ (r ≡ b)

-- r is the greater of s and the greatest value of direction i on row y, whose cells reach from column first to column last
pub record Supported (i first last y s r : ℕ) : Type 0 where
  pub kept : s ≤ r
  pub over : ahead i last y + 64 ≤ behind i first y + r
  pub one : (r ≡ s) ⊎ (ahead i last y + 64 ≡ behind i first y + r)

-- a row of the window is before r where it is before n
pub record Clipped (n r : ℕ) : Type 0 where
  pub small : r ≤ 16
  pub kept : r ≤ n
  pub rows : (y : ℕ) → y < 16 → y < n → y < r

-- a cell before row n has the value r of direction i
pub record Attained (i : ℕ) (cells : List ℕ) (n r : ℕ) : Type 0 where
  pub x : ℕ
  pub y : ℕ
  pub cell : At cells x y
  pub before : y < n
  pub at : ahead i x y + 64 ≡ behind i x y + r

-- r is the greatest value of direction i on the cells before row n, or 0 where there is none
pub record Topped (i : ℕ) (cells : List ℕ) (n r : ℕ) : Type 0 where
  pub all : (x y : ℕ) → At cells x y → y < n → ahead i x y + 64 ≤ behind i x y + r
  pub some : (r ≡ 0) ⊎ Attained i cells n r

-- r is the greatest value of direction i on the cells of a row that is row y
pub record RowTopped (i row y r : ℕ) : Type 0 where
  pub all : (x : ℕ) → bit row x ≡ 1 → ahead i x y + 64 ≤ behind i x y + r
  pub x : ℕ
  pub cell : bit row x ≡ 1
  pub at : ahead i x y + 64 ≡ behind i x y + r

-- r has the greatest values of the sixteen directions on a row that is row y of the window, and zeros where it has no cell or is not of the window
pub record RowTops (row y : ℕ) (r : List ℕ) : Type 0 where
  pub some : (i : ℕ) → i < 16 → 0 < row → y < 16 → RowTopped i row y (get_or r i 0)
  pub none : (row ≡ 0) ⊎ (16 ≤ y) → (i : ℕ) → get_or r i 0 ≡ 0

-- the greatest values s and u of two directions, less t times the value m of a third, are from 0 to 120
pub record Fits (s u m t : ℕ) : Type 0 where
  pub first : s ≤ 124
  pub second : u ≤ 124
  pub middle : m ≤ 124
  pub times : t ≤ 4
  pub low : t * m + 128 ≤ s + u + t * 64
  pub high : s + u + t * 64 ≤ t * m + 248

-- (x, y) is a cell of the rows before row n
pub record Front (cells : List ℕ) (n x y : ℕ) : Type 0 where
  pub cell : At cells x y
  pub before : y < n

-- r has the eighteen numbers of the cells before row n, and zeros where there is none
pub record Numbered (cells : List ℕ) (n : ℕ) (r : List ℕ) : Type 0 where
  pub number : (x y : ℕ) → Front cells n x y → (i : ℕ) → i < 18 → Number i (Front cells n) (get_or r i 0)
  pub none : ((x y : ℕ) → Front cells n x y → ⊥) → (i : ℕ) → get_or r i 0 ≡ 0
