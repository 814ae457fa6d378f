-- What the functions on rows answer, by the cells of their results.
use Rattle.std.specs.Prelude.{◌≡◌, ◌⊎◌, List, ℕ, ◌+◌, ◌-◌, ◌*◌, ◌/◌, ◌%◌, ◌^◌, ◌<◌}
use Rattle.std.specs.Int.Bits.{bit_and, bit_or}
use Rattle.rows.specs.Cells.{Cells, Sum, At, bit}

-- (x, y) is a cell of X moved by (i, j)
pub record MovedCell (X : Cells) (i j x y : ℕ) : Type 0 where
  pub x1 : ℕ
  pub y1 : ℕ
  pub was : X x1 y1
  pub at_x : x1 + i ≡ x
  pub at_y : y1 + j ≡ y

-- r is z with a, moved by (i, j), put onto it, cut to the window
pub record Onto (z a : List ℕ) (i j : ℕ) (r : List ℕ) : Type 0 where
  pub to : (x y : ℕ) → At r x y → At z x y ⊎ MovedCell (At a) i j x y
  pub kept : (x y : ℕ) → At z x y → At r x y
  pub from : (x y : ℕ) → At a x y → x + i < 16 → y + j < 16 → At r (x + i) (y + j)

-- r is z without the cells that (i, j) does not move into t
pub record Under (z t : List ℕ) (i j : ℕ) (r : List ℕ) : Type 0 where
  pub kept : (x y : ℕ) → At r x y → At z x y
  pub to : (x y : ℕ) → At r x y → At t (x + i) (y + j)
  pub from : (x y : ℕ) → At z x y → At t (x + i) (y + j) → At r x y

-- r is the part of a ⊕ b that lies in the window
pub record SumOf (a b r : List ℕ) : Type 0 where
  pub to : (x y : ℕ) → At r x y → Sum (At a) (At b) x y
  pub from : (x y : ℕ) → Sum (At a) (At b) x y → x < 16 → y < 16 → At r x y

-- r is z with a, moved by (i, j) for each bit i < n of b, put onto it
pub record RowSum (z a : List ℕ) (b j n : ℕ) (r : List ℕ) : Type 0 where
  pub to : (x y : ℕ) → At r x y → At z x y ⊎ ((i : ℕ) × ((bit b i ≡ 1) × MovedCell (At a) i j x y))
  pub kept : (x y : ℕ) → At z x y → At r x y
  pub from : (i : ℕ) → i < n → bit b i ≡ 1 → (x y : ℕ) → At a x y → x + i < 16 → y + j < 16 → At r (x + i) (y + j)

-- r is the sum of a and the rows of b before n
pub record SumTo (a b : List ℕ) (n : ℕ) (r : List ℕ) : Type 0 where
  pub to : (x y : ℕ) → At r x y → Sum (At a) (At b) x y
  pub from : (i j : ℕ) → j < n → At b i j → (x y : ℕ) → At a x y → x + i < 16 → y + j < 16 → At r (x + i) (y + j)

-- the cells of X and of Y
abbrev pub Either : Cells → Cells → Cells
Either X Y x y = X x y ⊎ Y x y

-- the cells of X, moved by (−i, −j)
abbrev pub Lowered : Cells → ℕ → ℕ → Cells
Lowered X i j x y = X (x + i) (y + j)

-- Y has the cells of X moved by (i, j) that lie in the window
pub record Raised (X : Cells) (i j : ℕ) (Y : Cells) : Type 0 where
  pub to : (x y : ℕ) → Y x y → MovedCell X i j x y
  pub from : (x y : ℕ) → X x y → x + i < 16 → y + j < 16 → Y (x + i) (y + j)

-- ---- by a mask

-- a row moved by i columns and cut, where the mask has bit c; else 0
abbrev pub moved_of : ℕ → ℕ → ℕ → ℕ → ℕ
moved_of a m i c = bit_and (a * 2 ^ i % 65536) (bit m c * 65535)

-- the sum of a row and the three bits of the mask from s on
unfoldable pub strip : ℕ → ℕ → ℕ → ℕ
strip a m s = bit_or (bit_or (moved_of a m 0 s) (moved_of a m 1 (s + 1))) (moved_of a m 2 (s + 2))

-- a row moved back by i columns, where the mask has bit c; else ones
abbrev pub held_of : ℕ → ℕ → ℕ → ℕ → ℕ
held_of t m i c = bit_or (t / 2 ^ i) ((1 - bit m c) * 65535)

-- what the three bits of the mask from s on leave of a row
unfoldable pub hold : ℕ → ℕ → ℕ → ℕ
hold t m s = bit_and (bit_and (held_of t m 0 s) (held_of t m 1 (s + 1))) (held_of t m 2 (s + 2))
