-- Document 01, "Words" and "Stages and plans": the cells of a mask, stages, and normal position with its rule (document 02, W4).
use Rattle.std.specs.Prelude.{◌≡◌, ◌≢◌, Bool, cond, ◌&&◌, List, map, ℕ, ◌+◌, ◌*◌, ◌/◌, ◌%◌, ◌^◌, T, leb, ltb, eqb, length}
use Rattle.plane.specs.Lists.{In, any, bits}
use Rattle.plane.specs.Point.{Point, PointSet, Cell, point, ◌≐◌, moved}

-- cell (i, j) of a mask, i and j from 0 to 2, is bit 3j + i
unfoldable pub mask_cells : ℕ → List Cell
mask_cells m = map (λ k. (k % 3, k / 3)) (bits 9 m)

abbrev pub mask_points : ℕ → List Point
mask_points m = map point (mask_cells m)

-- the set of points (i, j) that a mask is
abbrev pub Mask : ℕ → PointSet
Mask m = In (mask_points m)

-- some cell is in column i, or in row j
abbrev pub has_column : ℕ → ℕ → Bool
has_column i m = any (λ c. eqb c.0 i) (mask_cells m)

abbrev pub has_row : ℕ → ℕ → Bool
has_row j m = any (λ c. eqb c.1 j) (mask_cells m)

-- in normal position: a cell with i = 0 and a cell with j = 0
unfoldable pub normal : ℕ → Bool
unfolding mask_cells
normal m = has_column 0 m && has_row 0 m

-- a stage: a mask in normal position with two cells or more
unfoldable pub stage : ℕ → Bool
unfolding mask_cells normal
stage m = ltb m 512 && normal m && leb 2 (length (mask_cells m))

-- ---- normal position

-- how many columns, and how many rows, are empty before the first with a cell
unfoldable pub column_shift : ℕ → ℕ
unfolding mask_cells
column_shift m = cond (has_column 0 m) 0 (cond (has_column 1 m) 1 2)

unfoldable pub row_shift : ℕ → ℕ
unfolding mask_cells
row_shift m = cond (has_row 0 m) 0 (cond (has_row 1 m) 1 2)

-- the mask shifted down by rows until row 0 has a cell, then by columns until column 0 has one; 0 for 0
unfoldable pub normal_of : ℕ → ℕ
unfolding column_shift row_shift
normal_of m = m / 2 ^ (3 * row_shift m + column_shift m)

-- the rule of the normal position n of the mask m: it is normal and a move of the mask; 0 for 0
pub record NormalPosition (m n : ℕ) : Type 0 where
  pub entry : n ≡ normal_of m
  pub zero : m ≡ 0 → n ≡ 0
  pub normal_is : m ≢ 0 → T (normal n)
  pub shift : Point
  pub move : Mask m ≐ moved shift (Mask n)
