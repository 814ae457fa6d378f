-- How far a mask goes from 0, by arithmetic on the mask. Of a stage, these are its extents.
use Rattle.std.specs.Prelude.{Bool, cond, ℕ, ◌+◌, ◌/◌, ◌%◌, leb, ltb}

-- a mask's last row with a cell, and its last column with one; 0 where there is none
abbrev pub last_row : ℕ → ℕ
last_row m = cond (leb 64 m) 2 (cond (leb 8 m) 1 0)

abbrev pub last_column : ℕ → ℕ
last_column m = cond (ltb 0 (m / 4 % 2 + m / 32 % 2 + m / 256 % 2)) 2 (cond (ltb 0 (m / 2 % 2 + m / 16 % 2 + m / 128 % 2)) 1 0)

-- how far a mask goes from 0, down its rows or across its columns
abbrev pub reach : Bool → ℕ → ℕ
reach down m = cond down (last_row m) (last_column m)
