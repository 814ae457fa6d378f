-- Bits, as a plane has them: what a stage makes of zeros and ones, by or and by and; and the two levels of a picture of three values (document 02, W5), each of
-- which is such a picture.
use Rattle.std.specs.Prelude.{Bool, true, false, cond, List, ℕ, ◌-◌, ◌%◌, min, max, eqb}
use Rattle.plane.specs.Point.{Point}
use Rattle.grids.specs.Image.{taken}

-- the pick of two bits, both of them for erosion and either for dilation, and what each begins with
abbrev pub bit_pick : Bool → ℕ → ℕ → ℕ
bit_pick true = min
bit_pick false = max

abbrev pub bit_seed : Bool → ℕ
bit_seed true = 1
bit_seed false = 0

-- a picture of zeros and ones taken through a list of points, by erosion or by dilation
abbrev pub bits_over : Bool → List Point → (Point → ℕ) → Point → ℕ
bits_over erode P f = taken erode (bit_pick erode) (bit_seed erode) P f

-- ---- levels

-- whether a cell is 1, or whether it is not 0
abbrev pub level : Bool → ℕ → ℕ
level false v = cond (eqb v 1) 1 0
level true v = cond (eqb v 0) 0 1

-- the bit that says so of a cell that is 0, 1 or 2: its lowest, or whether it is not 0
abbrev pub level_bit : Bool → ℕ → ℕ
level_bit false c = c % 2
level_bit true c = cond (eqb c 0) 0 1

-- the cell that has these two levels: 0 where it is 0, else 1 or 2
abbrev pub of_levels : ℕ → ℕ → ℕ
of_levels one some = cond (eqb some 0) 0 (2 - one)
