-- A row of bytes of two planes, which has both levels of a row of cells; of one plane where the two are the same.
use Rattle.std.specs.Prelude.{◌≡◌, Bool, false, List, ℕ, ◌<◌, length, get_or}
use Rattle.rows.specs.Cells.{bit}
use Rattle.planes.specs.Bits.{of_levels}

-- cell k, whose levels are bit j of byte k of both
abbrev pub pair_bit : List ℕ → List ℕ → ℕ → ℕ → ℕ
pair_bit s t j k = of_levels (bit (get_or s k 0) j) (bit (get_or t k 0) j)

-- two rows as long as each other, the same where there is one plane, and a bit of theirs
pub record Rows (s t : List ℕ) (j : ℕ) (two : Bool) : Type 0 where
  pub size : length t ≡ length s
  pub same : two ≡ false → t ≡ s
  pub low : j < 8
