-- What is written to a run of bytes, bit by bit: bit q of a byte, q below 8, is a cell.
use Rattle.std.specs.Prelude.{◌≡◌, List, ℕ, ◌<◌, ◌≤◌, length, get_or}
use Rattle.rows.specs.Cells.{bit}

-- d' is d with bit q of byte k as F says, from byte p to byte e
pub record Bitted (p e : ℕ) (F : ℕ → ℕ → ℕ) (d d' : List ℕ) : Type 0 where
  pub len : length d' ≡ length d
  pub at : (k q : ℕ) → p ≤ k → k < e → q < 8 → bit (get_or d' k 0) q ≡ F k q
  pub below : (k : ℕ) → k < p → get_or d' k 0 ≡ get_or d k 0
  pub above : (k : ℕ) → e ≤ k → get_or d' k 0 ≡ get_or d k 0
