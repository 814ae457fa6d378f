-- What is written again after a stage, so that a plane holds the value outside wherever it has no cell of the picture.
use Rattle.std.specs.Prelude.{◌≡◌, cond, List, ℕ, ◌+◌, ◌*◌, ◌<◌, ◌≤◌, ltb, length, get_or}
use Rattle.rows.specs.Cells.{bit}

-- bit q of byte k of d where it is one of the r lowest, else of v
abbrev pub trimmed_bit : ℕ → ℕ → List ℕ → ℕ → ℕ → ℕ
trimmed_bit r v d k q = cond (ltb q r) (bit (get_or d k 0) q) (bit v q)

-- d' is d with v at the first two bytes of each of the rows 1 to n, of s bytes a row
pub record Padded (s n v : ℕ) (d d' : List ℕ) : Type 0 where
  pub len : length d' ≡ length d
  pub at : (r x : ℕ) → 0 < r → r ≤ n → x < 2 → get_or d' (r * s + x) 0 ≡ v
  pub rest : (r x : ℕ) → 2 ≤ x → x < s → get_or d' (r * s + x) 0 ≡ get_or d (r * s + x) 0
  pub below : (k : ℕ) → k < s → get_or d' k 0 ≡ get_or d k 0
  pub above : (k : ℕ) → n * s + 2 ≤ k → get_or d' k 0 ≡ get_or d k 0

-- d' is d with the value v at each byte that has no cell of the picture, of n rows of s bytes, and at the cells of the last row but the r lowest of a byte
pub record Bounded (s n r v : ℕ) (d d' : List ℕ) : Type 0 where
  pub len : length d' ≡ length d
  pub over : (k : ℕ) → k < s + 2 → get_or d' k 0 ≡ v
  pub under : (k : ℕ) → (n + 1) * s ≤ k → k < (n + 2) * s + 2 → get_or d' k 0 ≡ v
  pub side : (t x : ℕ) → 0 < t → t ≤ n → x < 2 → get_or d' (t * s + x) 0 ≡ v
  pub inner : (t x : ℕ) → 0 < t → t < n → 2 ≤ x → x < s → get_or d' (t * s + x) 0 ≡ get_or d (t * s + x) 0
  pub last : (x q : ℕ) → 2 ≤ x → x < s → q < 8 → bit (get_or d' (n * s + x) 0) q ≡ trimmed_bit r v d (n * s + x) q
  pub past : (k : ℕ) → (n + 2) * s + 2 ≤ k → get_or d' k 0 ≡ get_or d k 0
