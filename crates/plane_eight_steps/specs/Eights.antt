-- One level of eight rows of cells put into a run of bytes, the first row's lowest.
use Rattle.std.specs.Prelude.{◌≡◌, Bool, ◌&&◌, List, ℕ, ◌+◌, ◌*◌, ◌<◌, leb, length, get_or}
use Rattle.rows.specs.Cells.{bit}
use Rattle.ranges.specs.Ranges.{Fitted}
use Rattle.planes.specs.Bits.{level_bit}
use Rattle.planes.specs.Bytes.{Bitted}

-- r is below 16, and its bits are a level of these, the first one's lowest
pub record Four (some : Bool) (a b c d r : ℕ) : Type 0 where
  pub small : r < 16
  pub bit0 : bit r 0 ≡ level_bit some a
  pub bit1 : bit r 1 ≡ level_bit some b
  pub bit2 : bit r 2 ≡ level_bit some c
  pub bit3 : bit r 3 ≡ level_bit some d

-- the same of eight
pub record Eight (some : Bool) (a b c d e f g h r : ℕ) : Type 0 where
  pub bit0 : bit r 0 ≡ level_bit some a
  pub bit1 : bit r 1 ≡ level_bit some b
  pub bit2 : bit r 2 ≡ level_bit some c
  pub bit3 : bit r 3 ≡ level_bit some d
  pub bit4 : bit r 4 ≡ level_bit some e
  pub bit5 : bit r 5 ≡ level_bit some f
  pub bit6 : bit r 6 ≡ level_bit some g
  pub bit7 : bit r 7 ≡ level_bit some h

-- bit q of byte k of eight rows of s, w cells a row
abbrev pub eight_bit : Bool → List ℕ → ℕ → ℕ → ℕ → ℕ
eight_bit some s w k q = level_bit some (get_or s (q * w + k) 0)

-- eight rows of w cells are among m and go into n bytes
abbrev pub eight_fits : ℕ → ℕ → ℕ → Bool
eight_fits n m w = leb n w && leb w 65535 && leb (8 * w) m

-- eight rows of s were put into all of the bytes d, which then are d'
abbrev pub EightPut : Bool → ℕ → List ℕ → List ℕ → Bool → List ℕ → Type 0
EightPut some w s d b d' = Fitted (eight_fits (length d) (length s) w) (Bitted 0 (length d) (eight_bit some s w) d d') d b d'
