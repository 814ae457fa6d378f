-- One level of rows of cells put into a run of bytes, eight rows to a byte.
use Rattle.std.specs.Prelude.{Bool, cond, ◌&&◌, List, ℕ, ◌+◌, ◌-◌, ◌*◌, max, leb, ltb, eqb, length, get_or}
use Rattle.rows.specs.Cells.{bit}
use Rattle.ranges.specs.Ranges.{Fitted}
use Rattle.planes.specs.Bits.{level_bit}
use Rattle.planes.specs.Bytes.{Bitted}

-- bit q of the byte a after a level of the cell c was put into its bit j, which was 0
abbrev pub laid_bit : Bool → ℕ → ℕ → ℕ → ℕ → ℕ
laid_bit some a c j q = max (bit a q) (cond (eqb q j) (level_bit some c) 0)

-- bit q of byte k of r rows of s, w cells a row, with the bits of v above them
abbrev pub group_bit : Bool → List ℕ → ℕ → ℕ → ℕ → ℕ → ℕ → ℕ
group_bit some s w r v k q = cond (ltb q r) (level_bit some (get_or s (q * w + k) 0)) (bit v (q - r))

-- bit q of byte k of one row of s in bit 7, with the bits of v, 0 or 1, below it
abbrev pub top_bit : Bool → List ℕ → ℕ → ℕ → ℕ → ℕ
top_bit some s v k q = cond (ltb q 7) v (level_bit some (get_or s k 0))

-- r rows of w cells, at most eight of them, are among m and go into n bytes
abbrev pub group_fits : ℕ → ℕ → ℕ → ℕ → Bool
group_fits n m w r = leb n w && leb r 8 && leb w 65535 && leb (r * w) m

-- r rows of s were put into all of the bytes d, which then are d', with the bits of v above them
abbrev pub RowsGrouped : Bool → ℕ → ℕ → ℕ → List ℕ → List ℕ → Bool → List ℕ → Type 0
RowsGrouped some w r v s d b d' = Fitted (group_fits (length d) (length s) w r) (Bitted 0 (length d) (group_bit some s w r v) d d') d b d'

-- a row of m cells goes into n bytes, with v, 0 or 1, below it
abbrev pub top_fits : ℕ → ℕ → ℕ → Bool
top_fits n m v = leb n m && leb v 1

-- a row of cells s was put into bit 7 of all of the bytes d, which then are d', with v in the bits below it
abbrev pub RowTopped : Bool → ℕ → List ℕ → List ℕ → Bool → List ℕ → Type 0
RowTopped some v s d b d' = Fitted (top_fits (length d) (length s) v) (Bitted 0 (length d) (top_bit some s v) d d') d b d'
