-- Document 01, "Words": the kind of a 32-bit word, the fields of each kind, grounds 2 and 3 for one word, and the words that are written.
-- Bit 0 is the lowest: bits a to b of w are w / 2 ^ a % 2 ^ (b − a + 1).
use Rattle.std.specs.Prelude.{Bool, not, cond, List, ℕ, ◌+◌, ◌*◌, ◌/◌, ◌%◌, ◌^◌, leb, eqb}
use Rattle.plane.specs.Lists.{bits}

-- the kind in a word's top four bits decides how the rest is read
abbrev pub kind : ℕ → ℕ
kind w = w / 2 ^ 28

abbrev pub anchor_kind : ℕ
anchor_kind = 1

abbrev pub row_kind : ℕ
row_kind = 2

abbrev pub head_kind : ℕ
head_kind = 3

abbrev pub place_kind : ℕ
place_kind = 4

abbrev pub stage_kind : ℕ
stage_kind = 5

-- how many of its lowest bits a word of kind k names: those of an anchor are 0–7, of a row 0–19, of a head 0–7, of a place 0–15, of a stage 0–8
abbrev pub named_bits : ℕ → ℕ
named_bits k =
    cond (eqb k anchor_kind) 8 (cond (eqb k row_kind) 20 (cond (eqb k head_kind) 8 (cond (eqb k place_kind) 16 (cond (eqb k stage_kind) 9 0))))

-- ground 2 for a word: its kind isn't k, the one its place calls for
abbrev pub wrong_kind : ℕ → ℕ → Bool
wrong_kind k w = not (eqb (kind w) k)

-- ground 3 for a word at a place that calls for kind k: a bit that the kind doesn't name is set
abbrev pub extra_bit : ℕ → ℕ → Bool
extra_bit k w = leb (2 ^ named_bits k) (w % 2 ^ 28)

-- ---- fields

-- an anchor: bits 0–3 ax, 4–7 ay
abbrev pub anchor_x : ℕ → ℕ
anchor_x w = w % 2 ^ 4

abbrev pub anchor_y : ℕ → ℕ
anchor_y w = w / 2 ^ 4 % 2 ^ 4

-- a row: bits 16–19 y, bits 0–15 columns (bit i is x = i)
abbrev pub row_y : ℕ → ℕ
row_y w = w / 2 ^ 16 % 2 ^ 4

abbrev pub row_columns : ℕ → List ℕ
row_columns w = bits 16 w

abbrev pub row_bits : ℕ → ℕ
row_bits w = w % 2 ^ 16

-- a head: bits 0–7 the number of stages
abbrev pub head_count : ℕ → ℕ
head_count w = w % 2 ^ 8

-- a place: bits 0–7 dx + 15, bits 8–15 dy + 15
abbrev pub place_x : ℕ → ℕ
place_x w = w % 2 ^ 8

abbrev pub place_y : ℕ → ℕ
place_y w = w / 2 ^ 8 % 2 ^ 8

-- a stage: bits 0–8 a mask
abbrev pub stage_mask : ℕ → ℕ
stage_mask w = w % 2 ^ 9

-- ---- words that are written: the kind and the fields, all other bits zero

abbrev pub anchor_word : ℕ → ℕ → ℕ
anchor_word ax ay = anchor_kind * 2 ^ 28 + ay * 2 ^ 4 + ax

abbrev pub row_word : ℕ → ℕ → ℕ
row_word y columns = row_kind * 2 ^ 28 + y * 2 ^ 16 + columns

abbrev pub head_word : ℕ → ℕ
head_word n = head_kind * 2 ^ 28 + n

abbrev pub place_word : ℕ → ℕ → ℕ
place_word x y = place_kind * 2 ^ 28 + y * 2 ^ 8 + x

abbrev pub stage_word : ℕ → ℕ
stage_word m = stage_kind * 2 ^ 28 + m
