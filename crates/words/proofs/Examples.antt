-- Worked cases of words and of the order of grounds.
use mathlib.Core.Path.{◌≡◌, refl, ap}
use mathlib.Core.Bool.{true, false}
use mathlib.Core.List.{List, [], ◌∷◌}
use Prim.Native.Nat.{ℕ}
use Rattle.plane.proofs.Tests.{eq-eqb}
use Rattle.words.specs.declared.Word.TheVariants.{Anchor, Row, Head, Place, Stage, Unused}
use Rattle.words.specs.Ground.{Test, first_of, both, Promised}
use Rattle.words.specs.Read.{word_of}
use Rattle.words.specs.Word.{kind, anchor_kind, row_kind, head_kind, place_kind, stage_kind, anchor_x, anchor_y, anchor_word, row_y, row_columns}
use Rattle.words.specs.Word.{row_word, head_count, head_word, place_x, place_y, place_word, stage_mask, stage_word, extra_bit, wrong_kind}
use Rattle.words.proofs.Refusals.{promised_done, promised_refusal}
use Rattle.words.proofs.Tested.{promised_number}

-- ---- words

kinds : (kind 0x1fffffff ≡ 1) × (kind 0x50000000 ≡ 5) × (kind 0xffffffff ≡ 15)
kinds = (refl, refl, refl)

-- the anchor (10, 11), the row 12 with columns 0 and 15, the head 13, the place (14, 15), the mask 256
fields_anchor : (anchor_x 0x100000ba ≡ 10) × (anchor_y 0x100000ba ≡ 11) × (anchor_word 10 11 ≡ 0x100000ba)
fields_anchor = (refl, refl, refl)

fields_row : (row_y 0x200c8001 ≡ 12) × (row_columns 0x200c8001 ≡ (0 ∷ 15 ∷ [])) × (row_word 12 0x8001 ≡ 0x200c8001)
fields_row = (refl, refl, refl)

fields_head : (head_count 0x3000000d ≡ 13) × (head_word 13 ≡ 0x3000000d)
fields_head = (refl, refl)

fields_place : (place_x 0x40000f0e ≡ 14) × (place_y 0x40000f0e ≡ 15) × (place_word 14 15 ≡ 0x40000f0e)
fields_place = (refl, refl, refl)

fields_stage : (stage_mask 0x50000100 ≡ 256) × (stage_word 256 ≡ 0x50000100)
fields_stage = (refl, refl)

-- each read by its kind; kinds 0 and 6 to 15 say nothing
read_kinds : (word_of 0x100000ba ≡ Anchor 10 11) × (word_of 0x200c8001 ≡ Row 12 0x8001) × (word_of 0x3000000d ≡ Head 13)
read_kinds = (refl, refl, refl)

read_more : (word_of 0x40000f0e ≡ Place 14 15) × (word_of 0x50000100 ≡ Stage 256) × (word_of 0x00000001 ≡ Unused 0) × (word_of 0xf0000001 ≡ Unused 15)
read_more = (refl, refl, refl, refl)

-- each kind's highest named bit passes ground 3, the next one does not
named_anchor : (extra_bit anchor_kind 0x10000080 ≡ false) × (extra_bit anchor_kind 0x10000100 ≡ true)
named_anchor = (refl, refl)

named_row : (extra_bit row_kind 0x20080000 ≡ false) × (extra_bit row_kind 0x20100000 ≡ true)
named_row = (refl, refl)

named_head : (extra_bit head_kind 0x30000080 ≡ false) × (extra_bit head_kind 0x30000100 ≡ true)
named_head = (refl, refl)

named_place : (extra_bit place_kind 0x40008000 ≡ false) × (extra_bit place_kind 0x40010000 ≡ true)
named_place = (refl, refl)

named_stage : (extra_bit stage_kind 0x50000100 ≡ false) × (extra_bit stage_kind 0x50000200 ≡ true)
named_stage = (refl, refl)

-- ---- the first test that holds is the answer, in one list and in two

first : first_of ((1, false) ∷ (2, true) ∷ (3, true) ∷ []) ≡ 2
first = refl

none : first_of ((1, false) ∷ (2, false) ∷ []) ≡ 0
none = refl

-- the second list's 2 comes before the first list's 3
two_lists : first_of (both ((2, false) ∷ (3, true) ∷ []) ((2, true) ∷ (3, false) ∷ [])) ≡ 2
two_lists = refl

-- bit 27, the one under the kind, counts too
named_27 : (extra_bit anchor_kind 0x18000000 ≡ true) × (extra_bit stage_kind 0x58000003 ≡ true)
named_27 = (refl, refl)

-- a kind above and a kind below the one called for are both wrong
kind_not : (wrong_kind row_kind 0x20000001 ≡ false) × (wrong_kind row_kind 0x30000001 ≡ true) × (wrong_kind row_kind 0x10000001 ≡ true)
kind_not = (refl, refl, refl)

-- ---- an answer of another type: two numbers, or a refusal by a ground, told as (ground, number, number)

-- what a call with these tests promises that answers 3 and 4 where none holds
abbrev Two : List Test → ℕ × ℕ × ℕ → Type 0
Two tests told = Promised tests (λ k. told ≡ (k, 0, 0)) Unit (told ≡ (0, 3, 4))

two_done : Two ((11, false) ∷ (12, false) ∷ []) (0, 3, 4)
two_done = promised_done ((11, false) ∷ (12, false) ∷ []) refl refl

two_refused : Two ((11, false) ∷ (12, true) ∷ (13, true) ∷ []) (12, 0, 0)
two_refused = promised_refusal ((11, false) ∷ (12, true) ∷ (13, true) ∷ []) (λ e. eq-eqb e) refl tt

-- the promise fixes the ground that is answered
two_first : (told : ℕ × ℕ × ℕ) → Two ((11, false) ∷ (12, true) ∷ (13, true) ∷ []) told → told.0 ≡ 12
two_first told p = (promised_number ((11, false) ∷ (12, true) ∷ (13, true) ∷ []) told.0 (λ k e. ap (λ t. t.0) e) (λ e. ap (λ t. t.0) e) p).0
