-- Document 01, "Words": the kind in a word's top four bits decides how the rest is read. What a word says, as one value.
use Rattle.std.specs.Prelude.{Bool, true, false, ℕ, eqb}
use Rattle.words.specs.declared.Word.{Word}
use Rattle.words.specs.declared.Word.TheVariants.{Anchor, Row, Head, Place, Stage, Unused}
use Rattle.words.specs.Word.{kind, anchor_kind, row_kind, head_kind, place_kind, stage_kind, anchor_x, anchor_y, row_y, row_bits, head_count, place_x}
use Rattle.words.specs.Word.{place_y, stage_mask}

-- the first where the test holds, else the second
abbrev pub pick : {A : Type 0} → Bool → A → A → A
pick true a b = a
pick false a b = b

-- a word read as one of kind k; kinds 0 and 6 to 15 are unused
abbrev pub read_as : ℕ → ℕ → Word
read_as k w =
    pick (eqb k anchor_kind) (Anchor (anchor_x w) (anchor_y w))
    (pick (eqb k row_kind) (Row (row_y w) (row_bits w))
    (pick (eqb k head_kind) (Head (head_count w))
    (pick (eqb k place_kind) (Place (place_x w) (place_y w))
    (pick (eqb k stage_kind) (Stage (stage_mask w)) (Unused k)))))

abbrev pub word_of : ℕ → Word
word_of w = read_as (kind w) w
