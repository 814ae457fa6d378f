-- How large the fields of a word of each kind are.
use mathlib.Core.Path.{◌≡◌, subst}
use mathlib.Core.Bool.{Bool, true, false}
use Prim.Native.Nat.{ℕ, ◌/◌, ◌%◌, ◌^◌, ◌<◌}
use native.Mathlib.Omega.{arith}
use lib.Dec.{eqb}
use Rattle.words.specs.Read.{word_of, pick}
use Rattle.words.specs.Word.{kind, anchor_kind, row_kind, head_kind, place_kind, stage_kind, anchor_x, anchor_y, row_y, row_bits, head_count, place_x, place_y, stage_mask}
use Rattle.words.specs.declared.Word.{Word}
use Rattle.words.specs.declared.Word.TheVariants.{Anchor, Row, Head, Place, Stage, Unused}
use Rattle.lists.specs.Held.{anchor_in}

-- ---- the fields of a word

-- a cell of the window, a row of it, and a mask
abbrev Small : Word → Type 0
Small (Anchor ax ay) = (ax < 16) × (ay < 16)
Small (Row y columns) = y < 16
Small (Head n) = Unit {0}
Small (Place x y) = Unit {0}
Small (Stage m) = m < 512
Small (Unused k) = Unit {0}

pick_ind : (b : Bool) (x y : Word) → Small x → Small y → Small (pick b x y)
pick_ind true x y p q = p
pick_ind false x y p q = q

small : (w : ℕ) → Small (word_of w)
small w =
    let a : (w % 2 ^ 4 < 16) × (w / 2 ^ 4 % 2 ^ 4 < 16) = (omega arith, omega arith) in
    let y : w / 2 ^ 16 % 2 ^ 4 < 16 = omega arith in
    let m : w % 2 ^ 9 < 512 = omega arith in
    pick_ind (eqb (kind w) anchor_kind) (Anchor (anchor_x w) (anchor_y w)) _ a
    (pick_ind (eqb (kind w) row_kind) (Row (row_y w) (row_bits w)) _ y
    (pick_ind (eqb (kind w) head_kind) (Head (head_count w)) _ tt
    (pick_ind (eqb (kind w) place_kind) (Place (place_x w) (place_y w)) _ tt
    (pick_ind (eqb (kind w) stage_kind) (Stage (stage_mask w)) (Unused (kind w)) m tt))))

pub row_small : (w y c : ℕ) → word_of w ≡ Row y c → y < 16
row_small w y c e = subst Small e (small w)

pub stage_small : (w m : ℕ) → word_of w ≡ Stage m → m < 512
stage_small w m e = subst Small e (small w)

pub anchor_small : (w : ℕ) → ((anchor_in (word_of w)).0 < 16) × ((anchor_in (word_of w)).1 < 16)
anchor_small w = go (word_of w) (small w)
  where
    none : (0 < 16) × (0 < 16)
    none = (omega arith, omega arith)

    go : (v : Word) → Small v → ((anchor_in v).0 < 16) × ((anchor_in v).1 < 16)
    go (Anchor ax ay) h = h
    go (Row y columns) h = none
    go (Head n) h = none
    go (Place x y) h = none
    go (Stage m) h = none
    go (Unused k) h = none
