-- The words that are written read back: their kind, their fields, and no bit that the kind doesn't name.
use mathlib.Core.Path.{◌≡◌, refl, subst}
use Prim.Native.Nat.{ℕ, ◌+◌, ◌*◌, ◌/◌, ◌%◌, ◌^◌, ◌≤◌, ◌<◌}
use native.Mathlib.Omega.{arith}
use mathlib.Core.Bool.{not}
use lib.Dec.{T, eqb, leb}
use Rattle.plane.proofs.Tests.{eq-eqb, not_not, not_leb}
use Rattle.words.specs.Word.{kind, named_bits, wrong_kind, extra_bit, anchor_kind, row_kind, head_kind, place_kind, stage_kind, anchor_x, anchor_y, row_y}
use Rattle.words.specs.Word.{head_count, place_x, place_y, stage_mask, anchor_word, row_word, head_word, place_word, stage_word}

-- what a word at a place that calls for kind k passes: grounds 2 and 3
pub record Fine (k w : ℕ) : Type 0 where
  pub kind_is : T (not (wrong_kind k w))
  pub bits_named : T (not (extra_bit k w))

-- a kind over fields that stay within the bits that it names
fine : (k w r n : ℕ) → n ≡ 2 ^ named_bits k → w ≡ k * 2 ^ 28 + r → r < n → n ≤ 2 ^ 28 → Fine k w
fine k w r n b e h l =
    let q : w / 268435456 ≡ k = omega arith in
    let s : w % 268435456 < n = omega arith in
    record { kind_is = not_not (eqb (kind w) k) (eq-eqb q); bits_named = subst (λ j. T (not (leb j (w % 2 ^ 28)))) b (not_leb n (w % 268435456) s) }

pub anchor_fine : (x y : ℕ) → x < 16 → y < 16 → Fine anchor_kind (anchor_word x y)
anchor_fine x y h l = fine 1 (anchor_word x y) (y * 16 + x) 256 refl (omega arith) (omega arith) (omega arith)

pub row_fine : (y c : ℕ) → y < 16 → c < 65536 → Fine row_kind (row_word y c)
row_fine y c h l = fine 2 (row_word y c) (y * 65536 + c) 1048576 refl (omega arith) (omega arith) (omega arith)

pub head_fine : (n : ℕ) → n < 256 → Fine head_kind (head_word n)
head_fine n h = fine 3 (head_word n) n 256 refl refl h (omega arith)

pub place_fine : (x y : ℕ) → x < 256 → y < 256 → Fine place_kind (place_word x y)
place_fine x y h l = fine 4 (place_word x y) (y * 256 + x) 65536 refl (omega arith) (omega arith) (omega arith)

pub stage_fine : (m : ℕ) → m < 512 → Fine stage_kind (stage_word m)
stage_fine m h = fine 5 (stage_word m) m 512 refl refl h (omega arith)

pub anchor_x_lem : (x y : ℕ) → x < 16 → anchor_x (anchor_word x y) ≡ x
anchor_x_lem x y h = omega arith

pub anchor_y_lem : (x y : ℕ) → x < 16 → y < 16 → anchor_y (anchor_word x y) ≡ y
anchor_y_lem x y h l = omega arith

pub row_y_lem : (y c : ℕ) → y < 16 → c < 65536 → row_y (row_word y c) ≡ y
row_y_lem y c h l = omega arith

pub head_count_lem : (n : ℕ) → n < 256 → head_count (head_word n) ≡ n
head_count_lem n h = omega arith

pub place_x_lem : (x y : ℕ) → x < 256 → place_x (place_word x y) ≡ x
place_x_lem x y h = omega arith

pub place_y_lem : (x y : ℕ) → x < 256 → y < 256 → place_y (place_word x y) ≡ y
place_y_lem x y h l = omega arith

pub stage_mask_lem : (m : ℕ) → m < 512 → stage_mask (stage_word m) ≡ m
stage_mask_lem m h = omega arith
