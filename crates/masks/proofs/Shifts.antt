-- A mask shifted by one row or by one column, and the whole shift: tests that are computed over the 512 masks and carried to each.
use mathlib.Core.Path.{◌≡◌, refl, subst}
use mathlib.Core.Logic.{◌≢◌}
use mathlib.Core.Bool.{Bool, true, false, cond, not, ◌||◌}
use Prim.Native.Nat.{ℕ, ◌*◌, ◌/◌, ◌%◌, ◌^◌, ◌<◌}
use lib.Dec.{T, eqb, eqb→eq}
use borrow.Author.Tests.{eq-eqb, ne_eqb}
use Rattle.plane.specs.Lists.{all, up_to}
use Rattle.plane.proofs.Member.{each_below}
use Rattle.masks.specs.Mask.{mask_cells, has_column, column_shift, row_shift, normal_of}

-- the mask with its empty rows, or columns, shifted out
abbrev pub rows_down : ℕ → ℕ
rows_down m = m / 2 ^ (3 * row_shift m)

abbrev pub columns_down : ℕ → ℕ
columns_down m = m / 2 ^ column_shift m

-- where row 0 has no cell a shift by one row makes no difference; where it has one, nothing is shifted
row_right : ℕ → Bool
unfolding mask_cells row_shift
row_right m = cond (eqb (m % 8) 0) (eqb (rows_down (m / 8)) (rows_down m)) (eqb (rows_down m) m)

column_right : ℕ → Bool
unfolding mask_cells column_shift
column_right m = cond (has_column 0 m) (eqb (columns_down m) m) (eqb (columns_down (m / 2)) (columns_down m))

-- by rows and then by columns
both_right : ℕ → Bool
unfolding mask_cells row_shift column_shift normal_of
both_right m = eqb (columns_down (rows_down m)) (normal_of m)

rows_tested : T (all row_right (up_to 512))
unfolding row_right
rows_tested = tt

columns_tested : T (all column_right (up_to 512))
unfolding column_right
columns_tested = tt

both_tested : T (all both_right (up_to 512))
unfolding both_right
both_tested = tt

-- column 0 of a mask is its bits 0, 3 and 6
abbrev pub column_bits : ℕ → Bool
column_bits m = eqb (m % 2) 1 || eqb (m / 8 % 2) 1 || eqb (m / 64 % 2) 1

bits_right : ℕ → Bool
unfolding mask_cells
bits_right m = cond (has_column 0 m) (column_bits m) (not (column_bits m))

bits_tested : T (all bits_right (up_to 512))
unfolding bits_right
bits_tested = tt

module _ (m : ℕ) (h : m < 512) where
  pub row_step : m % 8 ≡ 0 → rows_down (m / 8) ≡ rows_down m
  unfolding row_right
  row_step e =
      let t = each_below row_right 512 rows_tested m h in
      eqb→eq (rows_down (m / 8)) (rows_down m)
      (subst (λ b. T (cond b (eqb (rows_down (m / 8)) (rows_down m)) (eqb (rows_down m) m))) (eq-eqb (m % 8) 0 e) t)

  pub row_stop : m % 8 ≢ 0 → rows_down m ≡ m
  unfolding row_right
  row_stop n =
      let t = each_below row_right 512 rows_tested m h in
      eqb→eq (rows_down m) m (subst (λ b. T (cond b (eqb (rows_down (m / 8)) (rows_down m)) (eqb (rows_down m) m))) (ne_eqb (m % 8) 0 n) t)

  pub column_step : has_column 0 m ≡ false → columns_down (m / 2) ≡ columns_down m
  unfolding column_right
  column_step e =
      let t = each_below column_right 512 columns_tested m h in
      eqb→eq (columns_down (m / 2)) (columns_down m)
      (subst (λ b. T (cond b (eqb (columns_down m) m) (eqb (columns_down (m / 2)) (columns_down m)))) e t)

  pub column_stop : has_column 0 m ≡ true → columns_down m ≡ m
  unfolding column_right
  column_stop e =
      let t = each_below column_right 512 columns_tested m h in
      eqb→eq (columns_down m) m (subst (λ b. T (cond b (eqb (columns_down m) m) (eqb (columns_down (m / 2)) (columns_down m)))) e t)

  -- by rows and then by columns is the normal position
  pub both_down : columns_down (rows_down m) ≡ normal_of m
  unfolding both_right
  both_down = eqb→eq (columns_down (rows_down m)) (normal_of m) (each_below both_right 512 both_tested m h)

  pub column_bits_lem : column_bits m ≡ has_column 0 m
  unfolding bits_right
  column_bits_lem = go (has_column 0 m) (column_bits m) (each_below bits_right 512 bits_tested m h)
    where
      go : (a b : Bool) → T (cond a b (not b)) → b ≡ a
      go true true t = refl
      go true false t = absurd t
      go false true t = absurd t
      go false false t = refl

-- 0 has nothing to shift
pub rows_zero : rows_down 0 ≡ 0
unfolding mask_cells row_shift
rows_zero = refl

pub columns_zero : columns_down 0 ≡ 0
unfolding mask_cells column_shift
columns_zero = refl
