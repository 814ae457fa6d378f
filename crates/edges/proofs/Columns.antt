-- The first and the last cell of a row: the zeros below its lowest bit, and those above its highest, say where they are.
use mathlib.Core.Path.{◌≡◌, refl, sym, ap, subst, ◌∙◌}
use Prim.Native.Nat.{ℕ, zero, suc, ◌+◌, ◌-◌, ◌*◌, ◌/◌, ◌%◌, ◌^◌, ◌≤◌, ◌<◌}
use native.Mathlib.Omega.{arith}
use native.Mathlib.Nat.{pow-suc, div-lt_iff_lt-mul, le-div_iff_mul-le}
use lib.Count.{count_leading_zeros, count_trailing_zeros, under, leading_top}
use lib.Pow.{pow_pos}
use Rattle.rows.specs.Cells.{bit}
use Rattle.rows.proofs.RowBits.{bit_in, bit_shr}
use Rattle.edges.specs.Numbers.{FirstIn, LastIn}

-- the bit at j of a word from 2 ^ j to 2 ^ (j + 1)
high_bit : (row j : ℕ) → 2 ^ j ≤ row → row < 2 ^ suc j → bit row j ≡ 1
high_bit row j l h =
    let e : 2 ^ suc j ≡ 2 ^ j * 2 = pow-suc 2 j in
    let a : 1 ≤ row / 2 ^ j = (le-div_iff_mul-le (pow_pos j)).1 (omega arith) in
    let b : row / 2 ^ j < 2 = (div-lt_iff_lt-mul (pow_pos j)).1 (omega arith) in
    one (row / 2 ^ j) a b
  where
    one : (k : ℕ) → 1 ≤ k → k < 2 → k % 2 ≡ 1
    one k a b = omega arith

pub last_of : (row : ℕ) → 0 < row → row < 65536 → (count_leading_zeros 16 row ≤ 15) × LastIn row (15 - count_leading_zeros 16 row)
last_of row p l =
    let t = leading_top 16 row p l in
    let j = t.0 in
    let e : j ≡ 15 - count_leading_zeros 16 row = omega (arith, t.1) in
    let r : LastIn row j = record { cell = high_bit row j t.2 t.3; all = λ x h. omega (arith, bit_in (suc j) row x t.3 h) } in
    (omega (arith, t.1), subst (LastIn row) e r)

-- a bit from 1 on is a bit of the half
half_bit : (row x : ℕ) → bit (row / 2) x ≡ bit row (suc x)
half_bit row x = let e : 1 + x ≡ suc x = omega arith in bit_shr row 1 x ∙ ap (bit row) e

pub first_of : (k row : ℕ) → 0 < row → row < 2 ^ k → FirstIn row (count_trailing_zeros k row)
unfolding count_trailing_zeros
first_of zero row p l = absurd (omega arith)
first_of (suc k) row p l = let e : 2 ^ suc k ≡ 2 ^ k * 2 = pow-suc 2 k in go (λ z. first_of k (row / 2) (omega arith) (omega arith)) (row % 2) (omega arith)
  where
    after : row % 2 ≡ 0 → (t : ℕ) → FirstIn (row / 2) t → (x : ℕ) → bit row x ≡ 1 → suc t ≤ x
    after z t f zero h = absurd (omega arith)
    after z t f (suc x) h = omega (arith, f.all x (half_bit row x ∙ h))

    go : (row % 2 ≡ 0 → FirstIn (row / 2) (count_trailing_zeros k (row / 2))) → (d : ℕ) → row % 2 ≡ d → FirstIn row (under d (count_trailing_zeros k (row / 2)))
    go half zero z = let t = count_trailing_zeros k (row / 2) in record { cell = sym (half_bit row t) ∙ (half z).cell; all = after z t (half z) }
    go half (suc d) z = record { cell = omega arith; all = λ x h. omega arith }

-- a row without a cell has sixteen zeros
pub none_16 : count_trailing_zeros 16 0 ≡ 16
unfolding count_trailing_zeros
none_16 = refl
