-- The bits of words: of an or, an and, a shift; words are equal by their bits.
use mathlib.Core.Path.{◌≡◌, sym, ap, subst, ◌∙◌}
use mathlib.Core.Logic.{⊎_elim}
use Prim.Native.Nat.{ℕ, zero, suc, ◌+◌, ◌-◌, ◌*◌, ◌/◌, ◌%◌, ◌^◌, min, max, ◌≤◌, ◌<◌}
use native.Mathlib.Omega.{arith}
use native.Mathlib.Nat.{mul-div-mul_right, mul_assoc, mul-mod_left, div-eq_of_lt, lt_of_lt_of_le, pow-suc}
use lib.Bits.{bit_and, bit_or, and_shr, or_shr, and_step, or_step}
use lib.Pow.{pow_pos, pow_mono, pow-add, field, shr-shr, shl-shr, mod-mod-pow}
use Rattle.plane.proofs.Tests.{lt_or_le}
use Rattle.rows.specs.Cells.{bit}

or_mod2 : (p q : ℕ) → bit_or p q % 2 ≡ max (p % 2) (q % 2)
or_mod2 p q = omega (arith, or_step p q)

and_mod2 : (p q : ℕ) → bit_and p q % 2 ≡ min (p % 2) (q % 2)
and_mod2 p q = omega (arith, and_step p q)

pub bit_or_lem : (a b i : ℕ) → bit (bit_or a b) i ≡ max (bit a i) (bit b i)
bit_or_lem a b i = rw (or_shr a b i) (or_mod2 (a / 2 ^ i) (b / 2 ^ i))

pub bit_and_lem : (a b i : ℕ) → bit (bit_and a b) i ≡ min (bit a i) (bit b i)
bit_and_lem a b i = rw (and_shr a b i) (and_mod2 (a / 2 ^ i) (b / 2 ^ i))

pub bit_shr : (a i x : ℕ) → bit (a / 2 ^ i) x ≡ bit a (i + x)
bit_shr a i x = ap (λ (n : ℕ). n % 2) (shr-shr a i x)

-- a bit below the cut is kept
cut_at : (n j x : ℕ) → bit (n % 2 ^ (j + 1 + x)) x ≡ bit n x
cut_at n j x = ap (λ (q : ℕ). q % 2) (field n (j + 1) x) ∙ mod-mod-pow (n / 2 ^ x) j 1

pub bit_cut : (n w x : ℕ) → x < w → bit (n % 2 ^ w) x ≡ bit n x
bit_cut n w x h = subst (λ (k : ℕ). bit (n % 2 ^ k) x ≡ bit n x) (omega arith) (cut_at n (w - x - 1) x)

-- a row moved by i
pub bit_shl : (a i x : ℕ) → bit (a * 2 ^ i) (x + i) ≡ bit a x
bit_shl a i x = ap (λ (q : ℕ). q % 2) (ap (λ (p : ℕ). a * 2 ^ i / p) (pow-add 2 x i) ∙ mul-div-mul_right a (2 ^ x) (pow_pos i))

low_at : (a d x : ℕ) → bit (a * 2 ^ (d + 1 + x)) x ≡ 0
low_at a d x =
    ap (λ (q : ℕ). q % 2)
    (ap (λ (p : ℕ). a * p / 2 ^ x) (pow-add 2 (d + 1) x) ∙ ap (λ (p : ℕ). p / 2 ^ x) (sym (mul_assoc a (2 ^ (d + 1)) (2 ^ x)))
    ∙ shl-shr (a * 2 ^ (d + 1)) x)
    ∙ ap (λ (p : ℕ). p % 2) (ap (λ (p : ℕ). a * p) (pow-add 2 d 1) ∙ sym (mul_assoc a (2 ^ d) 2)) ∙ mul-mod_left (a * 2 ^ d) 2

pub bit_shl_low : (a i x : ℕ) → x < i → bit (a * 2 ^ i) x ≡ 0
bit_shl_low a i x h = subst (λ (k : ℕ). bit (a * 2 ^ k) x ≡ 0) (omega arith) (low_at a (i - x - 1) x)

-- two words of k bits are equal where their bits are
pub bits_ext : (k a b : ℕ) → a < 2 ^ k → b < 2 ^ k → ((i : ℕ) → i < k → bit a i ≡ bit b i) → a ≡ b
bits_ext zero a b p q h = omega arith
bits_ext (suc k) a b p q h =
    let e : 2 ^ suc k ≡ 2 ^ k * 2 = pow-suc 2 k in
    let g : a / 2 ≡ b / 2 = bits_ext k (a / 2) (b / 2) (omega arith) (omega arith) (λ i l. bit_shr a 1 i ∙ h (1 + i) (omega arith) ∙ sym (bit_shr b 1 i)) in
    let f : bit a 0 ≡ bit b 0 = h 0 (omega arith) in
    omega arith

-- a word has no bit past its width
pub bit_past : (k a x : ℕ) → a < 2 ^ k → k ≤ x → bit a x ≡ 0
bit_past k a x p h = ap (λ (q : ℕ). q % 2) (div-eq_of_lt (lt_of_lt_of_le p (pow_mono h)))

pub bit_in : (k n x : ℕ) → n < 2 ^ k → bit n x ≡ 1 → x < k
bit_in k n x l h = ⊎_elim (λ w. w) (λ w. absurd (omega (arith, bit_past k n x l w))) (lt_or_le x k)

pub no_bit : (x : ℕ) → bit 0 x ≡ 1 → ⊥
no_bit x h = omega (arith, bit_in 0 0 x (pow_pos 0) h)
