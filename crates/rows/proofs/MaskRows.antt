-- The three rows of a mask have its cells: three bits each, by the bits of a cut and of a quotient.
use mathlib.Core.Path.{◌≡◌, sym, ap, subst, ◌∙◌}
use mathlib.Core.List.{List, ◌∷◌}
use Prim.Native.Nat.{ℕ, zero, suc, ◌+◌, ◌*◌, ◌/◌, ◌%◌, ◌^◌, ◌<◌}
use native.Mathlib.Omega.{arith}
use lib.ListN.{replicate}
use Rattle.rows.specs.Cells.{Same, bit, At, AtMask}
use Rattle.rows.proofs.RowBits.{bit_in, no_bit, bit_cut, bit_shr}
use Rattle.rows.proofs.Sums.{zero_at}

mask_list : ℕ → List ℕ
mask_list m = m % 8 ∷ m / 8 % 8 ∷ m / 64 % 8 ∷ replicate 13 0

-- three bits of m from s on are those of row j of its mask
row_to : (m s j x : ℕ) → s ≡ 3 * j → j < 3 → bit (m / 2 ^ s % 8) x ≡ 1 → AtMask (m % 512) x j
row_to m s j x e l h =
    let c : x < 3 = bit_in 3 (m / 2 ^ s % 8) x (omega arith) h in
    let u : bit m (s + x) ≡ 1 = sym (bit_shr m s x) ∙ sym (bit_cut (m / 2 ^ s) 3 x c) ∙ h in
    let q : s + x ≡ 3 * j + x = omega arith in
    record { column = c; row = l; set = bit_cut m 9 (3 * j + x) (omega arith) ∙ subst (λ (k : ℕ). bit m k ≡ 1) q u }

row_from : (m s j x : ℕ) → s ≡ 3 * j → AtMask (m % 512) x j → bit (m / 2 ^ s % 8) x ≡ 1
row_from m s j x e h =
    let c = h.column in
    let l = h.row in
    let q : 3 * j + x ≡ s + x = omega arith in
    bit_cut (m / 2 ^ s) 3 x c ∙ bit_shr m s x ∙ subst (λ (k : ℕ). bit m k ≡ 1) q (sym (bit_cut m 9 (3 * j + x) (omega arith)) ∙ h.set)

module _ (m : ℕ) where
  mask_to : (x y : ℕ) → At (mask_list m) x y → AtMask (m % 512) x y
  unfolding mask_list
  mask_to x zero h = let e : m ≡ m / 1 = omega arith in row_to m 0 0 x (omega arith) (omega arith) (subst (λ (n : ℕ). bit (n % 8) x ≡ 1) e h)
  mask_to x (suc zero) h = row_to m 3 1 x (omega arith) (omega arith) h
  mask_to x (suc (suc zero)) h = row_to m 6 2 x (omega arith) (omega arith) h
  mask_to x (suc (suc (suc y))) h = absurd (no_bit x (ap (λ (n : ℕ). bit n x) (sym (zero_at 13 y)) ∙ h))

  mask_from : (x y : ℕ) → AtMask (m % 512) x y → At (mask_list m) x y
  unfolding mask_list
  mask_from x zero h = let e : m / 1 ≡ m = omega arith in subst (λ (n : ℕ). bit (n % 8) x ≡ 1) e (row_from m 0 0 x (omega arith) h)
  mask_from x (suc zero) h = row_from m 3 1 x (omega arith) h
  mask_from x (suc (suc zero)) h = row_from m 6 2 x (omega arith) h
  mask_from x (suc (suc (suc y))) h = absurd (omega (arith, h.row))

  pub mask_same : Same (At (m % 8 ∷ m / 8 % 8 ∷ m / 64 % 8 ∷ replicate 13 0)) (AtMask (m % 512))
  unfolding mask_list
  mask_same = record { to = mask_to; from = mask_from }
