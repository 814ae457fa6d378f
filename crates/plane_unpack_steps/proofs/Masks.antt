-- A bit of a byte, by the byte of which it alone is set.
use mathlib.Core.Path.{◌≡◌, refl, ◌∙◌, ap, subst}
use Prim.Native.Nat.{ℕ, zero, suc, ◌+◌, ◌-◌, ◌*◌, ◌/◌, ◌^◌, ◌<◌, ◌≤◌}
use native.Mathlib.Omega.{arith}
use lib.Bits.{bit_and, and_le_r}
use mathlib.Core.Logic.{⊎_elim}
use Rattle.plane.proofs.Tests.{lt_or_le}
use Rattle.rows.specs.Cells.{bit}
use Rattle.rows.proofs.RowBits.{bit_and_lem, bit_shl, bit_past}

pub mask_is : (j : ℕ) → j < 8 → 128 / 2 ^ (7 - j) ≡ 2 ^ j
mask_is zero l = refl
mask_is (suc zero) l = refl
mask_is (suc (suc zero)) l = refl
mask_is (suc (suc (suc zero))) l = refl
mask_is (suc (suc (suc (suc zero)))) l = refl
mask_is (suc (suc (suc (suc (suc zero))))) l = refl
mask_is (suc (suc (suc (suc (suc (suc zero)))))) l = refl
mask_is (suc (suc (suc (suc (suc (suc (suc zero))))))) l = refl
mask_is (suc (suc (suc (suc (suc (suc (suc (suc j)))))))) l = absurd (omega arith)

module _ (c j : ℕ) where
  set : bit (2 ^ j) j ≡ 1
  set =
      let e : 2 ^ j ≡ 1 * 2 ^ j = omega arith in
      let z : j ≡ 0 + j = omega arith in
      ap (λ (n : ℕ). bit n j) e ∙ ap (λ (n : ℕ). bit (1 * 2 ^ j) n) z ∙ bit_shl 1 j 0

  -- what is left of the byte has the bit where the byte has it
  same : bit (bit_and c (2 ^ j)) j ≡ bit c j
  same = omega (arith, bit_and_lem c (2 ^ j) j, set)

  pub held_so : {m : ℕ} → m ≡ 2 ^ j → bit_and c m ≡ m → bit c j ≡ 1
  held_so e q =
      let v : bit_and c (2 ^ j) ≡ 2 ^ j = subst (λ (n : ℕ). bit_and c n ≡ n) e q in
      omega (arith, same, ap (λ (n : ℕ). bit n j) v, set)

  pub held_not : {m : ℕ} → m ≡ 2 ^ j → (bit_and c m ≡ m → ⊥) → bit c j ≡ 0
  held_not e q =
      let v : (bit_and c (2 ^ j) ≡ 2 ^ j) → ⊥ = subst (λ (n : ℕ). (bit_and c n ≡ n) → ⊥) e q in
      let h : bit_and c (2 ^ j) < 2 ^ j = less (and_le_r c (2 ^ j)) v in
      omega (arith, same, bit_past j (bit_and c (2 ^ j)) j h (omega arith))
    where
      less : {a b : ℕ} → a ≤ b → (a ≡ b → ⊥) → a < b
      less {a} {b} l n = ⊎_elim (λ (u : a < b). u) (λ (u : b ≤ a). absurd (n (omega arith))) (lt_or_le a b)
