-- Words as sets of numbers: the bits that have none a step later, a word of at most one bit, and what these say of the spacing.
use mathlib.Core.Path.{◌≡◌, refl, sym, ap, ◌∙◌}
use mathlib.Core.Logic.{◌⊎◌, inl, inr, ⊎_elim}
use Prim.Native.Nat.{ℕ, zero, suc, ◌+◌, ◌-◌, ◌/◌, ◌%◌, ◌^◌, min, ◌≤◌, ◌<◌}
use native.Mathlib.Omega.{arith}
use native.Mathlib.Nat.{add_comm, div-le_self}
use lib.Count.{count_leading_zeros}
use lib.Bits.{bit_and, bit_xor, differ, xor_step, xor_shr}
use Rattle.plane.proofs.Tests.{lt_or_le}
use Rattle.rows.specs.Cells.{bit}
use Rattle.rows.proofs.RowBits.{bit_and_lem, bit_shr, bit_in}
use Rattle.edges.specs.Numbers.{FirstIn}
use Rattle.edges.proofs.Columns.{last_of}
use Rattle.faces.specs.Faces.{Spaced}
use Rattle.faces.specs.Bits.{Bits, Ends, Two, Lone}

-- ---- the ends
differ_mod : (x y : ℕ) → x < 2 → y < 2 → differ x y ≡ (x + y) % 2
differ_mod zero y p q = omega arith
differ_mod (suc zero) zero p q = refl
differ_mod (suc zero) (suc zero) p q = refl
differ_mod (suc zero) (suc (suc y)) p q = absurd (omega arith)
differ_mod (suc (suc x)) y p q = absurd (omega arith)

xor_mod2 : (p q : ℕ) → bit_xor p q % 2 ≡ (p % 2 + q % 2) % 2
xor_mod2 p q = omega (arith, xor_step p q, differ_mod (p % 2) (q % 2) (omega arith) (omega arith))

bit_xor_lem : (a b k : ℕ) → bit (bit_xor a b) k ≡ (bit a k + bit b k) % 2
bit_xor_lem a b k = rw (xor_shr a b k) (xor_mod2 (a / 2 ^ k) (b / 2 ^ k))

-- of one bit: p of the word, q a step later
module _ (p q e : ℕ) (is : e ≡ (p + min p q) % 2) where
  kept_bit : p < 2 → e ≡ 1 → p ≡ 1
  kept_bit l h = omega arith

  last_bit : p < 2 → e ≡ 1 → q ≡ 1 → ⊥
  last_bit l h z = omega arith

  from_bit : q < 2 → p ≡ 1 → (q ≡ 1 → ⊥) → e ≡ 1
  from_bit l h f = ⊎_elim (λ w. omega arith) (λ w. absurd (f (omega arith))) (lt_or_le q 1)

bit_small : (b k : ℕ) → bit b k < 2
bit_small b k = omega arith

end_bit : (b step k : ℕ) → bit (bit_xor b (bit_and b (b / 2 ^ step))) k ≡ (bit b k + min (bit b k) (bit b (k + step))) % 2
end_bit b step k = bit_xor_lem b (bit_and b (b / 2 ^ step)) k
    ∙ ap (λ (q : ℕ). (bit b k + q) % 2) (bit_and_lem b (b / 2 ^ step) k ∙ ap (min (bit b k)) (bit_shr b step k ∙ ap (bit b) (add_comm step k)))

pub ends_of : (b step : ℕ) → Ends b step (bit_xor b (bit_and b (b / 2 ^ step)))
ends_of b step = record {
  kept = λ k h. kept_bit _ (bit b (k + step)) _ (end_bit b step k) (bit_small b k) h;
  last = λ k h. last_bit (bit b k) _ _ (end_bit b step k) (bit_small b k) h;
  from = λ k h f. from_bit (bit b k) (bit b (k + step)) _ (end_bit b step k) (bit_small b (k + step)) h f;
}

-- ---- at most one bit
module _ (b f : ℕ) (first : FirstIn b f) where
  pub lone_of : b / 2 ^ f ≡ 1 → Lone b
  lone_of e = record { same = λ j k p q. at j p ∙ sym (at k q) }
    where
      at : (k : ℕ) → bit b k ≡ 1 → k ≡ f
      at k p =
          let l = first.all k p in
          let s : f + (k - f) ≡ k = omega arith in
          let h : bit 1 (k - f) ≡ 1 = ap (λ (n : ℕ). bit n (k - f)) (sym e) ∙ bit_shr b f (k - f) ∙ ap (bit b) s ∙ p in
          let m = bit_in 1 1 (k - f) (omega arith) h in
          omega arith

  pub two_of : b < 65536 → (b / 2 ^ f ≡ 1 → ⊥) → Two b
  two_of l none =
      let n = b / 2 ^ f in
      let e : 0 < n / 2 ^ 1 = more n first.cell none in
      let m : n / 2 ^ 1 < 65536 = less n (div-le_self b (2 ^ f)) in
      let j = 15 - count_leading_zeros 16 (n / 2 ^ 1) in
      let h : bit (n / 2 ^ 1) j ≡ 1 = (last_of (n / 2 ^ 1) e m).1.cell in
      record { low = f; high = f + (1 + j); apart = omega arith; first = first.cell; second = sym (bit_shr n 1 j ∙ bit_shr b f (1 + j)) ∙ h }
    where
      more : (n : ℕ) → n % 2 ≡ 1 → (n ≡ 1 → ⊥) → 0 < n / 2
      more n c f = ⊎_elim (λ w. absurd (f (omega arith))) (λ w. w) (lt_or_le (n / 2) 1)

      less : (n : ℕ) → n ≤ b → n / 2 < 65536
      less n k = omega arith

-- ---- spacing
pub two_ends : (b step r : ℕ) → Ends b step r → Two r → Spaced step (Bits b) → ⊥
two_ends b step r e t s = e.last t.low t.first (s.next t.low t.high (e.kept t.low t.first) (e.kept t.high t.second) t.apart)

module _ (b step r : ℕ) (small : b < 65536) (e : Ends b step r) where
  next_or : (k : ℕ) → bit b k ≡ 1 → (bit b (k + step) ≡ 1) ⊎ (bit r k ≡ 1)
  next_or k h = ⊎_elim
      (λ w. inr (e.from k h (λ z. omega arith)))
      (λ w. inl (one (bit b (k + step)) (bit_small b (k + step)) w))
      (lt_or_le (bit b (k + step)) 1)
    where
      one : (q : ℕ) → q < 2 → 1 ≤ q → q ≡ 1
      one q l w = omega arith

  -- from each number one comes to an end
  end_after : 0 < step → (n k : ℕ) → 16 ≤ k + n → bit b k ≡ 1 → (j : ℕ) × ((k ≤ j) × (bit r j ≡ 1))
  end_after p zero k l h = absurd (omega (arith, bit_in 16 b k small h))
  end_after p (suc n) k l h = ⊎_elim
      (λ w. let g = end_after p n (k + step) (omega arith) w in (g.0, (omega (arith, g.1.0), g.1.1)))
      (λ w. (k, (omega arith, w)))
      (next_or k h)

  pub one_end : 0 < step → Lone r → Spaced step (Bits b)
  one_end p u = record {
    next = λ j k h g l. ⊎_elim
        (λ w. w)
        (λ w. let q = end_after p 16 k (omega arith) g in absurd (omega (arith, u.same j q.0 w q.1.1, q.1.0)))
        (next_or j h);
  }
