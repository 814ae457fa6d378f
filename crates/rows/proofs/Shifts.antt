-- What is set in a word that was moved, or'ed or and'ed.
use mathlib.Core.Path.{◌≡◌, sym, ap, subst, ◌∙◌}
use mathlib.Core.Logic.{◌⊎◌, inl, inr, ⊎_elim}
use mathlib.Core.List.{List}
use Prim.Native.Nat.{ℕ, ◌+◌, ◌-◌, ◌*◌, ◌/◌, ◌%◌, ◌^◌, max, ◌≤◌, ◌<◌}
use native.Mathlib.Omega.{arith}
use lib.Bits.{bit_and, bit_or, and_zero_r}
use lib.ListN.{length, get_or, get_or-eq_default}
use native.Mathlib.Nat.{add_comm, zero-div}
use Rattle.plane.proofs.Tests.{lt_or_le}
use Rattle.rows.specs.Cells.{bit}
use Rattle.rows.specs.Leaves.{Onto, Under}
use Rattle.rows.proofs.RowBits.{bit_or_lem, bit_and_lem, bit_shr, bit_cut, bit_shl, bit_shl_low, bit_in, no_bit}
use Rattle.rows.proofs.Fill.{Filled}

max_one : (p q : ℕ) → max p q ≡ 1 → (p ≡ 1) ⊎ (q ≡ 1)
max_one p q h = ⊎_elim (λ w. inr (omega arith)) (λ w. inl (omega arith)) (lt_or_le p 1)

pub or_on : (p q x : ℕ) → bit (bit_or p q) x ≡ 1 → (bit p x ≡ 1) ⊎ (bit q x ≡ 1)
or_on p q x h = max_one (bit p x) (bit q x) (sym (bit_or_lem p q x) ∙ h)

pub on_or_l : (p q x : ℕ) → bit p x ≡ 1 → bit (bit_or p q) x ≡ 1
on_or_l p q x h = omega (arith, bit_or_lem p q x)

pub on_or_r : (p q x : ℕ) → bit q x ≡ 1 → bit (bit_or p q) x ≡ 1
on_or_r p q x h = omega (arith, bit_or_lem p q x)

pub and_on_l : (p q x : ℕ) → bit (bit_and p q) x ≡ 1 → bit p x ≡ 1
and_on_l p q x h = omega (arith, bit_and_lem p q x)

pub and_on_r : (p q x : ℕ) → bit (bit_and p q) x ≡ 1 → bit q x ≡ 1
and_on_r p q x h = omega (arith, bit_and_lem p q x)

pub on_and : (p q x : ℕ) → bit p x ≡ 1 → bit q x ≡ 1 → bit (bit_and p q) x ≡ 1
on_and p q x h k = omega (arith, bit_and_lem p q x)

-- a row moved by i and cut at 16
pub on_shl : (n i x : ℕ) → bit n x ≡ 1 → x + i < 16 → bit (n * 2 ^ i % 65536) (x + i) ≡ 1
on_shl n i x h l = bit_cut (n * 2 ^ i) 16 (x + i) l ∙ bit_shl n i x ∙ h

shl_in : (n i x : ℕ) → bit (n * 2 ^ i) x ≡ 1 → i ≤ x
shl_in n i x h = ⊎_elim (λ w. absurd (omega (arith, bit_shl_low n i x w))) (λ w. w) (lt_or_le x i)

pub shl_on : (n i x : ℕ) → bit (n * 2 ^ i % 65536) x ≡ 1 → (i ≤ x) × (bit n (x - i) ≡ 1)
shl_on n i x h =
    let l : x < 16 = bit_in 16 (n * 2 ^ i % 65536) x (omega arith) h in
    let u : bit (n * 2 ^ i) x ≡ 1 = sym (bit_cut (n * 2 ^ i) 16 x l) ∙ h in
    let v : i ≤ x = shl_in n i x u in
    (v, sym (bit_shl n i (x - i)) ∙ subst (λ (k : ℕ). bit (n * 2 ^ i) k ≡ 1) (omega arith) u)

-- the rows as they were
abbrev pub was : List ℕ → ℕ → ℕ
was z q = get_or z q 0

module _ (z a : List ℕ) (i j : ℕ) where
  abbrev pub ored : ℕ → ℕ
  ored q = bit_or (get_or z q 0) (get_or a (q - j) 0 * 2 ^ i % 65536)

  module _ (r : List ℕ) (h : Filled ored (was z) j 16 r) where
    row_at : (y : ℕ) → ((j ≤ y) × ((y < 16) × (get_or r y 0 ≡ ored y))) ⊎ (get_or r y 0 ≡ was z y)
    row_at y = ⊎_elim
        (λ w. inr (h.before y w))
        (λ w. ⊎_elim (λ v. inl (w, (v, h.inside y w v))) (λ v. inr (h.after y v)) (lt_or_le y 16))
        (lt_or_le y j)

    pub onto_made : Onto z a i j r
    onto_made = record {
      to = λ x y s. ⊎_elim
          (λ w. ⊎_elim inl
          (λ v. let m = shl_on (get_or a (y - j) 0) i x v in
          inr (record { x1 = x - i; y1 = y - j; was = m.1; at_x = omega (arith, m.0); at_y = omega (arith, w.0) }))
          (or_on (get_or z y 0) (get_or a (y - j) 0 * 2 ^ i % 65536) x (ap (λ (n : ℕ). bit n x) (sym w.1.1) ∙ s)))
          (λ w. inl (ap (λ (n : ℕ). bit n x) (sym w) ∙ s))
          (row_at y);
      kept = λ x y s. ⊎_elim
          (λ w. ap (λ (n : ℕ). bit n x) w.1.1 ∙ on_or_l (get_or z y 0) (get_or a (y - j) 0 * 2 ^ i % 65536) x s)
          (λ w. ap (λ (n : ℕ). bit n x) w ∙ s)
          (row_at y);
      from = λ x y s p q.
          let e : y + j - j ≡ y = omega arith in
          ap (λ (n : ℕ). bit n (x + i)) (h.inside (y + j) (omega arith) q)
          ∙ on_or_r (get_or z (y + j) 0) (get_or a (y + j - j) 0 * 2 ^ i % 65536) (x + i)
          (on_shl (get_or a (y + j - j) 0) i x (ap (λ (k : ℕ). bit (get_or a k 0) x) e ∙ s) p);
    }

module _ (z t : List ℕ) (i j : ℕ) where
  abbrev pub anded : ℕ → ℕ
  anded q = bit_and (get_or z q 0) (get_or t (q + j) 0 / 2 ^ i)

  -- past the last row of t nothing is left
  pub and_out : (q : ℕ) → length t ≤ q + j → 0 ≡ anded q
  and_out q l =
      sym
      (ap (λ (n : ℕ). bit_and (get_or z q 0) (n / 2 ^ i)) (get_or-eq_default t 0 l) ∙ ap (bit_and (get_or z q 0)) (zero-div (2 ^ i))
      ∙ and_zero_r (get_or z q 0))

  module _ (lz : length z ≡ 16) (r : List ℕ) (h : Filled anded (was z) 0 16 r) where
    and_at : (y : ℕ) → ((y < 16) × (get_or r y 0 ≡ anded y)) ⊎ ((get_or z y 0 ≡ 0) × (get_or r y 0 ≡ 0))
    and_at y = ⊎_elim
        (λ v. inl (v, h.inside y (omega arith) v))
        (λ v. let e : get_or z y 0 ≡ 0 = get_or-eq_default z 0 (omega arith) in inr (e, h.after y v ∙ e))
        (lt_or_le y 16)

    pub under_made : Under z t i j r
    under_made = record {
      kept = λ x y s. ⊎_elim
          (λ w. and_on_l (get_or z y 0) (get_or t (y + j) 0 / 2 ^ i) x (ap (λ (n : ℕ). bit n x) (sym w.1) ∙ s))
          (λ w. absurd (no_bit x (ap (λ (n : ℕ). bit n x) (sym w.1) ∙ s)))
          (and_at y);
      to = λ x y s. ⊎_elim
          (λ w. subst (λ (k : ℕ). bit (get_or t (y + j) 0) k ≡ 1) (add_comm i x)
          (sym (bit_shr (get_or t (y + j) 0) i x) ∙ and_on_r (get_or z y 0) (get_or t (y + j) 0 / 2 ^ i) x (ap (λ (n : ℕ). bit n x) (sym w.1) ∙ s)))
          (λ w. absurd (no_bit x (ap (λ (n : ℕ). bit n x) (sym w.1) ∙ s)))
          (and_at y);
      from = λ x y s u. ⊎_elim
          (λ w. ap (λ (n : ℕ). bit n x) w.1
          ∙ on_and (get_or z y 0) (get_or t (y + j) 0 / 2 ^ i) x s
          (bit_shr (get_or t (y + j) 0) i x ∙ subst (λ (k : ℕ). bit (get_or t (y + j) 0) k ≡ 1) (add_comm x i) u))
          (λ w. absurd (no_bit x (ap (λ (n : ℕ). bit n x) (sym w.0) ∙ s)))
          (and_at y);
    }
