-- Rows of cells put into a run of bytes, the first of them first.
use mathlib.Core.Path.{◌≡◌, sym, ap, ◌∙◌}
use mathlib.Core.Logic.{⊎_elim}
use mathlib.Core.Bool.{Bool, cond}
use mathlib.Core.List.{List}
use Prim.Native.Nat.{ℕ, ◌+◌, ◌-◌, ◌*◌, ◌%◌, ◌^◌, max, ◌<◌, ◌≤◌}
use native.Mathlib.Omega.{arith}
use lib.Dec.{ltb, eqb}
use lib.ListN.{length, get_or}
use borrow.Author.Tests.{lt-ltb, le-ltb, eq-eqb, ne_eqb}
use borrow.Rule.Slice.PartMut.{mid_of}
use Rattle.plane.proofs.Tests.{lt_or_le}
use Rattle.rows.specs.Cells.{bit}
use Rattle.ranges.specs.Ranges.{Ranged}
use Rattle.ranges.proofs.Ranges.{get_d_mid}
use Rattle.planes.specs.Bits.{level_bit}
use Rattle.planes.specs.Bytes.{Bitted}
use Rattle.planes.proofs.WholeBytes.{up_in, up_out}
use Rattle.plane_group_steps.specs.Groups.{laid_bit, group_bit}

-- the greater of two numbers of which one is 0
first_of : {x y a : ℕ} → x ≡ a → y ≡ 0 → max x y ≡ a
first_of p q = omega arith

second_of : {x y a : ℕ} → x ≡ 0 → y ≡ a → max x y ≡ a
second_of p q = omega arith

-- bit q of byte k after the rows below j were put into it, of r rows under the bits of v
abbrev pub few_bit : Bool → List ℕ → ℕ → ℕ → ℕ → ℕ → ℕ → ℕ → ℕ
few_bit some s w r v j k q = cond (ltb q j) (level_bit some (get_or s (q * w + k) 0)) (bit (v * 2 ^ r % 256) q)

module _ (some : Bool) (s : List ℕ) (w r v : ℕ) where
  module _ (j : ℕ) (l : j < r) (small : r < 8) (fits : r * w ≤ length s) where
    -- the row's cells
    row : (k : ℕ) → k < w → get_or (mid_of (j * w) (j * w + w - j * w) s) k 0 ≡ get_or s (j * w + k) 0
    row k h = get_d_mid 0 (j * w) (j * w + w - j * w) s k (omega arith)

    lay_bit : (b k q : ℕ) → k < w → q < 8 → bit b q ≡ few_bit some s w r v j k q
        → laid_bit some b (get_or (mid_of (j * w) (j * w + w - j * w) s) k 0) j q ≡ few_bit some s w r v (j + 1) k q
    lay_bit b k q h lq e =
        let c = get_or (mid_of (j * w) (j * w + w - j * w) s) k 0 in
        ⊎_elim
        (λ (u : q < j).
        let p : few_bit some s w r v j k q ≡ level_bit some (get_or s (q * w + k) 0) = rw (lt-ltb q j u) in
        let n : few_bit some s w r v (j + 1) k q ≡ level_bit some (get_or s (q * w + k) 0) = rw (lt-ltb q (j + 1) (omega arith)) in
        let z : cond (eqb q j) (level_bit some c) 0 ≡ 0 = rw (ne_eqb q j (λ e. omega arith)) in
        first_of (e ∙ p) z ∙ sym n)
        (λ (u : j ≤ q). ⊎_elim
        (λ (g : j < q).
        let p : few_bit some s w r v j k q ≡ bit (v * 2 ^ r % 256) q = rw (le-ltb q j u) in
        let n : few_bit some s w r v (j + 1) k q ≡ bit (v * 2 ^ r % 256) q = rw (le-ltb q (j + 1) (omega arith)) in
        let z : cond (eqb q j) (level_bit some c) 0 ≡ 0 = rw (ne_eqb q j (λ e. omega arith)) in
        first_of (e ∙ p) z ∙ sym n)
        (λ (g : q ≤ j).
        let m : q ≡ j = omega arith in
        let p : few_bit some s w r v j k q ≡ bit (v * 2 ^ r % 256) q = rw (le-ltb q j u) in
        let n : few_bit some s w r v (j + 1) k q ≡ level_bit some (get_or s (q * w + k) 0) = rw (lt-ltb q (j + 1) (omega arith)) in
        let z : cond (eqb q j) (level_bit some c) 0 ≡ level_bit some c = rw (eq-eqb q j m) in
        second_of (e ∙ p ∙ up_out v r q (omega arith) lq) (z ∙ ap (level_bit some) (row k h) ∙ ap (λ (i : ℕ). level_bit some (get_or s (i * w + k) 0)) (sym m))
        ∙ sym n)
        (lt_or_le j q))
        (lt_or_le q j)

    pub few_more : {d d' d'' : List ℕ} → length d ≤ w → Bitted 0 (length d) (few_bit some s w r v j) d d'
        → Bitted 0 (length d') (λ k q. laid_bit some (get_or d' k 0) (get_or (mid_of (j * w) (j * w + w - j * w) s) k 0) j q) d' d''
        → Bitted 0 (length d) (few_bit some s w r v (j + 1)) d d''
    few_more {d} {d'} h a b = record {
      len = b.len ∙ a.len;
      at = λ k q lo hi lq. b.at k q lo (omega (arith, a.len)) lq ∙ lay_bit (get_or d' k 0) k q (omega arith) lq (a.at k q lo hi lq);
      below = λ k u. absurd (omega arith);
      above = λ k u. b.above k (omega (arith, a.len)) ∙ a.above k u;
    }

  -- all of them
  pub few_all : {d d' d'' : List ℕ} → Ranged 0 0 (length d) (λ _. v * 2 ^ r % 256) d d' → Bitted 0 (length d') (few_bit some s w r v r) d' d''
      → Bitted 0 (length d) (group_bit some s w r v) d d''
  few_all a b = record {
    len = b.len ∙ a.len;
    at = λ k q lo hi lq. b.at k q lo (omega (arith, a.len)) lq ∙ ⊎_elim
        (λ (u : q < r). rw (lt-ltb q r u))
        (λ (u : r ≤ q). rw (le-ltb q r u) (up_in v r q u lq))
        (lt_or_le q r);
    below = λ k u. absurd (omega arith);
    above = λ k u. b.above k (omega (arith, a.len)) ∙ a.above k u;
  }
