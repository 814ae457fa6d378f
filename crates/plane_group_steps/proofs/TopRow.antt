-- One row of cells put into bit 7 of a run of bytes, with one value below it.
use mathlib.Core.Path.{◌≡◌, ap, ◌∙◌}
use mathlib.Core.Logic.{⊎_elim}
use mathlib.Core.Bool.{Bool, true, cond}
use mathlib.Core.List.{List}
use Prim.Native.Nat.{ℕ, zero, suc, ◌*◌, ◌<◌, ◌≤◌}
use native.Mathlib.Omega.{arith}
use lib.Dec.{ltb, eqb}
use lib.ListN.{length, get_or}
use borrow.Author.Tests.{lt-ltb, le-ltb, eq-eqb, ne_eqb, le-leb}
use Rattle.plane.proofs.Tests.{lt_or_le}
use Rattle.rows.specs.Cells.{bit}
use Rattle.rows.proofs.RowBits.{bit_cut, no_bit}
use Rattle.rows.proofs.Sums.{ones16}
use Rattle.ranges.specs.Ranges.{Ranged}
use Rattle.ranges.proofs.Sizing.{holds}
use Rattle.planes.specs.Bits.{level_bit}
use Rattle.planes.specs.Bytes.{Bitted}
use Rattle.plane_group_steps.specs.Groups.{laid_bit, top_bit, top_fits, RowTopped}

-- the lower seven bits of one value
low_seven : (v q : ℕ) → v ≤ 1 → q < 8 → bit (v * 127) q ≡ cond (ltb q 7) v 0
low_seven zero q h l =
    let z : bit (zero * 127) q ≡ 0 = omega (arith, no_bit q) in
    z ∙ ⊎_elim (λ (u : q < 7). rw (lt-ltb q 7 u)) (λ (u : 7 ≤ q). rw (le-ltb q 7 u)) (lt_or_le q 7)
low_seven (suc zero) q h l = ⊎_elim
    (λ (u : q < 7). bit_cut 65535 7 q u ∙ ones16 q (omega arith) ∙ rw (lt-ltb q 7 u))
    (λ (u : 7 ≤ q). let e : q ≡ 7 = omega arith in rw e)
    (lt_or_le q 7)
low_seven (suc (suc v)) q h l = absurd (omega arith)

pub top_bits : (some : Bool) (v : ℕ) (s : List ℕ) {d d₁ d₂ : List ℕ} → v ≤ 1 → Ranged 0 0 (length d) (λ _. v * 127) d d₁
    → Bitted 0 (length d₁) (λ k q. laid_bit some (get_or d₁ k 0) (get_or s k 0) 7 q) d₁ d₂ → Bitted 0 (length d) (top_bit some s v) d d₂
top_bits some v s {d₁ = d₁} hv a b = record {
  len = b.len ∙ a.len;
  at = λ k q lo hi lq.
      b.at k q lo (omega (arith, a.len)) lq ∙ one k q lq (ap (λ (n : ℕ). bit n q) (a.at k lo hi) ∙ low_seven v q hv lq);
  below = λ k u. absurd (omega arith);
  above = λ k u. b.above k (omega (arith, a.len)) ∙ a.above k u;
}
  where
    one : (k q : ℕ) → q < 8 → bit (get_or d₁ k 0) q ≡ cond (ltb q 7) v 0 → laid_bit some (get_or d₁ k 0) (get_or s k 0) 7 q ≡ top_bit some s v k q
    one k q lq e = ⊎_elim
        (λ (u : q < 7).
        let x : bit (get_or d₁ k 0) q ≡ v = e ∙ rw (lt-ltb q 7 u) in
        let y : cond (eqb q 7) (level_bit some (get_or s k 0)) 0 ≡ 0 = rw (ne_eqb q 7 (λ n. omega arith)) in
        let z : top_bit some s v k q ≡ v = rw (lt-ltb q 7 u) in
        omega arith)
        (λ (u : 7 ≤ q).
        let x : bit (get_or d₁ k 0) q ≡ 0 = e ∙ rw (le-ltb q 7 u) in
        let y : cond (eqb q 7) (level_bit some (get_or s k 0)) 0 ≡ level_bit some (get_or s k 0) = rw (eq-eqb q 7 (omega arith)) in
        let z : top_bit some s v k q ≡ level_bit some (get_or s k 0) = rw (le-ltb q 7 u) in
        omega arith)
        (lt_or_le q 7)

-- the test on a row, where both of its halves hold
pub top_fits_lem : (n m v : ℕ) → n ≤ m → v ≤ 1 → top_fits n m v ≡ true
top_fits_lem n m v l h = rw (le-leb n m l, le-leb v 1 h)

-- a row that fits was put
pub top_done : (some : Bool) (v : ℕ) (s d : List ℕ) {b : Bool} {d' : List ℕ} → length d ≤ length s → v ≤ 1 → RowTopped some v s d b d'
    → Bitted 0 (length d) (top_bit some s v) d d'
top_done some v s d l h g = g.done (holds (top_fits_lem (length d) (length s) v l h))
