-- What a pass reads at a flat distance, bit by bit, is a cell of the plane: (x − i, y − j) for dilation, (x + i, y + j) for erosion. So the three passes of a
-- mask's rows give the stage's cells.
use mathlib.Core.Path.{◌≡◌, refl, sym, ap, ◌∙◌}
use mathlib.Core.Logic.{⊎_elim}
use mathlib.Core.Bool.{true, false}
use mathlib.Core.List.{List}
use Prim.Native.Nat.{ℕ, ◌+◌, ◌-◌, ◌*◌, ◌/◌, ◌%◌, ◌<◌, ◌≤◌}
use native.Mathlib.Nat.{add-mul}
use native.Mathlib.Omega.{arith}
use lib.ListN.{length, get_or}
use borrow.Author.Tests.{le-leb, lt-leb}
use Rattle.plane.proofs.Tests.{lt_or_le}
use Rattle.rows.specs.Cells.{bit}
use Rattle.planes.specs.Bits.{bit_pick, bit_seed}
use Rattle.planes.specs.MaskBits.{over_bits}
use Rattle.planes.specs.Bytes.{Bitted}
use Rattle.planes.specs.Planes.{bit_seen}
use Rattle.plane_pass_steps.specs.Passes.{lifted_bit, lift_of}
use Rattle.plane_row_steps.specs.MaskRows.{first_bit, next_bit, across_of, step_of, of_columns, Rowed}
use Rattle.plane_row_steps.proofs.MaskColumns.{nine_bits, columns_ap}

-- a bit of a byte is the cell that stands there
at_cell : (s : ℕ) (p : List ℕ) (x y n q : ℕ) → n ≡ y / 8 * s + x → q ≡ y % 8 → bit (get_or p n 0) q ≡ bit_seen s p x y
unfolding bit_seen
at_cell s p x y n q e f = rw (e, f)

module _ (s : ℕ) (p : List ℕ) (x y : ℕ) where
  -- from the byte that begins at column 2 of row 8
  abbrev from : ℕ
  from = y / 8 * s + x - (s + 2)

  module _ (h : 2 ≤ x) (g : 8 ≤ y) where
    row_before : y / 8 * s ≡ (y / 8 - 1) * s + s
    row_before = let e : y / 8 - 1 + 1 ≡ y / 8 = omega arith in omega (arith, ap (λ (n : ℕ). n * s) e, add-mul (y / 8 - 1) 1 s)

    back : (i : ℕ) → i ≤ 2 → bit (get_or p (from + (s + (2 - i))) 0) (y % 8) ≡ bit_seen s p (x - i) (y - 0)
    back i l =
        let e : (y - 0) / 8 ≡ y / 8 = omega arith in
        at_cell s p (x - i) (y - 0) (from + (s + (2 - i))) (y % 8) (omega (arith, row_before, ap (λ (n : ℕ). n * s) e)) (omega arith)

    back_up : (i j : ℕ) → i ≤ 2 → 0 < j → j ≤ 2 → lifted_bit p s j (from + (0 + (2 - i))) (y % 8) ≡ bit_seen s p (x - i) (y - j)
    back_up i j l lo hi = ⊎_elim
        (λ (u : y % 8 < j).
        let e : (y - j) / 8 ≡ y / 8 - 1 = omega arith in
        rw (lt-leb j (y % 8) u)
        (at_cell s p (x - i) (y - j) (from + (0 + (2 - i))) (y % 8 + 8 - j) (omega (arith, row_before, ap (λ (n : ℕ). n * s) e)) (omega arith)))
        (λ (u : j ≤ y % 8).
        let e : (y - j) / 8 ≡ y / 8 = omega arith in
        rw (le-leb j (y % 8) u)
        (at_cell s p (x - i) (y - j) (from + (0 + (2 - i)) + s) (y % 8 - j) (omega (arith, row_before, ap (λ (n : ℕ). n * s) e)) (omega arith)))
        (lt_or_le (y % 8) j)

    ahead : (i : ℕ) → bit (get_or p (from + (s + 2 + i)) 0) (y % 8) ≡ bit_seen s p (x + i) (y + 0)
    ahead i =
        let e : (y + 0) / 8 ≡ y / 8 = omega arith in
        at_cell s p (x + i) (y + 0) (from + (s + 2 + i)) (y % 8) (omega (arith, row_before, ap (λ (n : ℕ). n * s) e)) (omega arith)

    ahead_up : (i j : ℕ) → 0 < j → j ≤ 2 → lifted_bit p s (8 - j) (from + (s + 2 + i)) (y % 8) ≡ bit_seen s p (x + i) (y + j)
    ahead_up i j lo hi = ⊎_elim
        (λ (u : y % 8 < 8 - j).
        let e : (y + j) / 8 ≡ y / 8 = omega arith in
        rw (lt-leb (8 - j) (y % 8) u)
        (at_cell s p (x + i) (y + j) (from + (s + 2 + i)) (y % 8 + 8 - (8 - j)) (omega (arith, row_before, ap (λ (n : ℕ). n * s) e)) (omega arith)))
        (λ (u : 8 - j ≤ y % 8).
        let e : (y + j) / 8 ≡ y / 8 + 1 = omega arith in
        rw (le-leb (8 - j) (y % 8) u)
        (at_cell s p (x + i) (y + j) (from + (s + 2 + i) + s) (y % 8 - (8 - j))
        (omega (arith, row_before, ap (λ (n : ℕ). n * s) e, add-mul (y / 8) 1 s)) (omega arith)))
        (lt_or_le (y % 8) (8 - j))

-- three rows, one after the other, are the nine bits
three_rows : (pick : ℕ → ℕ → ℕ) (e m : ℕ) (f g₀ g₁ g₂ : ℕ → ℕ) (v₁ v₂ v₃ : ℕ) → v₁ ≡ of_columns pick g₀ m 0 e → v₂ ≡ of_columns pick g₁ m 3 v₁
    → v₃ ≡ of_columns pick g₂ m 6 v₂
    → (g₀ 0 ≡ f 0) × (g₀ 1 ≡ f 1) × (g₀ 2 ≡ f 2) → (g₁ 0 ≡ f 3) × (g₁ 1 ≡ f 4) × (g₁ 2 ≡ f 5) → (g₂ 0 ≡ f 6) × (g₂ 1 ≡ f 7) × (g₂ 2 ≡ f 8)
    → v₃ ≡ over_bits pick e f m 9
three_rows pick e m f g₀ g₁ g₂ v₁ v₂ v₃ a b c r s t =
    c ∙ columns_ap pick g₂ (λ i. f (6 + i)) m 6 t.0 t.1 t.2
    (b ∙ columns_ap pick g₁ (λ i. f (3 + i)) m 3 s.0 s.1 s.2
    (a ∙ columns_ap pick g₀ (λ i. f i) m 0 r.0 r.1 r.2 refl))
    ∙ sym (nine_bits pick e f m)

module _ (s m : ℕ) (p : List ℕ) {d d₁ d₂ d₃ : List ℕ} where
  pub rowed_back : Bitted 0 (length d) (first_bit false p s m) d d₁ → Bitted 0 (length d₁) (next_bit false d₁ p 0 s m 1) d₁ d₂
      → Bitted 0 (length d₂) (next_bit false d₂ p 0 s m 2) d₂ d₃ → Rowed false s m p d d₃
  rowed_back a b c = record {
    len = c.len ∙ b.len ∙ a.len;
    at = λ x y h g l.
        let k = y / 8 * s + x - (s + 2) in
        let q = y % 8 in
        let lk : k < length d = omega (arith, row_before s p x y h g) in
        three_rows (bit_pick false) (bit_seed false) m (λ b. bit_seen s p (step_of false x (b % 3)) (step_of false y (b / 3)))
        (λ i. bit (get_or p (k + (s + across_of false i)) 0) q) (λ i. lifted_bit p s (lift_of false 1) (k + (0 + across_of false i)) q)
        (λ i. lifted_bit p s (lift_of false 2) (k + (0 + across_of false i)) q)
        (bit (get_or d₁ k 0) q) (bit (get_or d₂ k 0) q) (bit (get_or d₃ k 0) q)
        (a.at k q (omega arith) lk (omega arith)) (b.at k q (omega arith) (omega (arith, a.len)) (omega arith))
        (c.at k q (omega arith) (omega (arith, b.len, a.len)) (omega arith))
        (back s p x y h g 0 (omega arith), back s p x y h g 1 (omega arith), back s p x y h g 2 (omega arith)) (
          back_up s p x y h g 0 1 (omega arith) (omega arith) (omega arith),
          back_up s p x y h g 1 1 (omega arith) (omega arith) (omega arith),
          back_up s p x y h g 2 1 (omega arith) (omega arith) (omega arith),
        ) (
          back_up s p x y h g 0 2 (omega arith) (omega arith) (omega arith),
          back_up s p x y h g 1 2 (omega arith) (omega arith) (omega arith),
          back_up s p x y h g 2 2 (omega arith) (omega arith) (omega arith),
        );
  }

  pub rowed_ahead : Bitted 0 (length d) (first_bit true p (s + 2) m) d d₁ → Bitted 0 (length d₁) (next_bit true d₁ p (s + 2) s m 1) d₁ d₂
      → Bitted 0 (length d₂) (next_bit true d₂ p (s + 2) s m 2) d₂ d₃ → Rowed true s m p d d₃
  rowed_ahead a b c = record {
    len = c.len ∙ b.len ∙ a.len;
    at = λ x y h g l.
        let k = y / 8 * s + x - (s + 2) in
        let q = y % 8 in
        let lk : k < length d = omega (arith, row_before s p x y h g) in
        three_rows (bit_pick true) (bit_seed true) m (λ b. bit_seen s p (step_of true x (b % 3)) (step_of true y (b / 3)))
        (λ i. bit (get_or p (k + (s + 2 + across_of true i)) 0) q) (λ i. lifted_bit p s (lift_of true 1) (k + (s + 2 + across_of true i)) q)
        (λ i. lifted_bit p s (lift_of true 2) (k + (s + 2 + across_of true i)) q)
        (bit (get_or d₁ k 0) q) (bit (get_or d₂ k 0) q) (bit (get_or d₃ k 0) q)
        (a.at k q (omega arith) lk (omega arith)) (b.at k q (omega arith) (omega (arith, a.len)) (omega arith))
        (c.at k q (omega arith) (omega (arith, b.len, a.len)) (omega arith))
        (ahead s p x y h g 0, ahead s p x y h g 1, ahead s p x y h g 2) (
          ahead_up s p x y h g 0 1 (omega arith) (omega arith),
          ahead_up s p x y h g 1 1 (omega arith) (omega arith),
          ahead_up s p x y h g 2 1 (omega arith) (omega arith),
        ) (
          ahead_up s p x y h g 0 2 (omega arith) (omega arith),
          ahead_up s p x y h g 1 2 (omega arith) (omega arith),
          ahead_up s p x y h g 2 2 (omega arith) (omega arith),
        );
  }
