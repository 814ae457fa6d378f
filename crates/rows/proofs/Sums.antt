-- The sums of rows, a row and a bit at a time; rows with the same cells.
use mathlib.Core.Path.{◌≡◌, refl, sym, ap, subst, ◌∙◌}
use mathlib.Core.Logic.{◌⊎◌, ⊎_elim}
use mathlib.Core.List.{List}
use Prim.Native.Nat.{ℕ, zero, suc, ◌+◌, ◌-◌, ◌*◌, ◌/◌, ◌%◌, ◌^◌, ◌≤◌, ◌<◌}
use native.Mathlib.Omega.{arith}
use native.Mathlib.Nat.{eq-or-lt_of_le, pow-suc, div-lt_iff_lt-mul}
use native.Mathlib.Numerals.{add-one}
use lib.ListN.{length, get_or, replicate, get_or-eq_default}
use lib.Pow.{pow_pos, ones_split, high, ones_lt}
use Rattle.std.proofs.lemmas.List.{ext_get_or}
use Rattle.plane.proofs.Tests.{lt_or_le}
use Rattle.rows.specs.Cells.{Same, bit, At}
use Rattle.rows.specs.Leaves.{RowSum, SumTo}
use Rattle.rows.proofs.RowBits.{bits_ext, bit_in, no_bit, bit_shr}

pub last_or : (q n : ℕ) → q < n + 1 → (q ≡ n) ⊎ (q < n)
last_or q n h = eq-or-lt_of_le (omega arith)

-- 16 rows of 16 bits
pub record Rows16 (a : List ℕ) : Type 0 where
  pub rows : length a ≡ 16
  pub words : (q : ℕ) → get_or a q 0 < 65536

pub in_x : (a : List ℕ) → Rows16 a → (x y : ℕ) → At a x y → x < 16
in_x a w x y h = bit_in 16 (get_or a y 0) x (w.words y) h

pub in_y : (a : List ℕ) → Rows16 a → (x y : ℕ) → At a x y → y < 16
in_y a w x y h = ⊎_elim (λ v. v)
    (λ v. absurd (no_bit x (ap (λ (n : ℕ). bit n x) (sym (get_or-eq_default a 0 (subst (λ (k : ℕ). k ≤ y) (sym w.rows) v))) ∙ h)))
    (lt_or_le y 16)

-- a word that is not 0 has a bit
bit_of : (k n : ℕ) → n < 2 ^ k → (n ≡ 0 → ⊥) → (x : ℕ) × (bit n x ≡ 1)
bit_of zero n l f = absurd (f (omega arith))
bit_of (suc k) n l f = ⊎_elim
    (λ w. let e : 2 ^ suc k ≡ 2 ^ k * 2 = pow-suc 2 k in
    let g = bit_of k (n / 2) (omega arith) (λ z. f (omega arith)) in
    (1 + g.0, sym (bit_shr n 1 g.0) ∙ g.1))
    (λ w. (0, omega arith))
    (lt_or_le (n % 2) 1)

pub row_cell : (a : List ℕ) → Rows16 a → (y : ℕ) → (get_or a y 0 ≡ 0 → ⊥) → (x : ℕ) × At a x y
row_cell a w y f = bit_of 16 (get_or a y 0) (w.words y) f

-- a number without bits from n on is below 2 ^ n
low_of : (b n : ℕ) → b / 2 ^ n ≡ 0 → b < 2 ^ n
low_of b n e = let l = (div-lt_iff_lt-mul (pow_pos n)).0 (less (b / 2 ^ n) e) in omega arith
  where
    less : (k : ℕ) → k ≡ 0 → k < 1
    less k e = omega arith

-- ---- sums
module _ (z a : List ℕ) (b j : ℕ) where
  -- where no bit is left the sum is done
  pub row_sum_end : (n : ℕ) (r : List ℕ) → b / 2 ^ n ≡ 0 → RowSum z a b j n r → RowSum z a b j 16 r
  row_sum_end n r e p = record { to = p.to; kept = p.kept; from = λ i l u. p.from i (bit_in n b i (low_of b n e) u) u }

pub zero_at : (n q : ℕ) → ◌≡◌ {A = ℕ} (get_or (replicate n 0) q 0) 0
zero_at zero q = refl
zero_at (suc n) zero = refl
zero_at (suc n) (suc q) = zero_at n q

module _ (a b : List ℕ) where
  pub sum_more : Rows16 b → (n : ℕ) (r s : List ℕ) → SumTo a b n r → RowSum r a (get_or b n 0) n 16 s → SumTo a b (n + 1) s
  sum_more wb n r s p o = record {
    to = λ x y h. ⊎_elim (p.to x y)
        (λ w.
        record {
          x1 = w.1.1.x1;
          y1 = w.1.1.y1;
          x2 = w.0;
          y2 = n;
          left = w.1.1.was;
          right = w.1.0;
          at_x = w.1.1.at_x;
          at_y = w.1.1.at_y;
        })
        (o.to x y h);
    from = λ i j l u x y h v w. ⊎_elim
        (λ q. subst (λ (k : ℕ). At s (x + i) (y + k)) (sym q)
        (o.from i (in_x b wb i j u) (subst (λ (k : ℕ). At b i k) q u) x y h v (subst (λ (k : ℕ). y + k < 16) q w)))
        (λ q. o.kept (x + i) (y + j) (p.from i j q u x y h v w))
        (last_or j n l);
  }

  -- a row without a cell adds nothing
  pub sum_skip : (n : ℕ) (r : List ℕ) → get_or b n 0 ≡ 0 → SumTo a b n r → SumTo a b (n + 1) r
  sum_skip n r z p = record {
    to = p.to;
    from = λ i j l u x y h v w. ⊎_elim
        (λ q. absurd (no_bit i (ap (λ (k : ℕ). bit k i) (sym z) ∙ subst (λ (k : ℕ). At b i k) q u)))
        (λ q. p.from i j q u x y h v w)
        (last_or j n l);
  }

-- ---- a word of ones
-- each bit of 2 ^ (d + 1 + x) - 1 at x is set
ones_at : (d x : ℕ) → bit (2 ^ (d + 1 + x) - 1) x ≡ 1
ones_at d x = ap (λ (n : ℕ). bit n x) (ones_split (d + 1) x) ∙ ap (λ (n : ℕ). n % 2) (high (2 ^ (d + 1) - 1) x (ones_lt x))
    ∙ odd (2 ^ d) (pow_pos d) (2 ^ (d + 1)) (ap (λ (n : ℕ). 2 ^ n) (add-one d) ∙ pow-suc 2 d)
  where
    odd : (p : ℕ) → 0 < p → (q : ℕ) → q ≡ p * 2 → (q - 1) % 2 ≡ 1
    odd p h q e = omega arith

pub ones16 : (x : ℕ) → x < 16 → bit 65535 x ≡ 1
ones16 x h = let e : 16 - x - 1 + 1 + x ≡ 16 = omega arith in subst (λ (k : ℕ). bit (2 ^ k - 1) x ≡ 1) e (ones_at (16 - x - 1) x)

-- ---- the same cells
pub bit_same : (p q x : ℕ) → (bit p x ≡ 1 → bit q x ≡ 1) → (bit q x ≡ 1 → bit p x ≡ 1) → bit p x ≡ bit q x
bit_same p q x f g = ⊎_elim
    (λ u. ⊎_elim (λ v. omega arith) (λ v. let w : bit p x ≡ 1 = g (omega arith) in omega arith) (lt_or_le (bit q x) 1))
    (λ u. let w : bit q x ≡ 1 = f (omega arith) in omega arith)
    (lt_or_le (bit p x) 1)

-- are those of the same rows
pub same_rows : (a b : List ℕ) → Rows16 a → Rows16 b → Same (At a) (At b) → a ≡ b
same_rows a b wa wb s = ext_get_or 0 a b (wa.rows ∙ sym wb.rows) (λ q l.
    bits_ext 16 (get_or a q 0) (get_or b q 0) (wa.words q) (wb.words q) (λ x k. bit_same (get_or a q 0) (get_or b q 0) x (s.to x q) (s.from x q)))

pub rows_same : (a b : List ℕ) → Rows16 a → Rows16 b → ((q : ℕ) → q < 16 → get_or a q 0 ≡ get_or b q 0) → Same (At a) (At b)
rows_same a b wa wb e = record {
  to = λ x y h. ap (λ (n : ℕ). bit n x) (sym (e y (in_y a wa x y h))) ∙ h;
  from = λ x y h. ap (λ (n : ℕ). bit n x) (e y (in_y b wb x y h)) ∙ h;
}
