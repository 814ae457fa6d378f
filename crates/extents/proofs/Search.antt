-- The first and the last row or column with a cell, by a search that passes one number a turn: every cell lies past the numbers passed.
-- A row that is not 0 has a cell; the or of all rows has a bit for each column with a cell.
use mathlib.Core.Path.{◌≡◌, refl, sym, ap, subst, ◌∙◌}
use mathlib.Core.Logic.{◌⊎◌, inl, inr, ⊎_elim}
use Rattle.std.specs.Prelude.{Option, None, Some, MatchOption}
use mathlib.Core.List.{List, [], ◌∷◌}
use Rattle.std.specs.List.{fold}
use Prim.Native.Nat.{ℕ, zero, suc, ◌+◌, ◌-◌, ◌≤◌, ◌<◌}
use native.Mathlib.Omega.{arith}
use lib.Bits.{bit_or}
use lib.ListN.{get_or}
use Rattle.plane.proofs.Tests.{lt_or_le}
use Rattle.rows.specs.Cells.{Cells, At, bit}
use Rattle.extents.specs.Extents.{NoCell, Greatest, FirstOf, LastOf, Columns, row, column}
use Rattle.rows.proofs.RowBits.{no_bit}
use Rattle.rows.proofs.Shifts.{or_on, on_or_l, on_or_r}
use Rattle.rows.proofs.Sums.{Rows16, in_y, row_cell}

-- ---- searches
module _ (number : ℕ → ℕ → ℕ) (X : Cells) where
  -- no cell has the number n
  pub record Clear (n : ℕ) : Type 0 where
    pub clear : (x y : ℕ) → X x y → number x y ≡ n → ⊥

  -- every cell has a number from n on
  pub record From (n : ℕ) : Type 0 where
    pub from : (x y : ℕ) → X x y → n ≤ number x y

  -- every cell has a number below n
  pub record Below (n : ℕ) : Type 0 where
    pub below : (x y : ℕ) → X x y → number x y < n

  pub from_none : From 0
  from_none = record { from = λ x y h. omega arith }

  pub from_more : (n : ℕ) → From n → Clear n → From (n + 1)
  from_more n p q =
      record { from = λ x y h. let l = p.from x y h in ⊎_elim (λ w. absurd (q.clear x y h (omega arith))) (λ w. w) (lt_or_le (number x y) (n + 1)) }

  pub from_done : (n : ℕ) → 16 ≤ n → From n → ((x y : ℕ) → X x y → number x y < 16) → NoCell X
  from_done n l p f = record { no = λ x y h. let u = p.from x y h in let v = f x y h in omega arith }

  pub below_less : (n : ℕ) → 0 < n → Below n → Clear (n - 1) → Below (n - 1)
  below_less n l p q =
      record { below = λ x y h. let k = p.below x y h in ⊎_elim (λ w. w) (λ w. absurd (q.clear x y h (omega arith))) (lt_or_le (number x y) (n - 1)) }

  pub below_found : (n x y : ℕ) → Below n → X x y → number x y ≡ n - 1 → Greatest number X (n - 1)
  below_found n x y p h e = record { x = x; y = y; cell = h; at = e; all = λ u v g. let l = p.below u v g in omega arith }

  pub below_done : (n : ℕ) → n ≤ 0 → Below n → NoCell X
  below_done n l p = record { no = λ x y h. let u = p.below x y h in omega arith }

-- ---- rows
-- the first row that is not 0, and the last
pub first_row_of : (a : List ℕ) → Rows16 a → (r : Option ℕ)
    → MatchOption r ((k : ℕ) → k < 16 → get_or a k 0 ≡ 0) (λ n. (n < 16) × (get_or a n 0 ≡ 0 → ⊥) × ((k : ℕ) → k < n → get_or a k 0 ≡ 0)) → FirstOf row (At a) r
first_row_of a w None h = record { no = λ x y s. no_bit x (ap (λ (q : ℕ). bit q x) (sym (h y (in_y a w x y s))) ∙ s) }
first_row_of a w (Some n) h =
    let g = row_cell a w n h.1 in
    record {
      x = g.0;
      y = n;
      cell = g.1;
      at = refl;
      all = λ x y s. ⊎_elim (λ l. absurd (no_bit x (ap (λ (q : ℕ). bit q x) (sym (h.2 y l)) ∙ s))) (λ l. l) (lt_or_le y n);
    }

pub last_row_of : (a : List ℕ) → Rows16 a → (r : Option ℕ)
    → MatchOption r ((k : ℕ) → k < 16 → get_or a k 0 ≡ 0) (λ n. (n < 16) × (get_or a n 0 ≡ 0 → ⊥) × ((k : ℕ) → n < k → k < 16 → get_or a k 0 ≡ 0)) → LastOf row (At a) r
last_row_of a w None h = record { no = λ x y s. no_bit x (ap (λ (q : ℕ). bit q x) (sym (h y (in_y a w x y s))) ∙ s) }
last_row_of a w (Some n) h =
    let g = row_cell a w n h.1 in
    record {
      x = g.0;
      y = n;
      cell = g.1;
      at = refl;
      all = λ x y s. ⊎_elim (λ l. absurd (no_bit x (ap (λ (q : ℕ). bit q x) (sym (h.2 y l (in_y a w x y s))) ∙ s))) (λ l. l) (lt_or_le n y);
    }

-- ---- columns
or_kept : (a : List ℕ) (r x : ℕ) → bit r x ≡ 1 → bit (fold bit_or r a) x ≡ 1
or_kept [] r x h = h
or_kept (q ∷ a) r x h = or_kept a (bit_or r q) x (on_or_l r q x h)

or_to : (a : List ℕ) (r x : ℕ) → bit (fold bit_or r a) x ≡ 1 → (bit r x ≡ 1) ⊎ ((y : ℕ) × At a x y)
or_to [] r x h = inl h
or_to (q ∷ a) r x h = ⊎_elim (λ w. ⊎_elim inl (λ v. inr (0, v)) (or_on r q x w)) (λ w. inr (suc w.0, w.1)) (or_to a (bit_or r q) x h)

or_from : (a : List ℕ) (r x y : ℕ) → At a x y → bit (fold bit_or r a) x ≡ 1
or_from [] r x y h = absurd (no_bit x h)
or_from (q ∷ a) r x zero h = or_kept a (bit_or r q) x (on_or_r r q x h)
or_from (q ∷ a) r x (suc y) h = or_from a (bit_or r q) x y h

-- the or of all rows has the columns with a cell
pub columns_of : (a : List ℕ) → Columns a 16 (fold bit_or 0 a)
columns_of a = record {
  to = λ x h. ⊎_elim (λ w. absurd (no_bit x w)) (λ w. w) (or_to a 0 x h);
  from = λ x y l h. or_from a 0 x y h;
}

-- a column whose bit is not set has no cell
pub column_clear : (a : List ℕ) (r : ℕ) → Rows16 a → Columns a 16 r → (n : ℕ) → (bit r n ≡ 1 → ⊥) → Clear column (At a) n
column_clear a r w p n f = record { clear = λ x y h k. f (subst (λ (q : ℕ). bit r q ≡ 1) k (p.from x y (in_y a w x y h) h)) }
