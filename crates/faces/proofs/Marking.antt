-- The rows that faces have, a row at a time: a row is put to a face where its own greatest value is the greatest of all rows.
use mathlib.Core.Path.{◌≡◌, refl, sym, ap, subst, ◌∙◌}
use mathlib.Core.Logic.{inl, inr, ⊎_elim}
use mathlib.Core.List.{List}
use Prim.Native.Nat.{ℕ, ◌+◌, ◌-◌, ◌*◌, ◌%◌, ◌^◌, ◌≤◌, ◌<◌}
use native.Mathlib.Omega.{arith}
use lib.Bits.{bit_or}
use lib.ListN.{get_or}
use Rattle.plane.proofs.Tests.{lt_or_le}
use Rattle.rows.specs.Cells.{At, bit}
use Rattle.rows.proofs.RowBits.{bit_in, no_bit}
use Rattle.rows.proofs.Shifts.{or_on, on_or_l, on_or_r, on_shl, shl_on}
use Rattle.rows.proofs.Sums.{Rows16, in_x, in_y, last_or}
use Rattle.edges.specs.Edges.{plus_x, plus_y, minus_x, minus_y, ahead, behind, Top}
use Rattle.edges.specs.Numbers.{Topped, RowTopped}
use Rattle.edges.proofs.Directions.{behind_small}
use Rattle.edges.proofs.Adding.{top_once}
use Rattle.rows.proofs.Addition.{same_refl}
use Rattle.faces.specs.Faces.{Shadow, Fair}
use Rattle.extents.specs.Extents.{row, column}
use Rattle.faces.proofs.Shadows.{fair_same}
use Rattle.faces.specs.Bits.{Bits, Indicated, Mark, Marked, OnRow, RowsTo, RowAt}

-- ---- one bit
-- a word with a bit is not 0
some_bit : (b k : ℕ) → bit b k ≡ 1 → 0 < b
some_bit b k h = ⊎_elim (λ w. absurd (no_bit k (subst (λ (n : ℕ). bit n k ≡ 1) (omega arith) h))) (λ w. w) (lt_or_le b 1)

-- m at y has y where m is 1, and no other number
only_y : (m y k : ℕ) → m ≤ 1 → bit (m * 2 ^ y % 65536) k ≡ 1 → (k ≡ y) × (m ≡ 1)
only_y m y k l h =
    let o = shl_on m y k h in
    let x = bit_in 1 m (k - y) (omega arith) o.1 in
    (omega (arith, o.0), omega (arith, some_bit m (k - y) o.1))

has_y : (m y : ℕ) → y < 16 → m ≡ 1 → bit (m * 2 ^ y % 65536) y ≡ 1
has_y m y l e = subst (λ (k : ℕ). bit (m * 2 ^ y % 65536) k ≡ 1) (omega arith) (on_shl m y 0 (ap (λ (k : ℕ). bit k 0) e) (omega arith))

pub marked_one : (b s v y m : ℕ) → y < 16 → Mark s v m → Marked b s v y (bit_or b (m * 2 ^ y % 65536))
marked_one b s v y m l a = record {
  to = λ k h. ⊎_elim (λ w. inl w) (λ w. let o = only_y m y k a.small w in inr (o.0, a.to o.1)) (or_on b _ k h);
  kept = λ k h. on_or_l b _ k h;
  from = λ e. on_or_r b _ y (has_y m y l (a.from e));
}

-- ---- a row more
module _ (i : ℕ) (cells : List ℕ) (s : ℕ) where
  pub rows_none : RowsTo i cells s 0 0
  rows_none = record { to = λ y h. absurd (no_bit y h); from = λ y l o. absurd (omega arith) }

  pub rows_skip : (n b : ℕ) → get_or cells n 0 ≡ 0 → RowsTo i cells s n b → RowsTo i cells s (n + 1) b
  rows_skip n b e w = record {
    to = w.to;
    from = λ y l o. ⊎_elim
        (λ q. absurd (no_bit o.x (ap (λ (k : ℕ). bit k o.x) (sym e) ∙ subst (λ (k : ℕ). At cells o.x k) q o.cell)))
        (λ q. w.from y q o)
        (last_or y n l);
  }

  pub rows_more : Topped i cells 16 s → (n v b r : ℕ) → n < 16 → RowTopped i (get_or cells n 0) n v → RowsTo i cells s n b → Marked b s v n r
      → RowsTo i cells s (n + 1) r
  rows_more t n v b r l a w m = record {
    to = λ y h. ⊎_elim
        (λ q. w.to y q)
        (λ q. subst (OnRow i cells s) (sym q.0) (record { x = a.x; cell = a.cell; at = omega (arith, a.at, q.1) }))
        (m.to y h);
    from = λ y k o. ⊎_elim
        (λ q. subst (λ (j : ℕ). bit r j ≡ 1) (sym q) (m.from (same (subst (OnRow i cells s) q o))))
        (λ q. m.kept y (w.from y q o))
        (last_or y n k);
  }
    where
      same : OnRow i cells s n → s ≡ v
      same o = omega (arith, o.at, a.all o.x o.cell, a.at, t.all a.x n a.cell l)

  pub rows_done : Rows16 cells → i < 16 → Topped i cells 16 s → (b : ℕ) → RowsTo i cells s 16 b → Indicated (Shadow row i (At cells)) b
  rows_done z l t b w = record {
    to = λ y h. let o = w.to y h in
        record {
          x = o.x;
          y = y;
          top = record { cell = o.cell; above = λ u v g. omega (arith, o.at, t.all u v g (in_y cells z u v g)) };
          at = refl;
        };
    from = λ k h. subst (λ (j : ℕ). bit b j ≡ 1) h.at
        (w.from h.y (in_y cells z h.x h.y h.top.cell) (record { x = h.x; cell = h.top.cell; at = value h.x h.y h.top }));
  }
    where
      value : (x y : ℕ) → Top i (At cells) x y → ahead i x y + 64 ≡ behind i x y + s
      value x y h =
          let p = t.all x y h.cell (in_y cells z x y h.cell) in
          ⊎_elim
          (λ e. absurd (omega (arith, behind_small i x y l (in_x cells z x y h.cell) (in_y cells z x y h.cell))))
          (λ a. omega (arith, a.at, h.above a.x a.y a.cell))
          t.some

-- ---- the columns of a face that lies in one row
pub record Level (i : ℕ) : Type 0 where
  pub along : (x u y : ℕ) → (ahead i x y ≡ ahead i u y) × (behind i x y ≡ behind i u y)
  pub once : (x y u v : ℕ) → ahead i x y + behind i u v ≡ ahead i u v + behind i x y → y ≡ v

pub level_4 : Level 4
unfolding plus_x plus_y minus_x minus_y
level_4 = record { along = λ x u y. (omega arith, omega arith); once = λ x y u v e. omega arith }

pub level_12 : Level 12
unfolding plus_x plus_y minus_x minus_y
level_12 = record { along = λ x u y. (omega arith, omega arith); once = λ x y u v e. omega arith }

module _ (i : ℕ) (h : Level i) (cells : List ℕ) (b r : ℕ) (w : Indicated (Shadow row i (At cells)) b) (a : RowAt cells b r) where
  -- b has one number, and r is that row
  at_row : (y : ℕ) → Shadow row i (At cells) y → r ≡ get_or cells y 0
  at_row y s = let p = a.some (some_bit b y (w.from y s)) in
      let t = w.to p.0 p.1.0.cell in
      let e : p.0 ≡ y = omega (arith, h.once _ _ _ _ (top_once i same_refl t.top s.top), t.at, s.at) in
      p.1.1 ∙ ap (λ (k : ℕ). get_or cells k 0) e

  pub columns_shown : Indicated (Shadow column i (At cells)) r
  columns_shown = record {
    to = λ k g.
        let p = a.some (⊎_elim (λ z. absurd (no_bit k (ap (λ (n : ℕ). bit n k) (sym (a.none (omega arith))) ∙ g))) (λ z. z) (lt_or_le b 1)) in
        let t = w.to p.0 p.1.0.cell in
        record { x = k; y = t.y; top = moved t.x t.y t.top k (ap (λ (n : ℕ). bit n k) (sym (at_row t.y (seen t))) ∙ g); at = refl };
    from = λ k s. subst (λ (x : ℕ). bit r x ≡ 1) s.at (ap (λ (n : ℕ). bit n s.x) (at_row s.y (seen s)) ∙ s.top.cell);
  }
    where
      -- a cell of the face, by its row
      seen : {number : ℕ → ℕ → ℕ} {k : ℕ} (s : Shadow number i (At cells) k) → Shadow row i (At cells) s.y
      seen s = record { x = s.x; y = s.y; top = s.top; at = refl }

      -- each cell of the row is one of the face
      moved : (x y : ℕ) → Top i (At cells) x y → (k : ℕ) → At cells k y → Top i (At cells) k y
      moved x y t k g = record { cell = g; above = λ u v q. let e = h.along x k y in omega (arith, t.above u v q) }

-- ---- a set and its word are spaced alike
pub into_bits : {S : ℕ → Type 0} {b only : ℕ} → Indicated S b → Fair only S → Fair only (Bits b)
into_bits w = fair_same w.from w.to

pub out_of_bits : {S : ℕ → Type 0} {b only : ℕ} → Indicated S b → Fair only (Bits b) → Fair only S
out_of_bits w = fair_same w.to w.from
