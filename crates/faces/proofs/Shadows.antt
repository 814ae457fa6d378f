-- The faces of sums of masks. A cell of a face of X ⊕ Y is the sum of a cell of the face of X and one of that of Y, so the shadow of a sum is the sum of the
-- shadows; that of a mask lies from 0 to 2, and where a direction has one step only, two of its numbers are that step apart.
use mathlib.Core.Path.{◌≡◌, refl, sym, subst, ◌∙◌}
use mathlib.Core.Logic.{◌⊎◌, inl, inr, ⊎_elim}
use mathlib.Core.List.{List, [], ◌∷◌}
use Prim.Native.Nat.{ℕ, ◌+◌, ◌≤◌, ◌<◌}
use native.Mathlib.Omega.{arith}
use borrow.Author.Count.{below_more}
use lib.Dec.{leb, leb→le}
use Rattle.plane.proofs.Member.{each_below}
use Rattle.plane.proofs.Tests.{lt_or_le}
use Rattle.rows.specs.Cells.{Cells, Same, Sum, AtMask, AtOrigin, AtSum}
use Rattle.rows.proofs.Addition.{same_refl, same_sym, add_cells}
use Rattle.edges.specs.Edges.{plus_x, plus_y, minus_x, minus_y, ahead, behind, Top}
use Rattle.edges.proofs.Adding.{ahead_adds, behind_adds, top_same, top_once, top_sum}
use Rattle.faces.specs.Faces.{Shadow, Spaced, only_of, Fair, NeverSum}
use Rattle.extents.specs.Extents.{row, column}
use Rattle.faces.proofs.Spacing.{Plus, Kind, spaced_same, kind_same, spaced_plus, kind_plus, kind_of_three}

-- ---- faces of a sum
module _ (i : ℕ) {X Y : Cells} {x y : ℕ} (t : Top i (Sum X Y) x y) where
  at_ahead : ahead i x y ≡ ahead i t.cell.x1 t.cell.y1 + ahead i t.cell.x2 t.cell.y2
  at_ahead = rw (← t.cell.at_x, ← t.cell.at_y) (ahead_adds i t.cell.x1 t.cell.y1 t.cell.x2 t.cell.y2)

  at_behind : behind i x y ≡ behind i t.cell.x1 t.cell.y1 + behind i t.cell.x2 t.cell.y2
  at_behind = rw (← t.cell.at_x, ← t.cell.at_y) (behind_adds i t.cell.x1 t.cell.y1 t.cell.x2 t.cell.y2)

  left_top : Top i X t.cell.x1 t.cell.y1
  left_top = record {
    cell = t.cell.left;
    above = λ u v h. let s = t.cell in omega (
      arith,
      t.above (u + s.x2) (v + s.y2) (add_cells u v s.x2 s.y2 h s.right),
      ahead_adds i u v s.x2 s.y2,
      behind_adds i u v s.x2 s.y2,
      at_ahead,
      at_behind,
    );
  }

  right_top : Top i Y t.cell.x2 t.cell.y2
  right_top = record {
    cell = t.cell.right;
    above = λ u v h. let s = t.cell in omega (
      arith,
      t.above (s.x1 + u) (s.y1 + v) (add_cells s.x1 s.y1 u v s.left h),
      ahead_adds i s.x1 s.y1 u v,
      behind_adds i s.x1 s.y1 u v,
      at_ahead,
      at_behind,
    );
  }

-- ---- shadows, by a number that adds up
module _ (number : ℕ → ℕ → ℕ) (adds : (x y u v : ℕ) → number (x + u) (y + v) ≡ number x y + number u v) (i : ℕ) where
  to_plus : {X Y : Cells} (k : ℕ) → Shadow number i (Sum X Y) k → Plus (Shadow number i X) (Shadow number i Y) k
  to_plus k s = let c = s.top.cell in
      record {
        a = number c.x1 c.y1;
        b = number c.x2 c.y2;
        left = record { x = c.x1; y = c.y1; top = left_top i s.top; at = refl };
        right = record { x = c.x2; y = c.y2; top = right_top i s.top; at = refl };
        at = sym (adds c.x1 c.y1 c.x2 c.y2) ∙ rw (c.at_x, c.at_y) s.at;
      }

  from_plus : {X Y : Cells} (k : ℕ) → Plus (Shadow number i X) (Shadow number i Y) k → Shadow number i (Sum X Y) k
  from_plus k p = record {
    x = p.left.x + p.right.x;
    y = p.left.y + p.right.y;
    top = top_sum i p.left.top p.right.top;
    at = omega (arith, adds p.left.x p.left.y p.right.x p.right.y, p.left.at, p.right.at, p.at);
  }

  -- the cell (0, 0) alone has one number
  origin_spaced : (step : ℕ) → Spaced step (Shadow number i AtOrigin)
  origin_spaced step = record {
    next = λ a b p q l.
        let e : number p.x p.y ≡ number q.x q.y = cc (p.top.cell.at_x, p.top.cell.at_y, q.top.cell.at_x, q.top.cell.at_y) in
        absurd (omega (arith, p.at, q.at));
  }

  pub spaced_sum : (step : ℕ) → ((m : ℕ) → Spaced step (Shadow number i (AtMask m))) → (L : List ℕ) → Spaced step (Shadow number i (AtSum L))
  spaced_sum step f [] = origin_spaced step
  spaced_sum step f (m ∷ L) = spaced_same from_plus to_plus (spaced_plus (f m) (spaced_sum step f L))

  pub kind_sum : ((m k : ℕ) → Shadow number i (AtMask m) k → k < 3) → (L : List ℕ) → (Kind (Shadow number i (AtSum L)) → ⊥) → ⊥
  kind_sum small [] f = f (inl (origin_spaced 2))
  kind_sum small (m ∷ L) f = kind_of_three (small m) (λ p. kind_sum small L (λ q. kind_plus p q (λ k. f (kind_same from_plus to_plus k))))

pub shadow_same : {number : ℕ → ℕ → ℕ} {i : ℕ} {X Y : Cells} → Same X Y → (k : ℕ) → Shadow number i X k → Shadow number i Y k
shadow_same {number} {i} e k s = record { x = s.x; y = s.y; top = top_same i e s.top; at = s.at }

-- ---- masks
-- in direction i two cells of a mask with the same value, the second in a later row, are the direction's one step apart
abbrev Apart : ℕ → Type 0
Apart i = (x y u v : ℕ) → x < 3 → u < 3 → v < 3 → ahead i x y + behind i u v ≡ ahead i u v + behind i x y → y < v
    → (only_of i ≡ 0) ⊎ (v ≡ y + only_of i)

either : (i : ℕ) → only_of i ≡ 0 → Apart i
either i z x y u v p q r e l = inl z

apart : (i : ℕ) → i < 16 → Apart i
unfolding plus_x plus_y minus_x minus_y only_of
apart =
    let a0 = below_more Apart 0 (λ k l. absurd (omega arith)) (either 0 refl) in
    let a1 = below_more Apart 1 a0 (λ x y u v p q r e l. inr (omega arith)) in
    let a2 = below_more Apart 2 a1 (either 2 refl) in
    let a3 = below_more Apart 3 a2 (λ x y u v p q r e l. inr (omega arith)) in
    let a4 = below_more Apart 4 a3 (either 4 refl) in
    let a5 = below_more Apart 5 a4 (λ x y u v p q r e l. inr (omega arith)) in
    let a6 = below_more Apart 6 a5 (either 6 refl) in
    let a7 = below_more Apart 7 a6 (λ x y u v p q r e l. inr (omega arith)) in
    let a8 = below_more Apart 8 a7 (either 8 refl) in
    let a9 = below_more Apart 9 a8 (λ x y u v p q r e l. inr (omega arith)) in
    let a10 = below_more Apart 10 a9 (either 10 refl) in
    let a11 = below_more Apart 11 a10 (λ x y u v p q r e l. inr (omega arith)) in
    let a12 = below_more Apart 12 a11 (either 12 refl) in
    let a13 = below_more Apart 13 a12 (λ x y u v p q r e l. inr (omega arith)) in
    let a14 = below_more Apart 14 a13 (either 14 refl) in
    below_more Apart 15 a14 (λ x y u v p q r e l. inr (omega arith))

only_small : (i : ℕ) → i < 16 → only_of i ≤ 2
unfolding only_of
only_small i l = leb→le (only_of i) 2 (each_below (λ i. leb (only_of i) 2) 16 tt i l)

-- in a direction with one step only, so are two rows of a mask's face
mask_spaced : (i : ℕ) → i < 16 → (only_of i ≡ 0 → ⊥) → (m : ℕ) → Spaced (only_of i) (Shadow row i (AtMask m))
mask_spaced i l n m = record {
  next = λ a b p q k.
      let c = p.top.cell in
      let d = q.top.cell in
      let y : p.y < q.y = omega (arith, p.at, q.at) in
      let w = apart i l p.x p.y q.x q.y c.column d.column d.row (top_once i same_refl p.top q.top) y in
      let e = ⊎_elim (λ z. absurd (n z)) (λ v. v) w in
      record { x = q.x; y = q.y; top = q.top; at = omega (arith, p.at) };
}

-- ---- sums of masks
kind_fair : {S : ℕ → Type 0} (only : ℕ) → only ≡ 0 → Kind S → Fair only S
kind_fair only z = ⊎_elim (λ s. inr (λ e. omega arith, s)) (λ s. inl (λ e. omega arith, s.1))

step_fair : {S : ℕ → Type 0} (only : ℕ) → 1 ≤ only → only ≤ 2 → Spaced only S → Fair only S
step_fair {S} only p q s = ⊎_elim
    (λ w. let e : only ≡ 1 = omega arith in inl (λ z. omega arith, subst (λ (k : ℕ). Spaced k S) e s))
    (λ w. let e : only ≡ 2 = omega arith in inr (λ z. omega arith, subst (λ (k : ℕ). Spaced k S) e s))
    (lt_or_le only 2)

fair_rows : (L : List ℕ) (i : ℕ) → i < 16 → (Fair (only_of i) (Shadow row i (AtSum L)) → ⊥) → ⊥
fair_rows L i l f = ⊎_elim
    (λ w. kind_sum row (λ x y u v. refl) i (λ m k s. omega (arith, s.top.cell.row, s.at)) L (λ k. f (kind_fair (only_of i) (omega arith) k)))
    (λ w. f (step_fair (only_of i) w (only_small i l) (spaced_sum row (λ x y u v. refl) i (only_of i) (mask_spaced i l (λ z. omega arith)) L)))
    (lt_or_le (only_of i) 1)

fair_columns : (L : List ℕ) (i : ℕ) → (Fair 0 (Shadow column i (AtSum L)) → ⊥) → ⊥
fair_columns L i f = kind_sum column (λ x y u v. refl) i (λ m k s. omega (arith, s.top.cell.column, s.at)) L (λ k. f (kind_fair 0 refl k))

pub fair_same : {S T : ℕ → Type 0} {only : ℕ} → ((k : ℕ) → S k → T k) → ((k : ℕ) → T k → S k) → Fair only S → Fair only T
fair_same f g = ⊎_elim (λ s. inl (s.0, spaced_same f g s.1)) (λ s. inr (s.0, spaced_same f g s.1))

-- cells with a face that no sum of masks can have are no such sum
module _ (X : Cells) where
  moved : (L : List ℕ) → Same X (AtSum L) → {number : ℕ → ℕ → ℕ} {only i : ℕ}
      → Fair only (Shadow number i (AtSum L)) → Fair only (Shadow number i X)
  moved L e = fair_same (λ k. shadow_same (same_sym e) k) (λ k. shadow_same e k)

  pub no_rows : (i : ℕ) → i < 16 → (Fair (only_of i) (Shadow row i X) → ⊥) → NeverSum X
  no_rows i l f = record { no = λ L e. fair_rows L i l (λ s. f (moved L e s)) }

  pub no_columns : (i : ℕ) → (Fair 0 (Shadow column i X) → ⊥) → NeverSum X
  no_columns i f = record { no = λ L e. fair_columns L i (λ s. f (moved L e s)) }
