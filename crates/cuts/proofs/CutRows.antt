-- What a cut reads, row by row: a row of the source and the cells beside it; the rows above and below the source; and all rows, one after the other.
use mathlib.Core.Path.{◌≡◌, sym, ap, ap₂, ◌∙◌, subst}
use mathlib.Core.Logic.{⊎_elim}
use mathlib.Core.List.{List}
use Prim.Native.Nat.{ℕ, suc, ◌+◌, ◌-◌, ◌*◌, ◌<◌, ◌≤◌, zero-le}
use native.Mathlib.Nat.{add-mul, mul_comm, mul-le-mul_right, le_trans, le_of_lt, lt_of_lt_of_le}
use native.Mathlib.Omega.{arith}
use lib.IntN.{ℤ, pos, neg_ℤ, ◌-ℤ◌, +ℤ_assoc}
use lib.ListN.{length, get_or}
use borrow.Rule.Slice.PartMut.{mid_of, put_mid}
use borrow.Author.Tests.{lt-ltb, le-ltb, le-leb, lt-leb}
use Rattle.plane.specs.Point.{◌+ᵖ◌}
use Rattle.plane.proofs.Integer.{diff_ge, diff_lt}
use Rattle.plane.proofs.Tests.{lt_or_le}
use Rattle.grids.specs.Image.{value_at, view}
use Rattle.ranges.specs.Ranges.{Ranged, Laid, over_front}
use Rattle.ranges.proofs.Ranges.{ranged_ap, ranged_join, ranged_part}
use Rattle.ranges.proofs.FlatRows.{rows_apart}
use Rattle.ranges.proofs.Whole.{laid_is}
use Rattle.ranges.proofs.Values.{value_in, value_right, value_under, value_left, value_above}
use Rattle.cuts.specs.Cuts.{cut_out, Edge, shifted, seen}

-- ---- a row of cells, and the cells beside it. What gives the cells may be any: the bytes of a row, or one bit of each.

module _ (v n : ℕ) (c : ℕ → ℕ) (s : ℕ) where
  shifted_left : s < 15 → shifted v n c s ≡ v
  unfolding shifted
  shifted_left h = rw (lt-leb 15 s h)

  shifted_right : n + 15 ≤ s → shifted v n c s ≡ v
  unfolding shifted
  shifted_right h = rw (le-leb 15 s (omega arith), le-ltb (s - 15) n (omega arith))

  shifted_in : 15 ≤ s → s < n + 15 → shifted v n c s ≡ c (s - 15)
  unfolding shifted
  shifted_in h k = rw (le-leb 15 s h, lt-ltb (s - 15) n (omega arith))

-- the cells on either side of an edge
module _ {n a m e : ℕ} (q : Edge n a m e) where
  edge_before : (k : ℕ) → k < e → k + a < m
  edge_before k l = let u = q.last (omega arith) in omega arith

  pub edge_after : (k : ℕ) → e ≤ k → k < n → m ≤ k + a
  edge_after k l u = ⊎_elim (λ (h : e < n). let v = q.next h in omega arith) (λ (h : n ≤ e). absurd (omega arith)) (lt_or_le e n)

-- where two edges leave cells between them, the first of these is in the row, and so is the last
pub between : {n a m p e : ℕ} → Edge n a 15 p → Edge n a m e → p < e → (15 ≤ p + a) × (e + a ≤ m)
between hp he l = (let u = he.all in hp.next (omega arith), he.last (omega arith))

-- the cell of the part, and that of the row
part_index : (p a k : ℕ) → 15 ≤ p + a → p ≤ k → p + a - 15 + (k - p) ≡ k + a - 15
part_index p a k lo l = omega arith

module _ (v m : ℕ) (c : ℕ → ℕ) {n a p e : ℕ} (hp : Edge n a 15 p) (he : Edge n a (m + 15) e) where
  -- a row of cells: v up to p, the row's cells up to e, and v to the end
  pub line_is : {d d₁ d₂ d₃ : List ℕ} → p < e
      → Ranged 0 0 p (λ _. v) d d₁ → Ranged 0 p e (λ k. c (p + a - 15 + (k - p))) d₁ d₂ → Ranged 0 e n (λ _. v) d₂ d₃
      → Ranged 0 0 n (λ x. shifted v m c (x + a)) d d₃
  line_is l r₁ r₂ r₃ =
      ranged_join
      (ranged_join
      (ranged_ap r₁ (λ k lo hi. sym (shifted_left v m c (k + a) (edge_before hp k hi))))
      (ranged_ap r₂ (λ k lo hi.
      ap c (part_index p a k (between hp he l).0 lo)
      ∙ sym (shifted_in v m c (k + a) (edge_after hp k lo (lt_of_lt_of_le hi he.all)) (edge_before he k hi))))
      zero-le (le_of_lt l))
      (ranged_ap r₃ (λ k lo hi. sym (shifted_right v m c (k + a) (edge_after he k lo hi))))
      zero-le he.all

  -- where the edges leave nothing between them, no cell of the row is seen
  pub none_seen : (k : ℕ) → e ≤ p → k < n → shifted v m c (k + a) ≡ v
  none_seen k l u = ⊎_elim
      (λ (h : k < p). shifted_left v m c (k + a) (edge_before hp k h))
      (λ (h : p ≤ k). shifted_right v m c (k + a) (edge_after he k (le_trans l h) u))
      (lt_or_le k p)

-- the row, from what was written to the three parts of d. The second comes from where it is known to fit.
pub three_runs : (v m a : ℕ) (c : ℕ → ℕ) (d : List ℕ) {p e : ℕ} {y₁ d₂ y₃ : List ℕ} → Edge (length d) a 15 p → Edge (length d) a (m + 15) e → p < e
    → Ranged 0 0 (length (mid_of 0 (p - 0) d)) (λ _. v) (mid_of 0 (p - 0) d) y₁
    → (p ≤ e → e ≤ length (put_mid 0 (p - 0) d y₁) → e - p ≤ m - (p + a - 15) → Ranged 0 p e (λ k. c (p + a - 15 + (k - p))) (put_mid 0 (p - 0) d y₁) d₂)
    → Ranged 0 0 (length (mid_of e (length d - e) d₂)) (λ _. v) (mid_of e (length d - e) d₂) y₃
    → Ranged 0 0 (length d) (λ x. shifted v m c (x + a)) d (put_mid e (length d - e) d₂ y₃)
three_runs v m a c d {p} {e} hp he l f₁ f₂ f₃ =
    let s = between hp he l in
    let r₁ = ranged_part {a = 0} {e = p} {xs = d} zero-le hp.all f₁ in
    let r₂ = f₂ (le_of_lt l) (omega (arith, r₁.len, he.all)) (omega (arith, s.0, s.1)) in
    let r₃ = ranged_part {a = e} {e = length d} he.all (omega (arith, r₁.len, r₂.len)) f₃ in
    line_is v m c hp he l r₁ r₂ r₃

-- ---- the source, and the cells outside it

module _ (v C R : ℕ) (g : List ℕ) (s t : ℕ) where
  seen_left : s < 15 → seen v C R g s t ≡ v
  unfolding seen
  seen_left h = ap (λ (i : ℤ). value_at v C R g i (pos t -ℤ pos 15)) (diff_lt s 15 h) ∙ value_left v g C R (15 - suc s) (pos t -ℤ pos 15)

  right_of : 15 ≤ s → seen v C R g s t ≡ value_at v C R g (pos (s - 15)) (pos t -ℤ pos 15)
  unfolding seen
  right_of h = ap (λ (i : ℤ). value_at v C R g i (pos t -ℤ pos 15)) (diff_ge s 15 h)

  below_of : 15 ≤ s → 15 ≤ t → seen v C R g s t ≡ value_at v C R g (pos (s - 15)) (pos (t - 15))
  below_of h k = right_of h ∙ ap (λ (j : ℤ). value_at v C R g (pos (s - 15)) j) (diff_ge t 15 k)

  pub seen_above : t < 15 → seen v C R g s t ≡ v
  seen_above k = ⊎_elim
      (λ (h : s < 15). seen_left h)
      (λ (h : 15 ≤ s). right_of h ∙ ap (λ (j : ℤ). value_at v C R g (pos (s - 15)) j) (diff_lt t 15 k) ∙ value_above v g C R (s - 15) (15 - suc t))
      (lt_or_le s 15)

  pub seen_under : 15 ≤ t → R ≤ t - 15 → seen v C R g s t ≡ v
  seen_under k l = ⊎_elim
      (λ (h : s < 15). seen_left h)
      (λ (h : 15 ≤ s). below_of h k ∙ ⊎_elim
      (λ (i : s - 15 < C). value_under v g C R (s - 15) (t - 15) i l)
      (λ (i : C ≤ s - 15). value_right v g C R (s - 15) (t - 15) i)
      (lt_or_le (s - 15) C))
      (lt_or_le s 15)

  -- a row whose cells are the source's at its height is what is seen there
  pub seen_line : (c : ℕ → ℕ) → C * R ≤ length g → 15 ≤ t → t - 15 < R → ((i : ℕ) → i < C → c i ≡ get_or g ((t - 15) * C + i) 0)
      → shifted v C c s ≡ seen v C R g s t
  seen_line c fits k l same = ⊎_elim
      (λ (h : s < 15). shifted_left v C c s h ∙ sym (seen_left h))
      (λ (h : 15 ≤ s). ⊎_elim
      (λ (i : s - 15 < C). shifted_in v C c s h (omega arith) ∙ same (s - 15) i ∙ sym (below_of h k ∙ value_in v g C R fits (s - 15) (t - 15) i l))
      (λ (i : C ≤ s - 15). shifted_right v C c s (omega arith) ∙ sym (below_of h k ∙ value_right v g C R (s - 15) (t - 15) i))
      (lt_or_le (s - 15) C))
      (lt_or_le s 15)

-- ---- all rows

module _ {F : ℕ → ℕ → ℕ} {w : ℕ} where
  -- one row more, where its place is known by an equation
  pub laid_more : {r p : ℕ} {d d' d'' : List ℕ} → p ≡ r * w → Laid F w r d d' → Ranged 0 p (p + w) (λ k. F (k - p) r) d' d'' → Laid F w (r + 1) d d''
  laid_more {r} {p} {d} {d'} {d''} e t s = record {
    len = s.len ∙ t.len;
    at = λ x y lx ly. ⊎_elim
        (λ (u : y < r). let a = rows_apart w y r u in s.below (y * w + x) (omega arith) ∙ t.at x y lx u)
        (λ (u : r ≤ y).
        let q : y ≡ r = omega arith in
        let i : r * w + x - p ≡ x = omega arith in
        subst (λ (n : ℕ). get_or d'' (n * w + x) 0 ≡ F x n) (sym q) (s.at (r * w + x) (omega arith) (omega arith) ∙ ap (λ (n : ℕ). F n r) i))
        (lt_or_le y r);
    past = λ k l. let a = add-mul r 1 w in s.above k (omega (arith, mul_comm w (r + 1))) ∙ t.past k (omega (arith, mul_comm w (r + 1), mul_comm w r));
  }

  -- the rows from r on, where v is what each has
  pub laid_rest : {v r h p e : ℕ} {d d' d'' : List ℕ} → r ≤ h → p ≡ r * w → e ≡ h * w → Laid F w r d d' → Ranged 0 p e (λ _. v) d' d''
      → ((x y : ℕ) → r ≤ y → y < h → F x y ≡ v) → Laid F w h d d''
  laid_rest {v} {r} {h} {p} {e} {d} {d'} {d''} le ep ee t s f = record {
    len = s.len ∙ t.len;
    at = λ x y lx ly. ⊎_elim
        (λ (u : y < r). let a = rows_apart w y r u in s.below (y * w + x) (omega arith) ∙ t.at x y lx u)
        (λ (u : r ≤ y).
        let a = rows_apart w y h ly in
        let b = mul-le-mul_right {m = r} {n = y} w u in
        s.at (y * w + x) (omega arith) (omega arith) ∙ sym (f x y u ly))
        (lt_or_le y r);
    past = λ k l. let b = mul-le-mul_right {m = r} {n = h} w le in
        s.above k (omega (arith, mul_comm w h)) ∙ t.past k (omega (arith, mul_comm w h, mul_comm w r));
  }

-- and as a list
pub cut_is : (v w h C R a b : ℕ) (g : List ℕ) {d d' : List ℕ} → w * h ≤ length d → Laid (λ x y. seen v C R g (x + a) (y + b)) w h d d'
    → d' ≡ over_front (w * h) (cut_out v w h C R a b g) d
unfolding cut_out seen ◌+ᵖ◌
cut_is v w h C R a b g room t =
    laid_is w h (λ p. view v C R g (p +ᵖ (pos a -ℤ pos 15, pos b -ℤ pos 15)))
    (λ x y lx ly. ap₂ (value_at v C R g) (+ℤ_assoc (pos x) (pos a) (neg_ℤ (pos 15))) (+ℤ_assoc (pos y) (pos b) (neg_ℤ (pos 15))))
    room t
