-- Cells that are moved in the window, and a place that is moved back by as much, stand for the same points. The cells of a window less its anchor a are
-- those cells at the place 15 − a.
use mathlib.Core.Path.{◌≡◌, refl, sym, ◌∙◌, ap, subst}
use mathlib.Core.List.{List}
use Prim.Native.Nat.{ℕ, zero, suc, ◌+◌, ◌-◌, ◌≤◌}
use native.Mathlib.Omega.{arith}
use lib.IntN.{pos, neg_ℤ, ◌+ℤ◌, negsuc}
use Rattle.plane.specs.Lists.{In}
use Rattle.plane.specs.Point.{Point, Cell, point, ◌+ᵖ◌, negᵖ, ◌≐◌}
use Rattle.plane.proofs.Integer.{diff_lt}
use Rattle.rows.specs.Cells.{Cells, At, Points}
use Rattle.rows.specs.Leaves.{Raised}
use Rattle.rows.proofs.Sums.{Rows16}
use Rattle.elements.specs.Standing.{window_points, Within}
use Rattle.elements.proofs.Ranges.{coordinate, coordinate_add}
use Rattle.elements.proofs.Stands.{list_moved}

-- the place of which k and l are the biased coordinates
abbrev pub at : ℕ → ℕ → Point
at k l = (coordinate k, coordinate l)

-- a cell at a place, by the sums of its numbers and the place's
pub same_point : (x y k l u v m n : ℕ) → x + k ≡ u + m → y + l ≡ v + n → point (x, y) +ᵖ at k l ≡ point (u, v) +ᵖ at m n
unfolding ◌+ᵖ◌
same_point x y k l u v m n p q = λ i. (one x k u m p i, one y l v n q i)
  where
    one : (x k u m : ℕ) → x + k ≡ u + m → pos x +ℤ coordinate k ≡ pos u +ℤ coordinate m
    one x k u m e = coordinate_add x k ∙ ap coordinate e ∙ sym (coordinate_add u m)

pub raised_points : (X Y : Cells) (i j k l : ℕ) → Raised X i j Y → Within X i j 15 → Points Y (at k l) ≐ Points X (at (i + k) (j + l))
raised_points X Y i j k l r w p = (
  λ h. let c = r.to h.x h.y h.cell in
      let e = c.at_x in
      let f = c.at_y in
      record {
        x = c.x1;
        y = c.y1;
        cell = c.was;
        at = sym (same_point h.x h.y k l c.x1 c.y1 (i + k) (j + l) (omega arith) (omega arith)) ∙ h.at;
      },
  λ h. let b = w.all h.x h.y h.cell in
      record {
        x = h.x + i;
        y = h.y + j;
        cell = r.from h.x h.y h.cell (omega arith) (omega arith);
        at = same_point (h.x + i) (h.y + j) k l h.x h.y (i + k) (j + l) (omega arith) (omega arith) ∙ h.at;
      },
)

pub lowered_points : (X Y : Cells) (i j k l : ℕ) → ((x y : ℕ) → Y x y → X (x + i) (y + j)) → ((x y : ℕ) → X (x + i) (y + j) → Y x y)
    → ((x y : ℕ) → X x y → (i ≤ x) × (j ≤ y)) → Points Y (at (i + k) (j + l)) ≐ Points X (at k l)
lowered_points X Y i j k l to from low p = (
  λ h. record {
    x = h.x + i;
    y = h.y + j;
    cell = to h.x h.y h.cell;
    at = same_point (h.x + i) (h.y + j) k l h.x h.y (i + k) (j + l) (omega arith) (omega arith) ∙ h.at;
  },
  λ h. let b = low h.x h.y h.cell in
      let e : h.x - i + i ≡ h.x = omega arith in
      let f : h.y - j + j ≡ h.y = omega arith in
      record {
        x = h.x - i;
        y = h.y - j;
        cell = from (h.x - i) (h.y - j) (subst (λ (v : ℕ). X (h.x - i + i) v) (sym f) (subst (λ (u : ℕ). X u h.y) (sym e) h.cell));
        at = same_point (h.x - i) (h.y - j) (i + k) (j + l) h.x h.y k l (omega arith) (omega arith) ∙ h.at;
      },
)

-- less an anchor is at a place
neg_at : (a : ℕ) → a ≤ 15 → neg_ℤ (pos a) ≡ coordinate (15 - a)
neg_at zero h = refl
neg_at (suc a) h = ap negsuc (omega arith) ∙ sym (diff_lt (15 - suc a) 15 (omega arith))

pub window_points_lem : (rows : List ℕ) (a : Cell) → Rows16 rows → a.0 ≤ 15 → a.1 ≤ 15 → In (window_points rows a) ≐ Points (At rows) (at (15 - a.0) (15 - a.1))
unfolding window_points negᵖ
window_points_lem rows a w p q =
    subst (λ d. In (window_points rows a) ≐ Points (At rows) d) (λ i. (neg_at a.0 p i, neg_at a.1 q i)) (list_moved rows (negᵖ (point a)) w)
