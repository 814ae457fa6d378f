-- Cells on the plane: the points of a sum of cells are the sum of their points, a residue of cells is a difference of their points, and the cells of a
-- mask and of a sum of masks are the points that the masks stand for.
use mathlib.Core.Path.{◌≡◌, refl, sym, ◌∙◌, ap, subst}
use mathlib.Core.Logic.{◌↔◌, ◌⊎◌, inl, inr}
use mathlib.Core.Bool.{Bool}
use mathlib.Core.List.{List, [], ◌∷◌, map}
use Prim.Native.Nat.{ℕ, ◌+◌, ◌*◌, ◌/◌, ◌%◌, ◌<◌}
use native.Mathlib.Omega.{arith}
use lib.Dec.{eqb, eqb→eq}
use lib.IntN.{nat_abs}
use Rattle.plane.specs.Lists.{In, bits, up_to}
use Rattle.plane.specs.Point.{Point, Cell, point, ◌+ᵖ◌, ◌-ᵖ◌, origin, ◌≐◌, ◌⊕◌, ◌⊖◌}
use Rattle.plane.proofs.Algebra.{+ᵖ_cancel, +ᵖ_assoc, +ᵖ_left, +ᵖ_origin, ≐_trans, ≐_sym, ⊕_cong}
use Rattle.plane.proofs.Member.{In-map, In-keep, In-up_to, up_to_In}
use Rattle.plane.proofs.Tests.{eq-eqb}
use Rattle.masks.specs.Chain.{sum_of}
use Rattle.masks.specs.Mask.{mask_cells, Mask}
use Rattle.masks.proofs.Sum.{sum_cons}
use Rattle.rows.specs.Cells.{Cells, Same, Sum, Residue, bit, AtMask, AtOrigin, AtSum, Points}

-- ---- cells and points are one

-- a cell's points, moved alike, are one only for one cell
pub point_once : (x y u v : ℕ) (d : Point) → point (x, y) +ᵖ d ≡ point (u, v) +ᵖ d → (x ≡ u) × (y ≡ v)
point_once x y u v d e =
    let q : point (x, y) ≡ point (u, v) = sym (+ᵖ_cancel (point (x, y)) d) ∙ ap (λ p. p -ᵖ d) e ∙ +ᵖ_cancel (point (u, v)) d in
    (ap (λ p. nat_abs p.0) q, ap (λ p. nat_abs p.1) q)

pub points_cell : (X : Cells) (d : Point) (x y : ℕ) → Points X d (point (x, y) +ᵖ d) ↔ X x y
points_cell X d x y = (
  λ h. let e = point_once h.x h.y x y d h.at in subst (λ v. X x v) e.1 (subst (λ u. X u h.y) e.0 h.cell),
  λ c. record { x = x; y = y; cell = c; at = refl },
)

pub points_same : (X Y : Cells) (d : Point) → Same X Y → Points X d ≐ Points Y d
points_same X Y d s p = (
  λ h. record { x = h.x; y = h.y; cell = s.to h.x h.y h.cell; at = h.at },
  λ h. record { x = h.x; y = h.y; cell = s.from h.x h.y h.cell; at = h.at },
)

pub same_points : (X Y : Cells) (d : Point) → Points X d ≐ Points Y d → Same X Y
same_points X Y d e = record {
  to = λ x y h. (points_cell Y d x y).0 ((e (point (x, y) +ᵖ d)).0 ((points_cell X d x y).1 h));
  from = λ x y h. (points_cell X d x y).0 ((e (point (x, y) +ᵖ d)).1 ((points_cell Y d x y).1 h));
}

-- ---- sums

point_add : (x y u v : ℕ) → point (x, y) +ᵖ point (u, v) ≡ point (x + u, y + v)
unfolding ◌+ᵖ◌
point_add x y u v = refl

-- two moved cells add up to a moved cell
add_moved : (x y u v : ℕ) (d e : Point) → (point (x, y) +ᵖ d) +ᵖ (point (u, v) +ᵖ e) ≡ point (x + u, y + v) +ᵖ (d +ᵖ e)
add_moved x y u v d e =
    +ᵖ_assoc (point (x, y)) d (point (u, v) +ᵖ e) ∙ ap (λ p. point (x, y) +ᵖ p) (+ᵖ_left d (point (u, v)) e)
    ∙ sym (+ᵖ_assoc (point (x, y)) (point (u, v)) (d +ᵖ e)) ∙ ap (λ p. p +ᵖ (d +ᵖ e)) (point_add x y u v)

pub points_sum : (X Y : Cells) (d e : Point) → Points (Sum X Y) (d +ᵖ e) ≐ Points X d ⊕ Points Y e
points_sum X Y d e p = (
  λ h. let s = h.cell in (
    point (s.x1, s.y1) +ᵖ d,
    point (s.x2, s.y2) +ᵖ e,
    record { x = s.x1; y = s.y1; cell = s.left; at = refl },
    record { x = s.x2; y = s.y2; cell = s.right; at = refl },
    add_moved s.x1 s.y1 s.x2 s.y2 d e ∙ (λ i. point (s.at_x i, s.at_y i) +ᵖ (d +ᵖ e)) ∙ h.at,
  ),
  λ h. let a = h.2 in
      let b = h.3 in
      record {
        x = a.x + b.x;
        y = a.y + b.y;
        cell = record { x1 = a.x; y1 = a.y; x2 = b.x; y2 = b.y; left = a.cell; right = b.cell; at_x = refl; at_y = refl };
        at = sym (add_moved a.x a.y b.x b.y d e) ∙ (λ i. a.at i +ᵖ b.at i) ∙ h.4;
      },
)

-- ---- residues

-- a cell moved on the plane by d, and a cell of a mask that stands at the origin, add up in the window
step : (x y i j : ℕ) (d : Point) → (point (x, y) +ᵖ d) +ᵖ (point (i, j) +ᵖ origin) ≡ point (x + i, y + j) +ᵖ d
step x y i j d = add_moved x y i j d origin ∙ ap (λ z. point (x + i, y + j) +ᵖ z) (+ᵖ_origin d)

pub points_residue : (X Y : Cells) (d : Point) (x y : ℕ) → Residue X Y x y ↔ (Points X d ⊖ Points Y origin) (point (x, y) +ᵖ d)
points_residue X Y d x y = (
  λ r q h. record {
    x = x + h.x;
    y = y + h.y;
    cell = r.all h.x h.y h.cell;
    at = sym (step x y h.x h.y d) ∙ ap (λ z. point (x, y) +ᵖ d +ᵖ z) h.at;
  },
  λ h. record {
    all = λ i j c.
        let k : Points Y origin (point (i, j) +ᵖ origin) = record { x = i; y = j; cell = c; at = refl } in
        (points_cell X d (x + i) (y + j)).0 (subst (Points X d) (step x y i j d) (h (point (i, j) +ᵖ origin) k));
  },
)

-- ---- masks

pub mask_cells_lem : (m i j : ℕ) → AtMask m i j ↔ In (mask_cells m) (i, j)
unfolding mask_cells
mask_cells_lem m i j = (
  λ c. let p = c.column in
      let q = c.row in
      let x : (3 * j + i) % 3 ≡ i = omega arith in
      let y : (3 * j + i) / 3 ≡ j = omega arith in
      let l : 3 * j + i < 9 = omega arith in
      (In-map place (bits 9 m) (i, j)).1 (3 * j + i, (In-keep set (up_to 9) (3 * j + i)).1 (In-up_to 9 (3 * j + i) l, eq-eqb c.set), λ t. (sym x t, sym y t)),
  λ h. let r = (In-map place (bits 9 m) (i, j)).0 h in
      let k = r.0 in
      let s = (In-keep set (up_to 9) k).0 r.1 in
      let l = up_to_In 9 k s.0 in
      let x : i ≡ k % 3 = ap (λ c. c.0) r.2 in
      let y : j ≡ k / 3 = ap (λ c. c.1) r.2 in
      let e : k ≡ 3 * j + i = omega arith in
      record { column = omega arith; row = omega arith; set = subst (λ n. bit m n ≡ 1) e (eqb→eq (bit m k) 1 s.1) },
)
  where
    place : ℕ → Cell
    place k = (k % 3, k / 3)

    set : ℕ → Bool
    set k = eqb (bit m k) 1

-- a list of cells as points
pub list_points : (X : Cells) (cs : List Cell) → ((x y : ℕ) → X x y ↔ In cs (x, y)) → Points X origin ≐ In (map point cs)
list_points X cs f p = (
  λ h. (In-map point cs p).1 ((h.x, h.y), (f h.x h.y).0 h.cell, sym h.at ∙ +ᵖ_origin (point (h.x, h.y))),
  λ h. let r = (In-map point cs p).0 h in
      record { x = r.0.0; y = r.0.1; cell = (f r.0.0 r.0.1).1 r.1; at = +ᵖ_origin (point r.0) ∙ sym r.2 },
)

pub mask_points_lem : (m : ℕ) → Points (AtMask m) origin ≐ Mask m
mask_points_lem m = list_points (AtMask m) (mask_cells m) (mask_cells_lem m)

-- the cells of a sum of masks are its points
pub sum_points : (ms : List ℕ) → Points (AtSum ms) origin ≐ In (sum_of ms)
unfolding sum_of
sum_points [] = list_points AtOrigin ((0, 0) ∷ []) (λ x y. (λ o. inl (λ i. (o.at_x i, o.at_y i)), only_one x y))
  where
    only_one : (x y : ℕ) → (◌≡◌ {A = Cell} (x, y) (0, 0)) ⊎ ⊥ → AtOrigin x y
    only_one x y (inl e) = record { at_x = ap (λ c. c.0) e; at_y = ap (λ c. c.1) e }
    only_one x y (inr f) = absurd f
sum_points (m ∷ ms) =
    let X = AtMask m in
    let Y = AtSum ms in
    let s = subst (λ o. Points (Sum X Y) o ≐ Points X origin ⊕ Points Y origin) (+ᵖ_origin origin) (points_sum X Y origin origin) in
    ≐_trans s (≐_trans (⊕_cong (mask_points_lem m) (sum_points ms)) (≐_sym (sum_cons m ms)))
