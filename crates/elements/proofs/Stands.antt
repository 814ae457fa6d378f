-- The points of a shape are its cells, moved; whether it is sound is seen from its cells.
use mathlib.Core.Path.{◌≡◌, refl, sym, ap, subst}
use mathlib.Core.Logic.{◌↔◌}
use mathlib.Core.Bool.{Bool, true, not}
use mathlib.Core.List.{List, map}
use Prim.Native.Nat.{ℕ, ◌+◌, ◌≤◌}
use native.Mathlib.Omega.{arith}
use lib.Dec.{T, eqb, eqb→eq}
use lib.ListN.{get_or}
use Rattle.plane.specs.Lists.{In, bits, up_to}
use Rattle.plane.specs.Point.{Point, Cell, point, ◌+ᵖ◌, ◌≐◌}
use Rattle.plane.proofs.Member.{In-map, In-flat, In-keep, In-up_to}
use Rattle.plane.proofs.Tests.{eq-eqb}
use Rattle.rows.specs.Cells.{At, Points, bit, Cells}
use Rattle.rows.proofs.Sums.{Rows16, in_x, in_y}
use Rattle.shapes.specs.Shape.{out_of_range}
use Rattle.elements.specs.declared.Shape.{Shape}
use Rattle.elements.specs.Standing.{cells_of, points_of, place, Sound, Within}
use Rattle.elements.proofs.Ranges.{cells_range, range_cells}
use Rattle.extents.specs.Extents.{SomeCell, Least, row, column}

-- the cells of rows
pub cells_at : (rows : List ℕ) → Rows16 rows → (x y : ℕ) → In (cells_of rows) (x, y) ↔ At rows x y
unfolding cells_of
cells_at rows w x y = (
  λ h. let r = (In-flat line (up_to 16) c).0 h in
      let s = (In-map (λ k. (k, r.0)) (bits 16 (get_or rows r.0 0)) c).0 r.2 in
      let t = (In-keep (set r.0) (up_to 16) s.0).0 s.1 in
      let ex : x ≡ s.0 = ap (λ c. c.0) s.2 in
      let ey : y ≡ r.0 = ap (λ c. c.1) s.2 in
      subst (λ (k : ℕ). At rows k y) (sym ex) (subst (λ (k : ℕ). At rows s.0 k) (sym ey) (eqb→eq (bit (get_or rows r.0 0) s.0) 1 t.1)),
  λ h. let in_row = (In-keep (set y) (up_to 16) x).1 (In-up_to 16 x (in_x rows w x y h), eq-eqb h) in
      (In-flat line (up_to 16) c).1 (y, In-up_to 16 y (in_y rows w x y h), (In-map (λ k. (k, y)) (bits 16 (get_or rows y 0)) c).1 (x, in_row, refl)),
)
  where
    c : Cell
    c = (x, y)

    line : ℕ → List Cell
    line y = map (λ x. (x, y)) (bits 16 (get_or rows y 0))

    set : ℕ → ℕ → Bool
    set y k = eqb (bit (get_or rows y 0) k) 1

-- cells moved by d, as a list and as a set
pub list_moved : (rows : List ℕ) (d : Point) → Rows16 rows → In (map (λ c. point c +ᵖ d) (cells_of rows)) ≐ Points (At rows) d
list_moved rows d w p = (
  λ h. let r = (In-map (λ c. point c +ᵖ d) (cells_of rows) p).0 h in
      record { x = r.0.0; y = r.0.1; cell = (cells_at rows w r.0.0 r.0.1).0 r.1; at = sym r.2 },
  λ h. (In-map (λ c. point c +ᵖ d) (cells_of rows) p).1 ((h.x, h.y), (cells_at rows w h.x h.y).1 h.cell, sym h.at),
)

pub points_of_lem : (s : Shape) → Rows16 s.rows → In (points_of s) ≐ Points (At s.rows) (place s)
unfolding points_of
points_of_lem s w = list_moved s.rows (place s) w

-- a cell of a shape is to 15, and to 30 with the shape's place added
pub sound_cell : (s : Shape) → Rows16 s.rows → Sound s → (x y : ℕ) → At s.rows x y → (x ≤ 15) × (y ≤ 15) × (x + s.x ≤ 30) × (y + s.y ≤ 30)
sound_cell s w S x y c =
    let r = range_cells (points_of s) (At s.rows) s.x s.y (points_of_lem s w) S.range x y c in
    let p = in_x s.rows w x y c in
    let q = in_y s.rows w x y c in
    (omega arith, omega arith, r.0, r.1)

-- cells that are to 30 with the place added are in range
pub cells_sound : (s : Shape) → Rows16 s.rows → ((x y : ℕ) → At s.rows x y → (x + s.x ≤ 30) × (y + s.y ≤ 30)) → T (not (out_of_range (points_of s)))
cells_sound s w f = cells_range (points_of s) (At s.rows) s.x s.y (points_of_lem s w) (λ x y c.
    let p = in_x s.rows w x y c in
    let q = in_y s.rows w x y c in
    let r = f x y c in
    (omega arith, omega arith, r.0, r.1))

-- a shape has a cell
pub some : {number : ℕ → ℕ → ℕ} {X : Cells} {n : ℕ} → Least number X n → SomeCell X
some l = record { x = l.x; y = l.y; cell = l.cell }

-- a value is a shape by what its cells show
pub is_sound : (s : Shape) → Rows16 s.rows → s.fits ≡ true → Least row (At s.rows) 0 → Least column (At s.rows) 0 → Within (At s.rows) s.x s.y 30 → Sound s
is_sound s w f r c h = record { fits = f; left = c; top = r; range = cells_sound s w h.all }

pub sound_within : (s : Shape) → Rows16 s.rows → Sound s → Within (At s.rows) s.x s.y 30
sound_within s w S = record { all = λ x y c. let b = sound_cell s w S x y c in (b.2, b.3) }
