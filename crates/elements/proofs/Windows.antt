-- A shape in the window of a list: from the cells and the anchor to the value, by moving the cells to both axes; and back, by moving them to where the least
-- anchor puts them.
use mathlib.Core.Path.{◌≡◌, refl, sym, ◌∙◌, ap, subst}
use mathlib.Core.Logic.{⊎_elim}
use mathlib.Core.Bool.{true}
use mathlib.Core.List.{List, map}
use Prim.Native.Nat.{ℕ, ◌+◌, ◌-◌, ◌<◌, zero-le}
use native.Mathlib.Omega.{arith}
use lib.IntN.{ℤ, pos, ◌+ℤ◌, +ℤ_idl, +ℤ_comm}
use Rattle.plane.specs.Extent.{x_of, y_of, least, corner}
use Rattle.plane.specs.Lists.{In}
use Rattle.plane.specs.Point.{Point, point, ◌+ᵖ◌, ◌≐◌, Cell}
use Rattle.plane.proofs.Algebra.{≐_trans, ≐_sym}
use Rattle.plane.proofs.Extents.{least_at}
use Rattle.plane.proofs.Integer.{diff_ge, diff_lt, ≤ℤ_to}
use Rattle.plane.proofs.Member.{In-map}
use Rattle.plane.proofs.Tests.{lt_or_le}
use Rattle.rows.specs.Cells.{Same, At, Points}
use Rattle.rows.specs.Leaves.{Lowered}
use Rattle.extents.specs.Extents.{Least, row, column}
use Rattle.rows.proofs.Sums.{Rows16, in_x, in_y}
use Rattle.shapes.specs.Listed.{below, least_anchor}
use Rattle.elements.specs.declared.Shape.{Shape}
use Rattle.elements.specs.declared.Window.{Window}
use Rattle.elements.specs.Standing.{points_of, window_points, place, Sound, Made, Anchored, InWindow, Within}
use Rattle.elements.proofs.Ranges.{coordinate}
use Rattle.elements.proofs.Stands.{points_of_lem, sound_cell, cells_sound}
use Rattle.elements.proofs.Places.{at, raised_points, lowered_points, window_points_lem}
use Rattle.elements.proofs.Made.{made_in}

-- ---- from the window

module _ (w : Window) (W : Rows16 w.rows) (G : Anchored w) (i j : ℕ) (I : Least column (At w.rows) i) (J : Least row (At w.rows) j)
    (r : List ℕ) (wr : Rows16 r) (L : Same (At r) (Lowered (At w.rows) i j)) where
  abbrev A : List Point
  A = window_points w.rows (w.ax, w.ay)

  abbrev from : Shape
  from = record { fits = true; x = i + 15 - w.ax; y = j + 15 - w.ay; rows = r }

  points_from : In (points_of from) ≐ In A
  points_from =
      let ex : i + (15 - w.ax) ≡ i + 15 - w.ax = let h = G.in_x in omega arith in
      let ey : j + (15 - w.ay) ≡ j + 15 - w.ay = let h = G.in_y in omega arith in
      let low = lowered_points (At w.rows) (At r) i j (15 - w.ax) (15 - w.ay) L.to L.from (λ x y c. (I.all x y c, J.all x y c)) in
      let here = subst (λ (d : Point). In (points_of from) ≐ Points (At r) d) (λ t. (coordinate (sym ex t), coordinate (sym ey t))) (points_of_lem from wr) in
      ≐_trans here (≐_trans low (≐_sym (window_points_lem w.rows (w.ax, w.ay) W G.in_x G.in_y)))

  -- a cell of the window, moved to both axes
  down : (x y : ℕ) → At w.rows x y → At r (x - i) (y - j)
  down x y c =
      let p = I.all x y c in
      let q = J.all x y c in
      let e : x - i + i ≡ x = omega arith in
      let f : y - j + j ≡ y = omega arith in
      L.from (x - i) (y - j) (subst (λ (v : ℕ). At w.rows (x - i + i) v) (sym f) (subst (λ (u : ℕ). At w.rows u y) (sym e) c))

  from_sound : Sound from
  from_sound = record {
    fits = refl;
    left = let e = I.at in record { x = I.x - i; y = I.y - j; cell = down I.x I.y I.cell; at = omega arith; all = λ u v c. zero-le };
    top = let e = J.at in record { x = J.x - i; y = J.y - j; cell = down J.x J.y J.cell; at = omega arith; all = λ u v c. zero-le };
    range = cells_sound from wr (λ u v c.
        let h = L.to u v c in
        let p = in_x w.rows W (u + i) (v + j) h in
        let q = in_y w.rows W (u + i) (v + j) h in
        (omega arith, omega arith));
  }

  pub from_made : Made (Anchored w) A from
  from_made = made_in (Anchored w) A from G points_from from_sound

-- the first column is in the window
pub least_x : (rows : List ℕ) (i : ℕ) → Rows16 rows → Least column (At rows) i → i < 16
least_x rows i w I = subst (λ (n : ℕ). n < 16) I.at (in_x rows w I.x I.y I.cell)

-- ---- into the window

below_at : (x : ℕ) → below (coordinate x) ≡ 15 - x
below_at x = ⊎_elim
    (λ l. ap below (diff_lt x 15 l) ∙ omega arith)
    (λ l. ap below (diff_ge x 15 l) ∙ omega arith)
    (lt_or_le x 15)

module _ (s : Shape) (w : Rows16 s.rows) (S : Sound s) where
  -- the least x and the least y are those of the place
  pub corner_is : corner (points_of s) ≡ place s
  unfolding ◌+ᵖ◌
  corner_is = λ t. (
    one x_of s.x (λ p h. let c = (points_of_lem s w p).0 h in (c.x, ap x_of (sym c.at))) start_x.0 start_x.1 start_x.2 t,
    one y_of s.y (λ p h. let c = (points_of_lem s w p).0 h in (c.y, ap y_of (sym c.at))) start_y.0 start_y.1 start_y.2 t,
  )
    where
      one : (axis : Point → ℤ) (k : ℕ) → ((p : Point) → In (points_of s) p → (n : ℕ) × (axis p ≡ pos n +ℤ coordinate k)) → (q : Point) → In (points_of s) q
          → axis q ≡ coordinate k
          → least (map axis (points_of s)) ≡ coordinate k
      one axis k f q h e =
          least_at (map axis (points_of s)) (coordinate k) ((In-map axis (points_of s) (coordinate k)).1 (q, h, sym e)) (λ z g.
          let r = (In-map axis (points_of s) z).0 g in
          let c = f r.0 r.1 in
          ≤ℤ_to (coordinate k) z c.0 (r.2 ∙ c.1 ∙ +ℤ_comm (pos c.0) (coordinate k)))

      start_x : (q : Point) × In (points_of s) q × (x_of q ≡ coordinate s.x)
      start_x =
          let l = S.left in
          let q = point (l.x, l.y) +ᵖ place s in (
            q,
            (points_of_lem s w q).1 (record { x = l.x; y = l.y; cell = l.cell; at = refl }),
            ap (λ n. pos n +ℤ coordinate s.x) l.at
                ∙ +ℤ_idl (coordinate s.x),
          )

      start_y : (q : Point) × In (points_of s) q × (y_of q ≡ coordinate s.y)
      start_y =
          let l = S.top in
          let q = point (l.x, l.y) +ᵖ place s in (
            q,
            (points_of_lem s w q).1 (record { x = l.x; y = l.y; cell = l.cell; at = refl }),
            ap (λ n. pos n +ℤ coordinate s.y) l.at
                ∙ +ℤ_idl (coordinate s.y),
          )

  anchor_is : (15 - s.x, 15 - s.y) ≡ least_anchor (points_of s)
  unfolding least_anchor
  anchor_is = (λ t. (sym (below_at s.x) t, sym (below_at s.y) t)) ∙ ap (λ c. (below c.0, below c.1)) (sym corner_is)

  -- the window has the least anchor, and stands for the shape's points
  pub into_window : (r : Window) → Rows16 r.rows → InWindow s r
      → ((r.ax, r.ay) ≡ least_anchor (points_of s)) × (In (window_points r.rows (r.ax, r.ay)) ≐ In (points_of s))
  into_window r wr I = (anchor_at ∙ anchor_is, subst (λ (a : Cell). In (window_points r.rows a) ≐ In (points_of s)) (sym anchor_at) points_are)
    where
      anchor_at : ◌≡◌ {A = Cell} (r.ax, r.ay) (15 - s.x, 15 - s.y)
      anchor_at = λ t. (I.ax t, I.ay t)

      stays : Within (At s.rows) (s.x - 15) (s.y - 15) 15
      stays = record { all = λ u v c. let b = sound_cell s w S u v c in (omega arith, omega arith) }

      k : ℕ
      k = 15 - (15 - s.x)

      l : ℕ
      l = 15 - (15 - s.y)

      there : Points (At s.rows) (at (s.x - 15 + k) (s.y - 15 + l)) ≐ In (points_of s)
      there =
          let ex : s.x - 15 + k ≡ s.x = omega arith in
          let ey : s.y - 15 + l ≡ s.y = omega arith in
          subst (λ (d : Point). Points (At s.rows) d ≐ In (points_of s)) (λ t. (coordinate (sym ex t), coordinate (sym ey t))) (≐_sym (points_of_lem s w))

      points_are : In (window_points r.rows (15 - s.x, 15 - s.y)) ≐ In (points_of s)
      points_are =
          ≐_trans (window_points_lem r.rows (15 - s.x, 15 - s.y) wr (omega arith) (omega arith))
          (≐_trans (raised_points (At s.rows) (At r.rows) (s.x - 15) (s.y - 15) k l I.cells stays) there)
