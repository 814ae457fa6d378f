-- The sum of an accepted plan's stages, at its place, is the shape of its points: the sum starts at both axes, and with extents to 15 it stays in the window.
use mathlib.Core.Path.{◌≡◌, refl, sym, ◌∙◌, ap, subst}
use mathlib.Core.Bool.{true, not}
use mathlib.Core.List.{List}
use Prim.Native.Nat.{ℕ, ◌+◌, ◌≤◌, zero-le}
use native.Mathlib.Omega.{arith}
use lib.Dec.{T}
use lib.ListN.{get_or}
use Rattle.plane.specs.Lists.{In, all}
use Rattle.plane.specs.Point.{Cell, point, ◌+ᵖ◌, ◌-ᵖ◌, origin, ◌≐◌}
use Rattle.plane.proofs.Algebra.{≐_trans, ≐_sym, +ᵖ_cancel, subᵖ_cancel, +ᵖ_origin}
use Rattle.plane.proofs.Member.{In-map}
use Rattle.words.specs.Word.{place_x, place_y}
use Rattle.words.proofs.Refusals.{Clear}
use Rattle.masks.specs.Mask.{stage}
use Rattle.masks.proofs.Cells.{sum_cells, sum_cells_lem, sum_low}
use Rattle.rows.specs.Cells.{At, AtSum, Points}
use Rattle.rows.proofs.Bridge.{sum_points, points_cell, points_same}
use Rattle.rows.proofs.Sums.{Rows16}
use Rattle.shapes.specs.Shape.{out_of_range}
use Rattle.shapes.specs.Plan.{plan_masks, plan_points, plan_tests}
use Rattle.shapes.proofs.Range.{range_same}
use Rattle.shapes.proofs.Written.{plan_points_lem, plan_itself}
use Rattle.lists.specs.Held.{SumRows, held_masks, held_place}
use Rattle.lists.proofs.Held.{held_masks_lem, held_place_lem}
use Rattle.elements.specs.declared.Shape.{Shape}
use Rattle.elements.specs.Standing.{points_of, Sound}
use Rattle.elements.proofs.Ranges.{range_flat, coordinate_add}
use Rattle.elements.proofs.Places.{at}
use Rattle.elements.proofs.Stands.{points_of_lem}
use Rattle.shape_calls.specs.Steps.{StandsFor}

module _ (ws : List ℕ) (c : Clear (plan_tests ws)) where
  abbrev ms : List ℕ
  ms = plan_masks ws

  abbrev px : ℕ
  px = place_x (get_or ws 1 0)

  abbrev py : ℕ
  py = place_y (get_or ws 1 0)

  -- what the grounds say
  held : (held_masks ws ≡ ms) × (held_place ws ≡ (px, py)) × T (all stage ms) × T (not (out_of_range (plan_points ws)))
  unfolding plan_tests
  held =
      (held_masks_lem ws c.1.0, held_place_lem ws c.1.0, (plan_itself ws c.1.1.1.1.1.0).stages, c.1.1.1.1.1.1.0)

  -- the points of the plan are the cells of the sum, at its place
  plan_sum : In (plan_points ws) ≐ Points (AtSum ms) (at px py)
  plan_sum p = (
    λ h. let q = (sum_points ms (p -ᵖ at px py)).1 ((plan_points_lem ws p).0 h) in
        record { x = q.x; y = q.y; cell = q.cell; at = ap (λ z. z +ᵖ at px py) (sym (+ᵖ_origin (point (q.x, q.y))) ∙ q.at) ∙ subᵖ_cancel p (at px py) },
    λ h. let e : point (h.x, h.y) +ᵖ origin ≡ p -ᵖ at px py = +ᵖ_origin (point (h.x, h.y))
        ∙ sym (ap (λ z. z -ᵖ at px py) (sym h.at) ∙ +ᵖ_cancel (point (h.x, h.y)) (at px py)) in
        (plan_points_lem ws p).1 ((sum_points ms (p -ᵖ at px py)).0 (record { x = h.x; y = h.y; cell = h.cell; at = e })),
  )

  -- a cell of the sum, by its list
  sum_cell : (k : Cell) → In (sum_cells ms) k → AtSum ms k.0 k.1
  sum_cell k h =
      let e : point k +ᵖ origin ≡ point k = +ᵖ_origin (point k) in
      let i = subst (λ l. In l (point k)) (sym (sum_cells_lem ms)) ((In-map point (sum_cells ms) (point k)).1 (k, h, refl)) in
      (points_cell (AtSum ms) origin k.0 k.1).0 (subst (Points (AtSum ms) origin) (sym e) ((sum_points ms (point k)).1 i))

  cell_in : (x y : ℕ) → AtSum ms x y → In (plan_points ws) (point (x, y) +ᵖ at px py)
  cell_in x y k = (plan_sum (point (x, y) +ᵖ at px py)).1 (record { x = x; y = y; cell = k; at = refl })

  -- in range, it stays in the window
  inside : (x y : ℕ) → AtSum ms x y → (x ≤ 15) × (y ≤ 15)
  unfolding ◌+ᵖ◌
  inside x y k =
      let L = sum_low ms held.2 in
      let f = range_flat (plan_points ws) held.3 in
      let p = cell_in x y k in
      let u = L.x in
      let v = L.y in
      let eu = L.x_zero in
      let ev = L.y_zero in
      let m = f.0.apart (point (x, y) +ᵖ at px py) (point u +ᵖ at px py) (x + px) (u.0 + px) p (cell_in u.0 u.1 (sum_cell u L.x_in))
      (coordinate_add x px) (coordinate_add u.0 px) in
      let n = f.1.apart (point (x, y) +ᵖ at px py) (point v +ᵖ at px py) (y + py) (v.1 + py) p (cell_in v.0 v.1 (sum_cell v L.y_in))
      (coordinate_add y py) (coordinate_add v.1 py) in
      (omega arith, omega arith)

  module _ (r : List ℕ) (w : Rows16 r) (R : SumRows (held_masks ws) r) where
    abbrev shape : Shape
    shape = record { fits = true; x = px; y = py; rows = r }

    rows_are : SumRows ms r
    rows_are = subst (λ l. SumRows l r) held.0 R

    whole : (x y : ℕ) → AtSum ms x y → At r x y
    whole x y k = let b = inside x y k in rows_are.from x y k (omega arith) (omega arith)

    points_shape : In (points_of shape) ≐ In (plan_points ws)
    points_shape =
        ≐_trans (points_of_lem shape w) (≐_trans (points_same (At r) (AtSum ms) (at px py) (record { to = rows_are.to; from = whole })) (≐_sym plan_sum))

    shape_sound : Sound shape
    shape_sound =
        let L = sum_low ms held.2 in
        let u = L.x in
        let v = L.y in
        record {
          fits = refl;
          left = record { x = u.0; y = u.1; cell = whole u.0 u.1 (sum_cell u L.x_in); at = L.x_zero; all = λ x y h. zero-le };
          top = record { x = v.0; y = v.1; cell = whole v.0 v.1 (sum_cell v L.y_in); at = L.y_zero; all = λ x y h. zero-le };
          range = subst (λ b. T (not b)) (sym (range_same (points_of shape) (plan_points ws) points_shape)) held.3;
        }

    pub plan_read : (x y : ℕ) → x ≡ (held_place ws).0 → y ≡ (held_place ws).1 → StandsFor (plan_points ws) (record { fits = true; x = x; y = y; rows = r })
    plan_read x y ex ey =
        let e = held.1 in
        let fx : px ≡ x = sym (ex ∙ ap (λ k. k.0) e) in
        let fy : py ≡ y = sym (ey ∙ ap (λ k. k.1) e) in
        subst (λ (n : ℕ). StandsFor (plan_points ws) (record { fits = true; x = n; y = y; rows = r })) fx
        (subst (λ (n : ℕ). StandsFor (plan_points ws) (record { fits = true; x = px; y = n; rows = r })) fy
        (record { sound = shape_sound; points = points_shape }))
