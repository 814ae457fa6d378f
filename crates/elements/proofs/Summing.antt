-- Two shapes summed: the cells add up in the window, and so do the places, of which 15 is taken once. Cells that would leave the window lie more than 15
-- from the sum of the first cells, and places that add up to less than 15 are below −15.
use mathlib.Core.Path.{◌≡◌, refl, sym, ◌∙◌, ap, ap₂, subst}
use mathlib.Core.Bool.{true, not}
use mathlib.Core.List.{List}
use Prim.Native.Nat.{ℕ, suc, ◌+◌, ◌-◌, ◌≤◌, ◌<◌, zero-le}
use native.Mathlib.Omega.{arith}
use lib.Dec.{T, lt→ltb}
use lib.IntN.{ℤ, pos, neg_ℤ, ◌+ℤ◌, +ℤ_idr}
use Rattle.plane.specs.Extent.{x_of, y_of}
use Rattle.plane.specs.Lists.{In}
use Rattle.plane.specs.Point.{Point, point, ◌+ᵖ◌, ◌≐◌}
use Rattle.plane.proofs.Algebra.{≐_trans, ≐_sym, ⊕_cong}
use Rattle.plane.proofs.Integer.{+ℤ_swap, diff_lt}
use Rattle.plane.proofs.Tests.{clash}
use Rattle.masks.specs.Chain.{sums}
use Rattle.masks.proofs.Sum.{sums_is}
use Rattle.rows.specs.Cells.{Sum, At, Points}
use Rattle.extents.specs.Extents.{Greatest, SomeCell, row, column}
use Rattle.rows.specs.Leaves.{SumOf}
use Rattle.rows.proofs.Bridge.{points_sum, points_same}
use Rattle.rows.proofs.Sums.{Rows16}
use Rattle.shapes.specs.Shape.{out_of_range, too_far}
use Rattle.shapes.proofs.Range.{range_same}
use Rattle.elements.specs.declared.Shape.{Shape}
use Rattle.elements.specs.Standing.{points_of, place, Sound, no_shape, Made, Within}
use Rattle.elements.proofs.Ranges.{coordinate, range_flat}
use Rattle.elements.proofs.Stands.{points_of_lem, cells_sound, sound_within, some}
use Rattle.elements.proofs.Joining.{cell_in, cell_at}
use Rattle.elements.proofs.Made.{made_in, made_far}

-- ---- two coordinates

abbrev fifteen : ℤ
fifteen = neg_ℤ (pos 15)

pub two_add : (m n k : ℕ) → m + n ≡ k + 15 → coordinate m +ℤ coordinate n ≡ coordinate k
two_add m n k e =
    +ℤ_swap (pos m) fifteen (pos n) fifteen ∙ ap (λ z. pos z +ℤ (fifteen +ℤ fifteen)) e ∙ +ℤ_swap (pos k) (pos 15) fifteen fifteen ∙ +ℤ_idr (coordinate k)

two_far : (m n : ℕ) → m + n < 15 → T (too_far (coordinate m +ℤ coordinate n))
two_far m n l =
    subst (λ z. T (too_far z)) (sym (+ℤ_swap (pos m) fifteen (pos n) fifteen ∙ diff_lt (m + n) 30 (omega arith)))
    (lt→ltb 15 (suc (30 - suc (m + n))) (omega arith))

module _ (a b : Shape) (wa : Rows16 a.rows) (wb : Rows16 b.rows) (SA : Sound a) (SB : Sound b) where
  abbrev A : List Point
  A = sums (points_of a) (points_of b)

  -- the sum of two cells' points
  abbrev both : ℕ → ℕ → ℕ → ℕ → Point
  both u v m n = (point (u, v) +ᵖ place a) +ᵖ (point (m, n) +ᵖ place b)

  both_in : (u v m n : ℕ) → At a.rows u v → At b.rows m n → In A (both u v m n)
  both_in u v m n c d = (sums_is (points_of a) (points_of b) (both u v m n)).1
      (point (u, v) +ᵖ place a, point (m, n) +ᵖ place b, cell_in a wa u v c, cell_in b wb m n d, refl)

  both_at : (u v m n : ℕ)
      → (x_of (both u v m n) ≡ coordinate (u + a.x) +ℤ coordinate (m + b.x)) × (y_of (both u v m n) ≡ coordinate (v + a.y) +ℤ coordinate (n + b.y))
  unfolding ◌+ᵖ◌
  both_at u v m n =
      let p = cell_at a wa u v in
      let q = cell_at b wb m n in
      (ap₂ (λ s t. s +ℤ t) p.0 q.0, ap₂ (λ s t. s +ℤ t) p.1 q.1)

  -- in range, the places add up to 15 or more
  pub not_low_x : a.x + b.x < 15 → T (not (out_of_range A)) → ⊥
  not_low_x l t =
      let p = SA.left in
      let q = SB.left in
      let e = p.at in
      let f = q.at in
      let g = (range_flat A t).0.near (both p.x p.y q.x q.y) (both_in p.x p.y q.x q.y p.cell q.cell) in
      clash (too_far (x_of (both p.x p.y q.x q.y))) g
      (subst (λ z. T (too_far z)) (sym (both_at p.x p.y q.x q.y).0) (two_far (p.x + a.x) (q.x + b.x) (omega arith)))

  pub not_low_y : a.y + b.y < 15 → T (not (out_of_range A)) → ⊥
  not_low_y l t =
      let p = SA.top in
      let q = SB.top in
      let e = p.at in
      let f = q.at in
      let g = (range_flat A t).1.near (both p.x p.y q.x q.y) (both_in p.x p.y q.x q.y p.cell q.cell) in
      clash (too_far (y_of (both p.x p.y q.x q.y))) g
      (subst (λ z. T (too_far z)) (sym (both_at p.x p.y q.x q.y).1) (two_far (p.y + a.y) (q.y + b.y) (omega arith)))

  module _ (hx : 15 ≤ a.x + b.x) (hy : 15 ≤ a.y + b.y) (c r : ℕ) (C : Greatest column (At b.rows) c) (R : Greatest row (At b.rows) r) where
    abbrev x : ℕ
    x = a.x + b.x - 15

    abbrev y : ℕ
    y = a.y + b.y - 15

    -- in range, the sums of cells stay in the window
    pub fits_in : T (not (out_of_range A)) → Within (At a.rows) c r 15
    fits_in t = record {
      all = λ u v h.
          let f = range_flat A t in
          let p = SA.left in
          let q = SB.left in
          let p' = SA.top in
          let q' = SB.top in
          let e = p.at in
          let g = q.at in
          let e' = p'.at in
          let g' = q'.at in
          let k = C.at in
          let l = R.at in
          let ux = (both_at u v C.x C.y).0 ∙ two_add (u + a.x) (C.x + b.x) (u + c + x) (omega arith) in
          let lx = (both_at p.x p.y q.x q.y).0 ∙ two_add (p.x + a.x) (q.x + b.x) x (omega arith) in
          let uy = (both_at u v R.x R.y).1 ∙ two_add (v + a.y) (R.y + b.y) (v + r + y) (omega arith) in
          let ly = (both_at p'.x p'.y q'.x q'.y).1 ∙ two_add (p'.y + a.y) (q'.y + b.y) y (omega arith) in
          let m = f.0.apart (both u v C.x C.y) (both p.x p.y q.x q.y) (u + c + x) x (both_in u v C.x C.y h C.cell)
          (both_in p.x p.y q.x q.y p.cell q.cell) ux lx in
          let n = f.1.apart (both u v R.x R.y) (both p'.x p'.y q'.x q'.y) (v + r + y) y (both_in u v R.x R.y h R.cell)
          (both_in p'.x p'.y q'.x q'.y p'.cell q'.cell) uy ly in
          (omega arith, omega arith);
    }

    module _ (rows : List ℕ) (wr : Rows16 rows) (S : SumOf a.rows b.rows rows) (W : Within (At a.rows) c r 15) where
      abbrev next : Shape
      next = record { fits = true; x = x; y = y; rows = rows }

      -- no sum is cut
      whole : (u v : ℕ) → Sum (At a.rows) (At b.rows) u v → At rows u v
      whole u v s =
          let i = W.all s.x1 s.y1 s.left in
          let j = C.all s.x2 s.y2 s.right in
          let k = R.all s.x2 s.y2 s.right in
          let e = s.at_x in
          let f = s.at_y in
          S.from u v s (omega arith) (omega arith)

      place_is : place a +ᵖ place b ≡ place next
      unfolding ◌+ᵖ◌
      place_is = λ i. (two_add a.x b.x x (omega arith) i, two_add a.y b.y y (omega arith) i)

      points_next : In (points_of next) ≐ In A
      points_next =
          let same = points_same (At rows) (Sum (At a.rows) (At b.rows)) (place a +ᵖ place b) (record { to = S.to; from = whole }) in
          let cells = subst (λ d. In (points_of next) ≐ Points (At rows) d) (sym place_is) (points_of_lem next wr) in
          ≐_trans cells (≐_trans same (≐_trans (points_sum (At a.rows) (At b.rows) (place a) (place b))
          (≐_trans (⊕_cong (≐_sym (points_of_lem a wa)) (≐_sym (points_of_lem b wb))) (≐_sym (sums_is (points_of a) (points_of b))))))

      -- the sum of two cells of the rows
      add : (u v m n : ℕ) → At a.rows u v → At b.rows m n → At rows (u + m) (v + n)
      add u v m n p q = whole (u + m) (v + n) (record { x1 = u; y1 = v; x2 = m; y2 = n; left = p; right = q; at_x = refl; at_y = refl })

      next_sound : T (not (out_of_range (points_of next))) → Sound next
      next_sound t =
          let p = SA.left in
          let q = SB.left in
          let p' = SA.top in
          let q' = SB.top in
          let e = p.at in
          let f = q.at in
          let e' = p'.at in
          let f' = q'.at in
          record {
            fits = refl;
            left =
                record {
                  x = p.x + q.x;
                  y = p.y + q.y;
                  cell = add p.x p.y q.x q.y p.cell q.cell;
                  at = omega arith;
                  all = λ u v h. zero-le;
                };
            top =
                record {
                  x = p'.x + q'.x;
                  y = p'.y + q'.y;
                  cell = add p'.x p'.y q'.x q'.y p'.cell q'.cell;
                  at = omega arith;
                  all = λ u v h. zero-le;
                };
            range = t;
          }

      -- with the place in range it is the new shape
      pub summed_near : Within (At rows) x y 30 → Made (Sound a × Sound b) A next
      summed_near N = made_in (Sound a × Sound b) A next (SA, SB) points_next (next_sound (cells_sound next wr N.all))

      -- and without it there is none
      pub summed_far : (s : Shape) → (SomeCell (At rows) → Within (At rows) x y 30 → ⊥) → s ≡ no_shape → Made (Sound a × Sound b) A s
      summed_far s f e = made_far (Sound a × Sound b) A s out e
        where
          out : T (not (out_of_range A)) → ⊥
          out t =
              let N = next_sound (subst (λ b. T (not b)) (sym (range_same (points_of next) A points_next)) t) in
              f (some N.top) (sound_within next wr N)
