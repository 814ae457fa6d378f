-- A shape moved by d: its cells stay, and its place is moved; where that is too far from 0 the cell in column 0, or in row 0, is out of range.
use mathlib.Core.Path.{◌≡◌, refl, sym, ◌∙◌, ap, subst}
use mathlib.Core.Bool.{true, not}
use mathlib.Core.List.{List, map}
use Prim.Native.Nat.{ℕ}
use native.Mathlib.Omega.{arith}
use lib.Dec.{T, not_T}
use lib.IntN.{pos, ◌+ℤ◌, ◌-ℤ◌, neg_ℤ, +ℤ_idl, +ℤ_assoc, +ℤ_comm, ℤ}
use Rattle.plane.specs.Lists.{In}
use Rattle.plane.specs.Point.{Point, point, ◌+ᵖ◌, ◌≐◌}
use Rattle.plane.proofs.Algebra.{+ᵖ_assoc, ≐_trans, ≐_sym}
use Rattle.plane.proofs.Member.{In-map}
use Rattle.rows.specs.Cells.{At, Points}
use Rattle.rows.proofs.Sums.{Rows16}
use Rattle.shapes.specs.Shape.{out_of_range, too_far}
use Rattle.elements.specs.declared.Shape.{Shape}
use Rattle.elements.specs.Standing.{points_of, place, Sound, no_shape, Made, Along, Within}
use Rattle.elements.proofs.Ranges.{coordinate, range_flat}
use Rattle.elements.proofs.Stands.{points_of_lem, sound_cell, cells_sound, sound_within}
use Rattle.elements.proofs.Made.{made_in, made_far}
use Rattle.shapes.proofs.Range.{range_same}

-- the point is moved as its biased coordinate is
moved_at : (x : ℕ) (d z : ℤ) → pos x +ℤ d ≡ z → coordinate x +ℤ d ≡ z -ℤ pos 15
moved_at x d z e =
    +ℤ_assoc (pos x) (neg_ℤ (pos 15)) d ∙ ap (λ w. pos x +ℤ w) (+ℤ_comm (neg_ℤ (pos 15)) d) ∙ sym (+ℤ_assoc (pos x) d (neg_ℤ (pos 15)))
    ∙ ap (λ w. w -ℤ pos 15) e

module _ (s : Shape) (w : Rows16 s.rows) (S : Sound s) (d : Point) (vx vy : ℕ) (X : Along s.x d.0 vx) (Y : Along s.y d.1 vy) where
  abbrev A : List Point
  A = map (λ p. p +ᵖ d) (points_of s)

  abbrev next : Shape
  next = record { fits = true; x = vx; y = vy; rows = s.rows }

  moved_cells : In A ≐ Points (At s.rows) (place s +ᵖ d)
  moved_cells p = (
    λ h. let r = (In-map (λ q. q +ᵖ d) (points_of s) p).0 h in
        let c = (points_of_lem s w r.0).0 r.1 in
        record { x = c.x; y = c.y; cell = c.cell; at = sym (+ᵖ_assoc (point (c.x, c.y)) (place s) d) ∙ ap (λ q. q +ᵖ d) c.at ∙ sym r.2 },
    λ h. let q = point (h.x, h.y) +ᵖ place s in
        let k = (points_of_lem s w q).1 (record { x = h.x; y = h.y; cell = h.cell; at = refl }) in
        (In-map (λ q. q +ᵖ d) (points_of s) p).1 (q, k, sym h.at ∙ sym (+ᵖ_assoc (point (h.x, h.y)) (place s) d)),
  )

  -- a cell's point, moved
  moved_in : (x y : ℕ) → At s.rows x y → In A (point (x, y) +ᵖ (place s +ᵖ d))
  moved_in x y c = (moved_cells (point (x, y) +ᵖ (place s +ᵖ d))).1 (record { x = x; y = y; cell = c; at = refl })

  -- in range, neither coordinate of the place is too far
  not_far : T (not (out_of_range A)) → T (not (too_far (coordinate s.x +ℤ d.0))) × T (not (too_far (coordinate s.y +ℤ d.1)))
  unfolding ◌+ᵖ◌
  not_far t =
      let r = range_flat A t in
      let l = S.left in
      let u = S.top in (
        subst (λ z. T (not (too_far z))) (zero_at l.x (coordinate s.x +ℤ d.0) l.at)
            (r.0.near (point (l.x, l.y) +ᵖ (place s +ᵖ d)) (moved_in l.x l.y l.cell)),
        subst (λ z. T (not (too_far z))) (zero_at u.y (coordinate s.y +ℤ d.1) u.at)
            (r.1.near (point (u.x, u.y) +ᵖ (place s +ᵖ d)) (moved_in u.x u.y u.cell)),
      )
    where
      zero_at : (n : ℕ) (z : ℤ) → n ≡ 0 → pos n +ℤ z ≡ z
      zero_at n z e = ap (λ k. pos k +ℤ z) e ∙ +ℤ_idl z

  -- then the place is the moved one
  place_at : T (not (too_far (coordinate s.x +ℤ d.0))) → T (not (too_far (coordinate s.y +ℤ d.1))) → place s +ᵖ d ≡ place next
  unfolding ◌+ᵖ◌
  place_at p q = λ i. (moved_at s.x d.0 (pos vx) (sym (X.near p)) i, moved_at s.y d.1 (pos vy) (sym (Y.near q)) i)

  points_next : T (not (too_far (coordinate s.x +ℤ d.0))) → T (not (too_far (coordinate s.y +ℤ d.1))) → In (points_of next) ≐ In A
  points_next p q =
      ≐_trans (points_of_lem next w) (subst (λ e. Points (At s.rows) e ≐ In A) (place_at p q) (≐_sym moved_cells))

  -- a place of 31 is out of range
  placed_far : Sound next → (vx ≡ 31 → ⊥) × (vy ≡ 31 → ⊥)
  placed_far N =
      let l = S.left in
      let u = S.top in
      let a = sound_cell next w N l.x l.y l.cell in
      let b = sound_cell next w N u.x u.y u.cell in
      (λ e. omega arith, λ e. omega arith)

  low : T (not (out_of_range A)) → (In (points_of next) ≐ In A) × Sound next
  low t =
      let n = not_far t in
      let e = points_next n.0 n.1 in
      (e, record { fits = refl; left = S.left; top = S.top; range = subst (λ b. T (not b)) (sym (range_same (points_of next) A e)) t })

  -- with the moved place in range it is the new shape
  pub moved_near : Within (At s.rows) vx vy 30 → Made (Sound s) A next
  moved_near W =
      let N : Sound next = record { fits = refl; left = S.left; top = S.top; range = cells_sound next w W.all } in
      let f = placed_far N in
      let p = not_T (too_far (coordinate s.x +ℤ d.0)) (λ t. f.0 (X.far t)) in
      let q = not_T (too_far (coordinate s.y +ℤ d.1)) (λ t. f.1 (Y.far t)) in
      made_in (Sound s) A next S (points_next p q) N

  -- and without it there is none
  pub moved_far : (r : Shape) → (Within (At s.rows) vx vy 30 → ⊥) → r ≡ no_shape → Made (Sound s) A r
  moved_far r f e = made_far (Sound s) A r (λ t. f (sound_within next w (low t).1)) e
