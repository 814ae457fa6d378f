-- Two shapes joined: both are moved in the window so that their places become the lesser of both. Cells that would leave the window lie more than 15 from
-- a cell at the lesser place.
use mathlib.Core.Path.{◌≡◌, refl, sym, ◌∙◌, ap, subst}
use mathlib.Core.Logic.{◌⊎◌, inl, inr, ⊎_elim}
use mathlib.Core.Bool.{true, not}
use mathlib.Core.List.{List, ◌++◌}
use Prim.Native.Nat.{ℕ, ◌+◌, ◌-◌, ◌≤◌, min, zero-le}
use native.Mathlib.Omega.{arith}
use lib.Dec.{T}
use Rattle.plane.specs.Extent.{x_of, y_of}
use Rattle.plane.specs.Lists.{In}
use Rattle.plane.specs.Point.{Point, point, ◌+ᵖ◌, ◌≐◌}
use Rattle.plane.proofs.Member.{In-append}
use Rattle.rows.specs.Cells.{Same, At, Points}
use Rattle.rows.specs.Leaves.{Either, Raised}
use Rattle.extents.specs.Extents.{Least, column, row}
use Rattle.rows.proofs.Sums.{Rows16}
use Rattle.shapes.specs.Shape.{out_of_range}
use Rattle.elements.specs.declared.Shape.{Shape}
use Rattle.elements.specs.Standing.{points_of, place, Sound, Within, Made}
use Rattle.elements.proofs.Ranges.{coordinate, coordinate_add, range_flat}
use Rattle.elements.proofs.Stands.{points_of_lem, sound_cell, cells_sound}
use Rattle.elements.proofs.Places.{at, raised_points}
use Rattle.plane.proofs.Algebra.{≐_trans, ≐_sym}
use Rattle.plane.proofs.Tests.{lt_or_le}
use Rattle.elements.proofs.Made.{made_in}

-- a cell's point in a shape, and its coordinates
module _ (s : Shape) (w : Rows16 s.rows) where
  pub cell_in : (x y : ℕ) → At s.rows x y → In (points_of s) (point (x, y) +ᵖ place s)
  cell_in x y c = (points_of_lem s w (point (x, y) +ᵖ place s)).1 (record { x = x; y = y; cell = c; at = refl })

  pub cell_at : (x y : ℕ) → (x_of (point (x, y) +ᵖ place s) ≡ coordinate (x + s.x)) × (y_of (point (x, y) +ᵖ place s) ≡ coordinate (y + s.y))
  unfolding ◌+ᵖ◌
  cell_at x y = (coordinate_add x s.x, coordinate_add y s.y)

module _ (a b : Shape) (wa : Rows16 a.rows) (wb : Rows16 b.rows) (SA : Sound a) (SB : Sound b) (x y : ℕ) (ex : x ≡ min a.x b.x)
    (ey : y ≡ min a.y b.y) where
  abbrev A : List Point
  A = points_of a ++ points_of b

  left_in : (p : Point) → In (points_of a) p → In A p
  left_in p h = (In-append (points_of a) (points_of b) p).1 (inl h)

  right_in : (p : Point) → In (points_of b) p → In A p
  right_in p h = (In-append (points_of a) (points_of b) p).1 (inr h)

  -- a point of A at the lesser place, in each coordinate
  start : (s : Shape) (w : Rows16 s.rows) → Sound s → ((p : Point) → In (points_of s) p → In A p)
      → (x ≡ s.x → (q : Point) × In A q × (x_of q ≡ coordinate x)) × (y ≡ s.y → (q : Point) × In A q × (y_of q ≡ coordinate y))
  start s w S sub = (
    λ e. let l = S.left in
        let z = l.at in
        let n : l.x + s.x ≡ x = omega arith in
        (point (l.x, l.y) +ᵖ place s, sub _ (cell_in s w l.x l.y l.cell), (cell_at s w l.x l.y).0 ∙ ap coordinate n),
    λ e. let l = S.top in
        let z = l.at in
        let n : l.y + s.y ≡ y = omega arith in
        (point (l.x, l.y) +ᵖ place s, sub _ (cell_in s w l.x l.y l.cell), (cell_at s w l.x l.y).1 ∙ ap coordinate n),
  )

  one_of : (k m n : ℕ) → k ≡ min m n → (k ≡ m) ⊎ (k ≡ n)
  one_of k m n e = ⊎_elim (λ h. inl (omega arith)) (λ h. inr (omega arith)) (lt_or_le m n)

  low_x : (q : Point) × In A q × (x_of q ≡ coordinate x)
  low_x = ⊎_elim (start a wa SA left_in).0 (start b wb SB right_in).0 (one_of x a.x b.x ex)

  low_y : (q : Point) × In A q × (y_of q ≡ coordinate y)
  low_y = ⊎_elim (start a wa SA left_in).1 (start b wb SB right_in).1 (one_of y a.y b.y ey)

  -- in range, every cell stays in the window
  stays : T (not (out_of_range A)) → (s : Shape) (w : Rows16 s.rows) → ((p : Point) → In (points_of s) p → In A p) → x ≤ s.x → y ≤ s.y
      → Within (At s.rows) (s.x - x) (s.y - y) 15
  stays t s w sub lx ly = record {
    all = λ u v c.
        let r = range_flat A t in
        let p = point (u, v) +ᵖ place s in
        let h = sub p (cell_in s w u v c) in
        let e = cell_at s w u v in
        let m = r.0.apart p low_x.0 (u + s.x) x h low_x.1 e.0 low_x.2 in
        let n = r.1.apart p low_y.0 (v + s.y) y h low_y.1 e.1 low_y.2 in
        (omega arith, omega arith);
  }

  pub stays_a : T (not (out_of_range A)) → Within (At a.rows) (a.x - x) (a.y - y) 15
  stays_a t = stays t a wa left_in (omega arith) (omega arith)

  pub stays_b : T (not (out_of_range A)) → Within (At b.rows) (b.x - x) (b.y - y) 15
  stays_b t = stays t b wb right_in (omega arith) (omega arith)

  module _ (ra rb r : List ℕ) (wr : Rows16 r) (Ra : Raised (At a.rows) (a.x - x) (a.y - y) (At ra))
      (RB : Raised (At b.rows) (b.x - x) (b.y - y) (At rb))
      (J : Same (At r) (Either (At ra) (At rb))) (IA : Within (At a.rows) (a.x - x) (a.y - y) 15)
      (IB : Within (At b.rows) (b.x - x) (b.y - y) 15) where
    abbrev next : Shape
    next = record { fits = true; x = x; y = y; rows = r }

    -- the points of one of the two, moved in the window
    part : (s : Shape) (w : Rows16 s.rows) (rs : List ℕ) → Raised (At s.rows) (s.x - x) (s.y - y) (At rs)
        → Within (At s.rows) (s.x - x) (s.y - y) 15
        → x ≤ s.x → y ≤ s.y → Points (At rs) (at x y) ≐ In (points_of s)
    part s w rs R I lx ly =
        let p = raised_points (At s.rows) (At rs) (s.x - x) (s.y - y) x y R I in
        let ex : s.x - x + x ≡ s.x = omega arith in
        let ey : s.y - y + y ≡ s.y = omega arith in
        ≐_trans p
        (subst (λ (d : Point). Points (At s.rows) d ≐ In (points_of s)) (λ i. (coordinate (sym ex i), coordinate (sym ey i))) (≐_sym (points_of_lem s w)))

    part_a : Points (At ra) (at x y) ≐ In (points_of a)
    part_a = part a wa ra Ra IA (omega arith) (omega arith)

    part_b : Points (At rb) (at x y) ≐ In (points_of b)
    part_b = part b wb rb RB IB (omega arith) (omega arith)

    points_next : In (points_of next) ≐ In A
    points_next p = (
      λ h. let c = (points_of_lem next wr p).0 h in
          ⊎_elim (λ u. left_in p ((part_a p).0 (record { x = c.x; y = c.y; cell = u; at = c.at })))
          (λ u. right_in p ((part_b p).0 (record { x = c.x; y = c.y; cell = u; at = c.at }))) (J.to c.x c.y c.cell),
      λ h. ⊎_elim
          (λ u. let c = (part_a p).1 u in (points_of_lem next wr p).1 (record { x = c.x; y = c.y; cell = J.from c.x c.y (inl c.cell); at = c.at }))
          (λ u. let c = (part_b p).1 u in (points_of_lem next wr p).1 (record { x = c.x; y = c.y; cell = J.from c.x c.y (inr c.cell); at = c.at }))
          ((In-append (points_of a) (points_of b) p).0 h),
    )

    -- a cell of one of the two, moved in the window, is one of both
    placed : (s : Shape) (rs : List ℕ) → Raised (At s.rows) (s.x - x) (s.y - y) (At rs) → Within (At s.rows) (s.x - x) (s.y - y) 15
        → ((u v : ℕ) → At rs u v → At r u v) → (u v : ℕ) → At s.rows u v → At r (u + (s.x - x)) (v + (s.y - y))
    placed s rs R I sub u v c = let b = I.all u v c in sub (u + (s.x - x)) (v + (s.y - y)) (R.from u v c (omega arith) (omega arith))

    in_a : (u v : ℕ) → At a.rows u v → At r (u + (a.x - x)) (v + (a.y - y))
    in_a = placed a ra Ra IA (λ u v c. J.from u v (inl c))

    in_b : (u v : ℕ) → At b.rows u v → At r (u + (b.x - x)) (v + (b.y - y))
    in_b = placed b rb RB IB (λ u v c. J.from u v (inr c))

    -- the shape at the lesser place has its first cell in the first column, or row
    first : (s : Shape) → Sound s → ((u v : ℕ) → At s.rows u v → At r (u + (s.x - x)) (v + (s.y - y)))
        → (x ≡ s.x → Least column (At r) 0) × (y ≡ s.y → Least row (At r) 0)
    first s S f = (
      λ e. let l = S.left in
          let z = l.at in
          record { x = l.x + (s.x - x); y = l.y + (s.y - y); cell = f l.x l.y l.cell; at = omega arith; all = λ u v c. zero-le },
      λ e. let l = S.top in
          let z = l.at in
          record { x = l.x + (s.x - x); y = l.y + (s.y - y); cell = f l.x l.y l.cell; at = omega arith; all = λ u v c. zero-le },
    )

    -- no cell is past 30 with the lesser place added: it was none in its own shape
    near : (u v : ℕ) → At r u v → (u + x ≤ 30) × (v + y ≤ 30)
    near u v c = ⊎_elim
        (λ h. let m = Ra.to u v h in
        let k = sound_cell a wa SA m.x1 m.y1 m.was in
        let p = m.at_x in
        let q = m.at_y in
        (omega arith, omega arith))
        (λ h. let m = RB.to u v h in
        let k = sound_cell b wb SB m.x1 m.y1 m.was in
        let p = m.at_x in
        let q = m.at_y in
        (omega arith, omega arith))
        (J.to u v c)

    next_sound : Sound next
    next_sound = record {
      fits = refl;
      left = ⊎_elim (first a SA in_a).0 (first b SB in_b).0 (one_of x a.x b.x ex);
      top = ⊎_elim (first a SA in_a).1 (first b SB in_b).1 (one_of y a.y b.y ey);
      range = cells_sound next wr near;
    }

    pub joined_made : Made (Sound a × Sound b) A next
    joined_made = made_in (Sound a × Sound b) A next (SA, SB) points_next next_sound
