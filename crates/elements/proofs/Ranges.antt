-- Ground 8 on the points of cells that stand at (k − 15, l − 15): they are in range where each cell, counted from there, is to 15, and to 30 with k and l
-- added; and the other way round. A coordinate is carried as the number m of which it is m − 15.
use mathlib.Core.Path.{◌≡◌, refl, sym, ◌∙◌, ap, ap₂, subst}
use mathlib.Core.Logic.{◌⊎◌, inl, inr, ⊎_elim}
use mathlib.Core.Bool.{Bool, not, ◌||◌}
use mathlib.Core.List.{List, map}
use Prim.Native.Nat.{ℕ, suc, ◌+◌, ◌-◌, ◌≤◌}
use native.Mathlib.Omega.{arith}
use lib.Dec.{T, ltb, nltb→le}
use lib.IntN.{ℤ, pos, ◌+ℤ◌, ◌-ℤ◌, neg_ℤ, nat_abs, +ℤ_assoc}
use lib.Signed.{lt_z}
use Rattle.plane.specs.Extent.{x_of, y_of, width, height, span}
use Rattle.plane.specs.Lists.{In, any}
use Rattle.plane.specs.Point.{Point, point, ◌+ᵖ◌, ◌≐◌}
use Rattle.plane.proofs.Extents.{span_near, span_far}
use Rattle.plane.proofs.Integer.{diff_ge, diff_lt}
use Rattle.plane.proofs.Member.{any_no, no_any, In-map}
use Rattle.plane.proofs.Tests.{not_or, not_ltb, lt_or_le}
use Rattle.rows.specs.Cells.{Cells, Points}
use Rattle.shapes.specs.Shape.{out_of_range, too_far}
use Rattle.shapes.proofs.Accepted.{sub_sub}

-- ---- one coordinate

-- the coordinate that a number from 0 to 30 stands for
abbrev pub coordinate : ℕ → ℤ
coordinate m = pos m -ℤ pos 15

pub coordinate_add : (x k : ℕ) → pos x +ℤ coordinate k ≡ coordinate (x + k)
coordinate_add x k = sym (+ℤ_assoc (pos x) (pos k) (neg_ℤ (pos 15)))

-- how far it is from 0
distance : (m : ℕ) → ((m ≤ 14) × (nat_abs (coordinate m) ≡ 15 - m)) ⊎ ((15 ≤ m) × (nat_abs (coordinate m) ≡ m - 15))
distance m = ⊎_elim
    (λ l. let e : suc (15 - suc m) ≡ 15 - m = omega arith in inl (omega arith, ap nat_abs (diff_lt m 15 l) ∙ e))
    (λ l. inr (l, ap nat_abs (diff_ge m 15 l)))
    (lt_or_le m 15)

pub near_bound : (m : ℕ) → T (not (too_far (coordinate m))) → m ≤ 30
near_bound m t = let b = nltb→le 15 (nat_abs (coordinate m)) t in ⊎_elim (λ d. let l = d.0 in omega arith) (λ d. let e = d.1 in omega arith) (distance m)

pub bound_near : (m : ℕ) → m ≤ 30 → T (not (too_far (coordinate m)))
bound_near m h = not_ltb 15 (nat_abs (coordinate m)) (⊎_elim (λ d. let e = d.1 in omega arith) (λ d. let e = d.1 in omega arith) (distance m))

-- two that are no more than 15 apart
apart_bound : (m n : ℕ) → T (not (lt_z (pos 15) (pos m -ℤ pos n))) → m ≤ n + 15
apart_bound m n t =
    ⊎_elim (λ l. omega arith) (λ l. let b = nltb→le 15 (m - n) (subst (λ z. T (not (lt_z (pos 15) z))) (diff_ge m n l) t) in omega arith) (lt_or_le m n)

bound_apart : (m n : ℕ) → m ≤ n + 15 → T (not (lt_z (pos 15) (pos m -ℤ pos n)))
bound_apart m n h = ⊎_elim
    (λ l. subst (λ z. T (not (lt_z (pos 15) z))) (sym (diff_lt m n l)) tt)
    (λ l. subst (λ z. T (not (lt_z (pos 15) z))) (sym (diff_ge m n l)) (not_ltb 15 (m - n) (omega arith)))
    (lt_or_le m n)

-- ---- in range, along one coordinate

pub record Flat (axis : Point → ℤ) (A : List Point) : Type 0 where
  pub near : (p : Point) → In A p → T (not (too_far (axis p)))
  pub apart : (p q : Point) (m n : ℕ) → In A p → In A q → axis p ≡ coordinate m → axis q ≡ coordinate n → m ≤ n + 15

abbrev far : Point → Bool
far p = too_far p.0 || too_far p.1

pub range_flat : (A : List Point) → T (not (out_of_range A)) → Flat x_of A × Flat y_of A
unfolding out_of_range
range_flat A t =
    let u = (not_or (ltb 15 (width A) || ltb 15 (height A)) (any far A)).0 t in
    let v = (not_or (ltb 15 (width A)) (ltb 15 (height A))).0 u.0 in
    (one x_of v.0 (λ p h. (near u.1 p h).0), one y_of v.1 (λ p h. (near u.1 p h).1))
  where
    near : T (not (any far A)) → (p : Point) → In A p → T (not (too_far p.0)) × T (not (too_far p.1))
    near t p h = (not_or (too_far p.0) (too_far p.1)).0 (no_any far A t p h)

    one : (axis : Point → ℤ) → T (not (ltb 15 (span (map axis A)))) → ((p : Point) → In A p → T (not (too_far (axis p)))) → Flat axis A
    one axis s f = record {
      near = f;
      apart = λ p q m n h k e g.
          let b = span_far (map axis A) (axis p) (axis q) 15 ((In-map axis A (axis p)).1 (p, h, refl)) ((In-map axis A (axis q)).1 (q, k, refl))
          (nltb→le 15 (span (map axis A)) s) in
          apart_bound m n (subst (λ z. T (not (lt_z (pos 15) z))) (ap₂ (λ a b. a -ℤ b) e g ∙ sub_sub (pos m) (pos n) (pos 15)) b);
    }

-- ---- in range, by cells

-- the points of cells at (k − 15, l − 15) are in range where no cell is past 15, nor past 30 with k and l added
pub cells_range : (A : List Point) (X : Cells) (k l : ℕ) → In A ≐ Points X (coordinate k, coordinate l)
    → ((x y : ℕ) → X x y → (x ≤ 15) × (y ≤ 15) × (x + k ≤ 30) × (y + l ≤ 30)) → T (not (out_of_range A))
unfolding out_of_range ◌+ᵖ◌
cells_range A X k l e f =
    (not_or (ltb 15 (width A) || ltb 15 (height A)) (any far A)).1 (
      (not_or (ltb 15 (width A)) (ltb 15 (height A))).1 (
        narrow x_of k (λ p h. let c = at p h in (c.0, (f c.0 c.1 c.2).0, c.3)),
        narrow y_of l (λ p h. let c = at p h in (c.1, (f c.0 c.1 c.2).1, c.4)),
      ),
      any_no far A (λ p h. let c = at p h in
          let b = f c.0 c.1 c.2 in
          (not_or (too_far p.0) (too_far p.1)).1 (
            subst (λ z. T (not (too_far z))) (sym c.3) (bound_near (c.0 + k) b.2),
            subst (λ z. T (not (too_far z))) (sym c.4) (bound_near (c.1 + l) b.3),
          )),
    )
  where
    -- the cell of a point, and the point's coordinates
    at : (p : Point) → In A p → (x : ℕ) × (y : ℕ) × X x y × (p.0 ≡ coordinate (x + k)) × (p.1 ≡ coordinate (y + l))
    at p h =
        let c = (e p).0 h in
        (c.x, c.y, c.cell, ap x_of (sym c.at) ∙ coordinate_add c.x k, ap y_of (sym c.at) ∙ coordinate_add c.y l)

    narrow : (axis : Point → ℤ) (k : ℕ) → ((p : Point) → In A p → (x : ℕ) × (x ≤ 15) × (axis p ≡ coordinate (x + k))) → T (not (ltb 15 (span (map axis A))))
    narrow axis k f = not_ltb 15 (span (map axis A)) (span_near (map axis A) 15 (λ u v h g.
        let i = (In-map axis A u).0 h in
        let j = (In-map axis A v).0 g in
        let r = f i.0 i.1 in
        let s = f j.0 j.1 in
        let b = bound_apart (r.0 + k) (s.0 + k) (omega arith) in
        subst (λ z. T (not (lt_z (pos 15) z))) (sym (ap₂ (λ a b. a -ℤ b) (i.2 ∙ r.2) (j.2 ∙ s.2) ∙ sub_sub (pos (r.0 + k)) (pos (s.0 + k)) (pos 15))) b))

-- and where they are, no cell is past 30 with k and l added
pub range_cells : (A : List Point) (X : Cells) (k l : ℕ) → In A ≐ Points X (coordinate k, coordinate l) → T (not (out_of_range A))
    → (x y : ℕ) → X x y → (x + k ≤ 30) × (y + l ≤ 30)
unfolding ◌+ᵖ◌
range_cells A X k l e t x y c =
    let p = point (x, y) +ᵖ (coordinate k, coordinate l) in
    let h = (e p).1 (record { x = x; y = y; cell = c; at = refl }) in
    let r = range_flat A t in (
      near_bound (x + k) (subst (λ z. T (not (too_far z))) (coordinate_add x k) (r.0.near p h)),
      near_bound (y + l) (subst (λ z. T (not (too_far z))) (coordinate_add y l) (r.1.near p h)),
    )
