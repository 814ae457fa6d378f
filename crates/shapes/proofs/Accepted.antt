-- An accepted shape list: its cells moved to both axes, where they stand, and that no extent is above 15. Each of its points is a cell of the window, to 15
-- in both coordinates, less the anchor.
use mathlib.Core.Path.{◌≡◌, refl, sym, ◌∙◌, ap, ap₂, subst}
use mathlib.Core.Logic.{inl}
use mathlib.Core.Bool.{Bool, not, ◌||◌}
use mathlib.Core.List.{List, [], ◌∷◌, map}
use Prim.Native.Nat.{ℕ, zero, suc, ◌+◌, ◌-◌, ◌/◌, ◌%◌, ◌^◌, ◌≤◌, ◌<◌}
use native.Mathlib.Omega.{arith}
use lib.Dec.{T, ltb, eqb, ltb→lt, nltb→le, not_T, T_not}
use lib.ListN.{length}
use lib.IntN.{ℤ, pos, negsuc, ◌+ℤ◌, ◌-ℤ◌, neg_ℤ, nat_abs, +ℤ_assoc, +ℤ_comm, +ℤ_idl, +ℤ_invl, -ℤ-+ℤ_cancel, neg_ℤ-+ℤ, neg_ℤ-neg_ℤ}
use lib.Signed.{lt_z}
use Rattle.plane.specs.Extent.{x_of, y_of, width, height, span}
use Rattle.plane.specs.Lists.{In, any, any_next, flat, up_to}
use Rattle.plane.specs.Point.{Point, Cell, point, ◌+ᵖ◌, negᵖ, ◌-ᵖ◌}
use Rattle.plane.proofs.Algebra.{+ᵖ_cancel, subᵖ_cancel}
use Rattle.plane.proofs.Extents.{span_near}
use Rattle.plane.proofs.Member.{any_no, In-map, In-flat, In-keep, up_to_In, least_member}
use Rattle.plane.proofs.Tests.{cond_ind, not_or, not_ltb, eq-eqb}
use Rattle.words.specs.Word.{row_y, row_columns}
use Rattle.words.proofs.Refusals.{Clear}
use Rattle.masks.proofs.Placed.{Placed}
use Rattle.shapes.specs.Shape.{anchor, rows, row_cells, shape_cells, shape_points, empty_row, not_rising, shape_tests, out_of_range, too_far}

-- ---- differences of natural numbers

pub abs_sub : (x a n : ℕ) → x ≤ n → a ≤ n → nat_abs (pos x -ℤ pos a) ≤ n
abs_sub x zero n h k = omega arith
abs_sub x (suc a) n h k = cond_ind (ltb x (suc a)) (negsuc (suc a - suc x)) (pos (x - suc a)) (λ z. nat_abs z ≤ n) (λ t. big (ltb→lt x (suc a) t)) (λ _. small)
  where
    big : x < suc a → suc (suc a - suc x) ≤ n
    big l = omega arith

    small : x - suc a ≤ n
    small = omega arith

-- an integer above n is farther than n from 0
far_abs : (n : ℕ) (z : ℤ) → T (lt_z (pos n) z) → n < nat_abs z
far_abs n (pos m) t = ltb→lt n m t
far_abs n (negsuc m) t = absurd t

-- a number taken from both leaves the difference
pub sub_sub : (x y a : ℤ) → (x -ℤ a) -ℤ (y -ℤ a) ≡ x -ℤ y
sub_sub x y a =
    ap (λ z. (x -ℤ a) +ℤ z) (neg_ℤ-+ℤ y (neg_ℤ a) ∙ ap (λ z. neg_ℤ y +ℤ z) (neg_ℤ-neg_ℤ a) ∙ +ℤ_comm (neg_ℤ y) a)
    ∙ sym (+ℤ_assoc (x -ℤ a) a (neg_ℤ y)) ∙ ap (λ z. z -ℤ y) (-ℤ-+ℤ_cancel x a)

-- (x − a) + 15 is the natural number x + (15 − a)
pub biased : (x a : ℕ) → a ≤ 15 → (pos x -ℤ pos a) +ℤ pos 15 ≡ pos (x + (15 - a))
biased x a h = +ℤ_assoc (pos x) (neg_ℤ (pos a)) (pos 15) ∙ ap (λ z. pos x +ℤ z) rest
  where
    b : ℕ
    b = 15 - a

    split : 15 ≡ a + b
    split = omega arith

    rest : neg_ℤ (pos a) +ℤ pos 15 ≡ pos b
    rest = ap (λ n. neg_ℤ (pos a) +ℤ pos n) split ∙ sym (+ℤ_assoc (neg_ℤ (pos a)) (pos a) (pos b)) ∙ ap (λ z. z +ℤ pos b) (+ℤ_invl (pos a)) ∙ +ℤ_idl (pos b)

-- ---- an accepted shape

pub record Shaped (ws : List ℕ) : Type 0 where
  pub cells : List Cell
  pub corner : Cell
  pub small : (c : Cell) → In cells c → (c.0 ≤ 15) × (c.1 ≤ 15)
  pub near : (corner.0 ≤ 15) × (corner.1 ≤ 15)
  pub placed : Placed (In (shape_points ws)) cells (point corner -ᵖ point (anchor ws))

-- a cell of the window
abbrev Window : Cell → Type 0
Window c = (c.0 ≤ 15) × (c.1 ≤ 15)

-- x is a column below 16, and y a field of four bits
cell_small : (ws : List ℕ) (c : Cell) → In (shape_cells ws) c → Window c
unfolding shape_cells
cell_small ws c h =
    let r = (In-flat row_cells (rows ws) c).0 h in
    let s = (In-map (λ x. (x, row_y r.0)) (row_columns r.0) c).0 r.2 in
    let l = up_to_In 16 s.0 ((In-keep (λ k. eqb (r.0 / 2 ^ k % 2) 1) (up_to 16) s.0).0 s.1).0 in
    subst Window (sym s.2) (omega arith, top r.0)
  where
    top : (w : ℕ) → w / 65536 % 16 ≤ 15
    top w = omega arith

-- no row is empty, so the first has a cell
pub some_cell : (ws : List ℕ) → 2 ≤ length ws → T (not (any empty_row (rows ws))) → (c : Cell) × In (shape_cells ws) c
unfolding shape_cells
some_cell [] h t = absurd (omega arith)
some_cell (a ∷ []) h t = absurd (let z : 2 ≤ 1 = h in omega arith)
some_cell (a ∷ w ∷ ws) h t = go (row_columns w) refl ((not_or (eqb (length (row_columns w)) 0) (any empty_row ws)).0 t).0
  where
    go : (l : List ℕ) → row_columns w ≡ l → T (not (eqb (length (row_columns w)) 0)) → (c : Cell) × In (flat row_cells (w ∷ ws)) c
    go [] e u = absurd (T_not (eqb (length (row_columns w)) 0) u (eq-eqb (ap length e)))
    go (x ∷ xs) e u =
        let c : Cell = (x, row_y w) in
        let in_row = (In-map (λ k. (k, row_y w)) (row_columns w) c).1 (x, subst (λ l. In l x) (sym e) (inl refl), refl) in
        (c, (In-flat row_cells (w ∷ ws) c).1 (w, inl refl, in_row))

pub shaped : (ws : List ℕ) → 2 ≤ length ws → T (not (any empty_row (rows ws))) → Shaped ws
unfolding shape_points ◌+ᵖ◌ negᵖ
shaped ws h t =
    let c = some_cell ws h t in
    let x = least_member (λ c. c.0) C c.0 c.1 in
    let y = least_member (λ c. c.1) C c.0 c.1 in
    make x.0 y.0 x.1 y.1 x.2 y.2
  where
    C : List Cell
    C = shape_cells ws

    -- the least x is that of the cell x, and the least y that of the cell y: all cells are moved down by these
    make : (x y : Cell) → In C x → In C y → ((a : Cell) → In C a → x.0 ≤ a.0) → ((a : Cell) → In C a → y.1 ≤ a.1) → Shaped ws
    make x y hx hy lx ly = record {
      cells = map down C;
      corner = k;
      small = λ c i. let r = (In-map down C c).0 i in
          let s = cell_small ws r.0 r.1 in
          subst Window (sym r.2) (less r.0.0 x.0 s.0, less r.0.1 y.1 s.1);
      near = ((cell_small ws x hx).0, (cell_small ws y hy).1);
      placed = record {
        low = record { x = down x; x_in = down_in x hx; x_zero = self x.0; y = down y; y_in = down_in y hy; y_zero = self y.1 };
        set = λ p. (
          λ i. let r = (In-map at C p).0 i in
              let e = r.2 ∙ sym (up r.0 r.1) in
              (In-map point (map down C) (p -ᵖ d)).1 (down r.0, down_in r.0 r.1, ap (λ q. q -ᵖ d) e ∙ +ᵖ_cancel (point (down r.0)) d),
          λ i. let r = (In-map point (map down C) (p -ᵖ d)).0 i in
              let s = (In-map down C r.0).0 r.1 in
              let e = sym (subᵖ_cancel p d) ∙ ap (λ q. q +ᵖ d) (r.2 ∙ ap point s.2) in
              (In-map at C p).1 (s.0, s.1, e ∙ up s.0 s.1),
        );
      };
    }
      where
        k : Cell
        k = (x.0, y.1)

        A : Point
        A = point (anchor ws)

        -- the point of a cell, and that of the corner
        at : Cell → Point
        at c = point c -ᵖ A

        d : Point
        d = at k

        down : Cell → Cell
        down c = (c.0 - x.0, c.1 - y.1)

        down_in : (c : Cell) → In C c → In (map down C) (down c)
        down_in c h = (In-map down C (down c)).1 (c, h, refl)

        less : (a b : ℕ) → a ≤ 15 → a - b ≤ 15
        less a b l = omega arith

        self : (a : ℕ) → a - a ≡ 0
        self a = omega arith

        back : (a b : ℕ) → b ≤ a → a - b + b ≡ a
        back a b l = omega arith

        up₁ : (a b : ℕ) (z : ℤ) → b ≤ a → pos (a - b) +ℤ (pos b -ℤ z) ≡ pos a -ℤ z
        up₁ a b z l = sym (+ℤ_assoc (pos (a - b)) (pos b) (neg_ℤ z)) ∙ ap (λ n. pos n -ℤ z) (back a b l)

        up : (c : Cell) → In C c → point (down c) +ᵖ d ≡ at c
        up c h = λ i. (up₁ c.0 x.0 A.0 (lx c h) i, up₁ c.1 y.1 A.1 (ly c h) i)

-- grounds 1 and 4 are enough for that
pub accepted_shape : (ws : List ℕ) → Clear (shape_tests ws) → Shaped ws
unfolding shape_tests
accepted_shape ws c =
    shaped ws (nltb→le (length ws) 2 ((not_or (ltb (length ws) 2) (ltb 17 (length ws))).0 c.0).0)
    ((not_or (any empty_row (rows ws)) (any_next not_rising (rows ws))).0 c.1.1.1.0).0

-- the points of a shape list are differences of numbers to 15
pub point_of : (ws : List ℕ) (p : Point) → In (shape_points ws) p → (c : Cell) × (c.0 ≤ 15) × (c.1 ≤ 15) × (p ≡ point c -ᵖ point (anchor ws))
unfolding shape_points
point_of ws p h =
    let r = (In-map (λ c. point c -ᵖ point (anchor ws)) (shape_cells ws) p).0 h in
    let s = cell_small ws r.0 r.1 in
    (r.0, s.0, s.1, r.2)

-- points that all lie in a shape list are in range: ground 8 does not hold
pub in_range_lem : (ws : List ℕ) (A : List Point) → ((p : Point) → In A p → In (shape_points ws) p) → T (not (out_of_range A))
unfolding out_of_range ◌+ᵖ◌ negᵖ
in_range_lem ws A sub =
    (not_or (ltb 15 (width A) || ltb 15 (height A)) (any far A)).1 (
      (not_or (ltb 15 (width A)) (ltb 15 (height A))).1 (
        narrow x_of (λ c. c.0) a.0 (λ p h. let r = of p h in (r.0, r.1, ap x_of r.3)),
        narrow y_of (λ c. c.1) a.1 (λ p h. let r = of p h in (r.0, r.2, ap y_of r.3)),
      ),
      any_no far A (λ p h. let r = of p h in
          (not_or (too_far p.0) (too_far p.1)).1 (
            close r.0.0 a.0 p.0 r.1 (omega arith) (ap x_of r.3),
            close r.0.1 a.1 p.1 r.2 (omega arith) (ap y_of r.3),
          )),
    )
  where
    a : Cell
    a = anchor ws

    far : Point → Bool
    far p = too_far p.0 || too_far p.1

    of : (p : Point) → In A p → (c : Cell) × (c.0 ≤ 15) × (c.1 ≤ 15) × (p ≡ point c -ᵖ point a)
    of p h = point_of ws p (sub p h)

    -- two coordinates are no more than 15 apart
    apart : (x y a : ℕ) (u v : ℤ) → x ≤ 15 → y ≤ 15 → u ≡ pos x -ℤ pos a → v ≡ pos y -ℤ pos a → T (not (lt_z (pos 15) (u -ℤ v)))
    apart x y a u v h k e f =
        let same = ap₂ (λ p q. p -ℤ q) e f ∙ sub_sub (pos x) (pos y) (pos a) in
        let m = abs_sub x y 15 h k in
        not_T (lt_z (pos 15) (u -ℤ v)) (λ t. let l = far_abs 15 (pos x -ℤ pos y) (subst (λ z. T (lt_z (pos 15) z)) same t) in omega arith)

    -- a coordinate is no more than 15 from 0
    close : (x a : ℕ) (u : ℤ) → x ≤ 15 → a ≤ 15 → u ≡ pos x -ℤ pos a → T (not (too_far u))
    close x a u h k e = subst (λ z. T (not (too_far z))) (sym e) (not_ltb 15 (nat_abs (pos x -ℤ pos a)) (abs_sub x a 15 h k))

    -- an extent is no more than 15
    narrow : (axis : Point → ℤ) (number : Cell → ℕ) (a : ℕ) → ((p : Point) → In A p → (c : Cell) × (number c ≤ 15) × (axis p ≡ pos (number c) -ℤ pos a))
        → T (not (ltb 15 (span (map axis A))))
    narrow axis number a f = not_ltb 15 (span (map axis A)) (span_near (map axis A) 15 (λ u v h k.
        let i = (In-map axis A u).0 h in
        let j = (In-map axis A v).0 k in
        let r = f i.0 i.1 in
        let s = f j.0 j.1 in
        apart (number r.0) (number s.0) a u v r.1 s.1 (i.2 ∙ r.2) (j.2 ∙ s.2)))
