-- The list of a set of points in range: it stands for exactly those points, passes grounds 1 to 4, and is the same for equal sets of points. Its words are
-- read back field by field, and the least anchor puts every point in the window.
use mathlib.Core.Path.{◌≡◌, refl, sym, ◌∙◌, ap, ap₂, subst, fun_ext}
use mathlib.Core.Logic.{◌↔◌, inl, inr}
use mathlib.Core.Bool.{Bool, not, ◌&&◌, ◌||◌}
use mathlib.Core.List.{List, [], ◌∷◌, map}
use Prim.Native.Nat.{ℕ, zero, suc, ◌+◌, ◌*◌, ◌≤◌, ◌<◌, zero-le, suc-le-suc}
use native.Mathlib.Omega.{arith}
use native.Mathlib.Numerals.{add-one}
use lib.Dec.{T, leb, ltb, eqb→eq, eqb_refl, nltb→le, not_T}
use lib.IntN.{ℤ, pos, negsuc, ◌+ℤ◌, ◌-ℤ◌, +ℤ_idr, +ℤ-neg_ℤ_cancel}
use lib.Signed.{lt_z, ◌≤ℤ◌}
use lib.ListN.{length, get_or, length-map}
use Rattle.plane.specs.Extent.{x_of, y_of, width, height, span, least}
use Rattle.plane.specs.Lists.{In, any, any_next, keep, up_to, count_from, packed}
use Rattle.plane.specs.Point.{Point, Cell, point, ◌+ᵖ◌, negᵖ, ◌-ᵖ◌, ◌≐◌}
use Rattle.plane.proofs.Bits.{packed_below, bits_packed}
use Rattle.plane.proofs.Extents.{least_le, least_in, span_far}
use Rattle.plane.proofs.Integer.{≤ℤ_from, +ℤ_less}
use Rattle.plane.proofs.Member.{any_no, no_any, In-map, In-flat, In-keep, length_keep, In-any, up_to_In, In-up_to, count_from_In}
use Rattle.plane.proofs.Tests.{cond_ind, not_or, not_ltb, not_leb, T_and, same_test}
use Rattle.words.specs.Word.{row_y, row_columns, anchor_word, row_word, anchor_kind, row_kind, wrong_kind, extra_bit}
use Rattle.words.proofs.Refusals.{Clear}
use Rattle.words.proofs.Words.{Fine, anchor_x_lem, anchor_y_lem, row_y_lem, anchor_fine, row_fine}
use Rattle.shapes.specs.Listed.{eq_z, has, below, least_anchor, column_set, row_of, has_cells, listed}
use Rattle.shapes.specs.Shape.{anchor, rows, row_cells, shape_cells, shape_points, empty_row, not_rising, shape_tests, out_of_range, too_far}
use Rattle.shapes.proofs.Range.{corner_same}

-- ---- membership that is computed

eq_z_eq : (a b : ℤ) → T (eq_z a b) → a ≡ b
eq_z_eq (pos a) (pos b) t = ap pos (eqb→eq a b t)
eq_z_eq (pos a) (negsuc b) t = absurd t
eq_z_eq (negsuc a) (pos b) t = absurd t
eq_z_eq (negsuc a) (negsuc b) t = ap negsuc (eqb→eq a b t)

eq_z_refl : (a : ℤ) → T (eq_z a a)
eq_z_refl (pos a) = eqb_refl a
eq_z_refl (negsuc a) = eqb_refl a

pub has_in : (A : List Point) (p : Point) → T (has A p) ↔ In A p
has_in A p = (
  λ t. let r = (In-any here A).0 t in
      let u = (T_and (eq_z p.0 r.0.0) (eq_z p.1 r.0.1)).0 r.2 in
      let e : r.0 ≡ p = λ i. (sym (eq_z_eq p.0 r.0.0 u.0) i, sym (eq_z_eq p.1 r.0.1 u.1) i) in
      subst (In A) e r.1,
  λ h. (In-any here A).1 (p, h, (T_and (eq_z p.0 p.0) (eq_z p.1 p.1)).1 (eq_z_refl p.0, eq_z_refl p.1)),
)
  where
    here : Point → Bool
    here q = eq_z p.0 q.0 && eq_z p.1 q.1

-- ---- equal sets of points have equal lists

has_same : (A B : List Point) → In A ≐ In B → has A ≡ has B
has_same A B e = fun_ext (λ p. same_test (has A p) (has B p) (λ t. (has_in B p).1 ((e p).0 ((has_in A p).0 t))) (λ t. (has_in A p).1 ((e p).1 ((has_in B p).0 t))))

pub listed_same : (A B : List Point) → In A ≐ In B → listed A ≡ listed B
unfolding listed least_anchor
listed_same A B e =
    ap₂ (λ (f : Point → Bool) (c : Point). lines f (below c.0, below c.1)) (has_same A B e) (corner_same A B e)
  where
    -- the list, by the test of membership and the anchor
    lines : (Point → Bool) → Cell → List ℕ
    lines f a =
        anchor_word a.0 a.1
        ∷ map (λ y. row_word y (packed (λ x. f (point (x, y) -ᵖ point a)) 0 16)) (keep (λ y. any (λ x. f (point (x, y) -ᵖ point a)) (up_to 16)) (up_to 16))

-- ---- where the least anchor puts a coordinate

-- z is at least l and no farther than 15 from l or from 0: above the anchor it is a number to 15
place : (l z : ℤ) → l ≤ℤ z → T (not (too_far z)) → T (not (lt_z (pos 15) (z -ℤ l))) → (m : ℕ) × (m ≤ 15) × (z +ℤ pos (below l) ≡ pos m)
place (pos j) z h s t =
    let r = ≤ℤ_from (pos j) z h in
    (j + r.0, nltb→le 15 (j + r.0) (subst (λ x. T (not (too_far x))) r.1 s), +ℤ_idr z ∙ r.1)
place (negsuc j) z h s t =
    let r = ≤ℤ_from (negsuc j) z h in
    let e : z -ℤ negsuc j ≡ pos r.0 = ap (λ x. x -ℤ negsuc j) r.1 ∙ +ℤ_less (negsuc j) (pos r.0) in
    (r.0, nltb→le 15 r.0 (subst (λ x. T (not (lt_z (pos 15) x))) e t), ap (λ n. z +ℤ pos n) (add-one j) ∙ e)

low15 : (z : ℤ) → T (not (too_far z)) → below z ≤ 15
low15 (pos n) t = zero-le
low15 (negsuc n) t = let k = nltb→le 15 (suc n) t in omega arith

-- ---- rows that rise

-- each number is above the one before
abbrev Rising : List ℕ → Type 0
Rising l = T (not (any_next (λ a b. leb b a) l))

keep_rising : (f : ℕ → Bool) (k n : ℕ) → Rising (keep f (count_from k n))
keep_rising f k zero = tt
keep_rising f k (suc n) = let ih = keep_rising f (suc k) n in cond_ind (f k) (k ∷ rest) rest Rising (λ _. add rest ih above) (λ _. ih)
  where
    rest : List ℕ
    rest = keep f (count_from (suc k) n)

    above : (a : ℕ) → In rest a → k < a
    above a h = (count_from_In (suc k) n a ((In-keep f (count_from (suc k) n) a).0 h).0).0

    add : (l : List ℕ) → Rising l → ((a : ℕ) → In l a → k < a) → Rising (k ∷ l)
    add [] t g = tt
    add (y ∷ ys) t g = (not_or (leb y k) (any_next (λ a b. leb b a) (y ∷ ys))).1 (not_leb y k (g y (inl refl)), t)

-- row words whose y are rising numbers rise
map_rising : (g : ℕ → ℕ) (l : List ℕ) → ((y : ℕ) → In l y → row_y (g y) ≡ y) → Rising l → T (not (any_next not_rising (map g l)))
map_rising g [] e t = tt
map_rising g (y ∷ []) e t = tt
map_rising g (y ∷ z ∷ zs) e t =
    let u = (not_or (leb z y) (any_next (λ a b. leb b a) (z ∷ zs))).0 t in
    let v = subst (λ n. T (not (leb z n))) (sym (e y (inl refl))) u.0 in
    let first = subst (λ n. T (not (leb n (row_y (g y))))) (sym (e z (inr (inl refl)))) v in
    (not_or (not_rising (g y) (g z)) (any_next not_rising (map g (z ∷ zs)))).1 (first, map_rising g (z ∷ zs) (λ w h. e w (inr h)) u.1)

some_length : {A : Type 0} (l : List A) (a : A) → In l a → 1 ≤ length l
some_length [] a h = absurd h
some_length (x ∷ xs) a h = suc-le-suc zero-le

-- the columns of a row word are the bits that it was packed from
row_columns_lem : (b : ℕ → Bool) (y x : ℕ) → In (row_columns (row_word y (packed b 0 16))) x ↔ ((x < 16) × T (b x))
row_columns_lem b y x =
    let top : row_word y (packed b 0 16) ≡ 65536 * (8192 + y) + packed b 0 16 = omega arith in
    subst (λ w. In (row_columns w) x ↔ ((x < 16) × T (b x))) (sym top) (bits_packed b 16 (8192 + y) x)

-- ---- the list of points in range

abbrev far : Point → Bool
far p = too_far p.0 || too_far p.1

-- no coordinate along an axis is farther than 15 from 0
abbrev Near : (Point → ℤ) → List Point → Type 0
Near axis A = (p : Point) → In A p → T (not (too_far (axis p)))

-- the rows that have a cell
abbrev filled : List Point → List ℕ
filled A = keep (has_cells A (least_anchor A)) (up_to 16)

-- no coordinate is farther than 15 from 0, so the least is no farther below
low_anchor : (axis : Point → ℤ) (A : List Point) → Near axis A → below (least (map axis A)) ≤ 15
unfolding least
low_anchor axis [] f = zero-le
low_anchor axis (b ∷ B) f =
    let zs = map axis (b ∷ B) in
    let r = (In-map axis (b ∷ B) (least zs)).0 (least_in zs (axis b) (inl refl)) in
    low15 (least zs) (subst (λ z. T (not (too_far z))) (sym r.2) (f r.0 r.1))

module _ (A : List Point) (fit : T (not (out_of_range A))) where
  bounds : T (not (ltb 15 (width A))) × T (not (ltb 15 (height A))) × T (not (any far A))
  unfolding out_of_range
  bounds =
      let u = (not_or (ltb 15 (width A) || ltb 15 (height A)) (any far A)).0 fit in
      let v = (not_or (ltb 15 (width A)) (ltb 15 (height A))).0 u.0 in
      (v.0, v.1, u.1)

  near : (p : Point) → In A p → T (not (too_far p.0)) × T (not (too_far p.1))
  near p h = (not_or (too_far p.0) (too_far p.1)).0 (no_any far A bounds.2 p h)

  -- one coordinate of a point, above the anchor
  over : (axis : Point → ℤ) → T (not (ltb 15 (span (map axis A)))) → Near axis A → (p : Point) → In A p
      → (m : ℕ) × (m ≤ 15) × (axis p +ℤ pos (below (least (map axis A))) ≡ pos m)
  over axis w f p h =
      let zs = map axis A in
      let i = (In-map axis A (axis p)).1 (p, h, refl) in
      place (least zs) (axis p) (least_le zs (axis p) i) (f p h) (span_far zs (axis p) (least zs) 15 i (least_in zs (axis p) i) (nltb→le 15 (span zs) w))

  abbrev a : Cell
  a = least_anchor A

  abbrev row : ℕ → ℕ
  row y = row_of A a y

  pub small_a : (a.0 < 16) × (a.1 < 16)
  unfolding least_anchor
  small_a = (suc-le-suc (low_anchor x_of A (λ p h. (near p h).0)), suc-le-suc (low_anchor y_of A (λ p h. (near p h).1)))

  anchor_back : anchor (listed A) ≡ a
  unfolding listed
  anchor_back = λ i. (anchor_x_lem a.0 a.1 small_a.0 i, anchor_y_lem a.0 a.1 small_a.0 small_a.1 i)

  row_back : (y : ℕ) → y < 16 → row_y (row y) ≡ y
  row_back y h = row_y_lem y (packed (column_set A a y) 0 16) h (packed_below (column_set A a y) 0 16)

  -- the rows, one by one
  row_in : (w : ℕ) → In (rows (listed A)) w ↔ ((y : ℕ) × (y < 16) × T (has_cells A a y) × (w ≡ row y))
  unfolding listed
  row_in w = (
    λ h. let t = (In-map row (filled A) w).0 h in
        let k = (In-keep (has_cells A a) (up_to 16) t.0).0 t.1 in
        (t.0, up_to_In 16 t.0 k.0, k.1, t.2),
    λ h. (In-map row (filled A) w).1 (h.0, (In-keep (has_cells A a) (up_to 16) h.0).1 (In-up_to 16 h.0 h.1, h.2), h.3),
  )

  -- a cell of the list is a column of a row, and stands for a point of A
  cell_of : (c : Cell) → In (shape_cells (listed A)) c ↔ ((c.0 < 16) × (c.1 < 16) × In A (point c -ᵖ point a))
  unfolding shape_cells
  cell_of c = (
    λ h. let s = (In-flat row_cells (rows (listed A)) c).0 h in
        let t = (row_in s.0).0 s.1 in
        let y = t.0 in
        let u = (In-map (λ x. (x, row_y s.0)) (row_columns s.0) c).0 s.2 in
        let v = (row_columns_lem (column_set A a y) y u.0).0 (subst (λ w. In (row_columns w) u.0) t.3 u.1) in
        let e : c ≡ (u.0, y) = u.2 ∙ ap (λ w. (u.0, row_y w)) t.3 ∙ ap (λ k. (u.0, k)) (row_back y t.1) in
        subst (λ z. (z.0 < 16) × (z.1 < 16) × In A (point z -ᵖ point a)) (sym e) (v.0, t.1, (has_in A (point (u.0, y) -ᵖ point a)).0 v.1),
    λ h. let x = c.0 in
        let y = c.1 in
        let b : T (column_set A a y x) = (has_in A (point c -ᵖ point a)).1 h.2 in
        let full = (In-any (column_set A a y) (up_to 16)).1 (x, In-up_to 16 x h.0, b) in
        let e : c ≡ (x, row_y (row y)) = ap (λ k. (x, k)) (sym (row_back y h.1)) in
        let at = (In-map (λ k. (k, row_y (row y))) (row_columns (row y)) c).1 (x, (row_columns_lem (column_set A a y) y x).1 (h.0, b), e) in
        (In-flat row_cells (rows (listed A)) c).1 (row y, (row_in (row y)).1 (y, h.1, full, refl), at),
  )

  -- the cell of a point of A
  pub seat : (p : Point) → In A p → (c : Cell) × (c.0 < 16) × (c.1 < 16) × (point c -ᵖ point a ≡ p)
  unfolding least_anchor ◌+ᵖ◌ negᵖ
  seat p h =
      let x = over x_of bounds.0 (λ p k. (near p k).0) p h in
      let y = over y_of bounds.1 (λ p k. (near p k).1) p h in
      ((x.0, y.0), suc-le-suc x.1, suc-le-suc y.1, λ i. (back p.0 a.0 x.0 x.2 i, back p.1 a.1 y.0 y.2 i))
    where
      back : (z : ℤ) (n m : ℕ) → z +ℤ pos n ≡ pos m → pos m -ℤ pos n ≡ z
      back z n m e = ap (λ w. w -ℤ pos n) (sym e) ∙ +ℤ-neg_ℤ_cancel z (pos n)

  -- the list stands for the points of A
  pub listed_points : In (shape_points (listed A)) ≐ In A
  unfolding shape_points
  listed_points p = (
    λ h. let r = (In-map (λ c. point c -ᵖ point (anchor (listed A))) (shape_cells (listed A)) p).0 h in
        subst (In A) (sym (r.2 ∙ ap (λ b. point r.0 -ᵖ point b) anchor_back)) ((cell_of r.0).0 r.1).2,
    λ h. let s = seat p h in
        (In-map (λ c. point c -ᵖ point (anchor (listed A))) (shape_cells (listed A)) p).1 (
          s.0,
          (cell_of s.0).1 (s.1, s.2, subst (In A) (sym s.3) h),
          sym (ap (λ b. point s.0 -ᵖ point b) anchor_back ∙ s.3),
        ),
  )

  -- each row word is fine, and has a column
  row_is : (w : ℕ) → In (rows (listed A)) w → Fine row_kind w
  row_is w h =
      let r = (row_in w).0 h in
      let b = column_set A a r.0 in
      subst (Fine row_kind) (sym r.3) (row_fine r.0 (packed b 0 16) r.1 (packed_below b 0 16))

  row_full : (w : ℕ) → In (rows (listed A)) w → T (not (empty_row w))
  row_full w h =
      let r = (row_in w).0 h in
      let b = column_set A a r.0 in
      let s = (In-any b (up_to 16)).0 r.2 in
      let c = (row_columns_lem b r.0 s.0).1 (up_to_In 16 s.0 s.1, s.2) in
      let l = some_length (row_columns w) s.0 (subst (λ v. In (row_columns v) s.0) (sym r.3) c) in
      not_T (empty_row w) (λ t. let e = eqb→eq (length (row_columns w)) 0 t in omega arith)

  rising : T (not (any_next not_rising (rows (listed A))))
  unfolding listed
  rising = map_rising row (filled A) (λ y h. row_back y (up_to_In 16 y ((In-keep (has_cells A a) (up_to 16) y).0 h).0)) (keep_rising (has_cells A a) 0 16)

  -- a test of the anchor word and of each row word
  each : (bad : ℕ → ℕ → Bool) → T (not (bad anchor_kind (get_or (listed A) 0 0))) → ((w : ℕ) → In (rows (listed A)) w → T (not (bad row_kind w)))
      → T (not (bad anchor_kind (get_or (listed A) 0 0) || any (bad row_kind) (rows (listed A))))
  each bad h k = (not_or (bad anchor_kind (get_or (listed A) 0 0)) (any (bad row_kind) (rows (listed A)))).1 (h, any_no (bad row_kind) (rows (listed A)) k)

  -- and passes grounds 1 to 4, if there is a point
  pub listed_clear : (p : Point) → In A p → Clear (shape_tests (listed A))
  unfolding shape_tests shape_cells listed
  listed_clear p h =
      let s = seat p h in
      let c = (cell_of s.0).1 (s.1, s.2, subst (In A) (sym s.3) h) in
      let r = (In-flat row_cells (rows (listed A)) s.0).0 c in
      let low = some_length (rows (listed A)) r.0 r.1 in
      let high = subst (λ n. n ≤ 16) (sym (length-map (filled A) (row_of A a))) (length_keep (has_cells A a) (up_to 16)) in
      let n = length (listed A) in
      let long = (not_or (ltb n 2) (ltb 17 n)).1 (not_ltb n 2 (suc-le-suc low), not_ltb 17 n (suc-le-suc high)) in
      let first = anchor_fine a.0 a.1 small_a.0 small_a.1 in
      let kinds = each wrong_kind first.kind_is (λ w k. (row_is w k).kind_is) in
      let bits = each extra_bit first.bits_named (λ w k. (row_is w k).bits_named) in
      let order = (not_or (any empty_row (rows (listed A))) (any_next not_rising (rows (listed A)))).1 (any_no empty_row (rows (listed A)) row_full, rising) in
      (long, (kinds, (bits, (order, tt))))
