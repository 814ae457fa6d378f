-- The cells of a picture, read back: the picture inside, the outside value outside.
use mathlib.Core.Path.{◌≡◌, refl, sym, ◌∙◌, ap, ap₂, subst}
use mathlib.Core.Logic.{◌↔◌}
use mathlib.Core.Bool.{Bool, true, false, not, cond, ◌&&◌}
use mathlib.Core.List.{List, ◌++◌, map}
use Prim.Native.Nat.{ℕ, zero, suc, ◌+◌, ◌*◌, ◌/◌, ◌%◌, ◌≤◌, ◌<◌}
use native.Mathlib.Omega.{arith}
use native.Mathlib.Nat.{add-zero, add-suc, suc-add, mul_comm, mul-le-mul_right, mod-lt, div-add-mod', div-lt_iff_lt-mul, not-suc-le-zero, le_of_suc-le-suc}
use lib.Dec.{T, ltb, ltb→lt, lt→ltb}
use lib.IntN.{ℤ, pos, negsuc, ◌+ℤ◌, +ℤ_idr}
use lib.ListN.{length, get_or, length-map, get_or-append, length-append}
use lib.Seq.{ext_get_or, get_or-append-add}
use Rattle.plane.specs.Lists.{flat, count_from, up_to}
use Rattle.plane.specs.Point.{Point, ◌+ᵖ◌}
use Rattle.plane.proofs.Tests.{T_and, T_true, cond_ind, clash}
use Rattle.grids.specs.Image.{value_at, view, cells}

-- inside W columns and H rows
unfoldable pub inside_z : ℕ → ℕ → ℤ → ℤ → Bool
inside_z W H (pos x) (pos y) = ltb x W && ltb y H
inside_z W H (pos x) (negsuc y) = false
inside_z W H (negsuc x) y = false

abbrev pub inside : ℕ → ℕ → Point → Bool
inside W H p = inside_z W H p.0 p.1

pub length_count : (k n : ℕ) → length (count_from k n) ≡ n
length_count k zero = refl
length_count k (suc n) = ap suc (length_count (suc k) n)

-- a product with something below it has a first factor
first_factor : (W H i : ℕ) → i < W * H → 0 < W
first_factor zero H i l = absurd (omega arith)
first_factor (suc W) H i l = omega arith

-- what holds at the place of each column and row holds at every place below W × H
pub at_places : (W H : ℕ) (P : ℕ → Type 0) → ((x y : ℕ) → x < W → y < H → P (y * W + x)) → (i : ℕ) → i < W * H → P i
at_places W H P h i l =
    let some = first_factor W H i l in
    let ly : i / W < H = (div-lt_iff_lt-mul {x = i} {y = H} some).1 (omega (arith, mul_comm W H)) in
    subst P (div-add-mod' i W) (h (i % W) (i / W) (mod-lt i some) ly)

module _ {A : Type 0} where
  get_d_count : (g : ℕ → A) (k n x : ℕ) (v : A) → x < n → get_or (map g (count_from k n)) x v ≡ g (k + x)
  get_d_count g k zero x v h = absurd (not-suc-le-zero h)
  get_d_count g k (suc n) zero v h = ap g (sym (add-zero k))
  get_d_count g k (suc n) (suc x) v h = get_d_count g (suc k) n x v (le_of_suc-le-suc h) ∙ ap g (suc-add k x ∙ sym (add-suc k x))

  get_d_rows : (g : ℕ → ℕ → A) (W b H x y : ℕ) (v : A) → x < W → y < H → get_or (flat (λ j. map (λ i. g i j) (up_to W)) (count_from b H)) (y * W + x) v ≡ g x (b + y)
  get_d_rows g W b zero x y v h k = absurd (not-suc-le-zero k)
  get_d_rows g W b (suc H) x zero v h k =
      ap (λ n. get_or (map (λ i. g i b) (up_to W) ++ flat (λ j. map (λ i. g i j) (up_to W)) (count_from (suc b) H)) n v) first
      ∙ get_or-append (map (λ i. g i b) (up_to W)) (flat (λ j. map (λ i. g i j) (up_to W)) (count_from (suc b) H)) v x
      (subst (λ n. x < n) (sym (length-map (up_to W) (λ i. g i b) ∙ length_count 0 W)) h)
      ∙ get_d_count (λ i. g i b) 0 W x v h ∙ ap₂ g (omega arith) (omega arith)
    where
      first : 0 * W + x ≡ x
      first = omega arith
  get_d_rows g W b (suc H) x (suc y) v h k =
      ap (λ n. get_or (map (λ i. g i b) (up_to W) ++ flat (λ j. map (λ i. g i j) (up_to W)) (count_from (suc b) H)) n v) next
      ∙ get_or-append-add (map (λ i. g i b) (up_to W)) (flat (λ j. map (λ i. g i j) (up_to W)) (count_from (suc b) H)) (y * W + x) v
      ∙ get_d_rows g W (suc b) H x y v h (le_of_suc-le-suc k) ∙ ap (g x) (suc-add b y ∙ sym (add-suc b y))
    where
      next : suc y * W + x ≡ length (map (λ i. g i b) (up_to W)) + (y * W + x)
      next = subst (λ n. suc y * W + x ≡ n + (y * W + x)) (sym (length-map (up_to W) (λ i. g i b) ∙ length_count 0 W)) (omega arith)

  pub get_d_cells : (W H : ℕ) (f : Point → A) (x y : ℕ) (v : A) → x < W → y < H → get_or (cells W H f) (y * W + x) v ≡ f (pos x, pos y)
  unfolding cells
  get_d_cells W H f x y v h k = get_d_rows (λ i j. f (pos i, pos j)) W 0 H x y v h k ∙ ap (λ n. f (pos x, pos n)) (omega arith)

  length_rows : (g : ℕ → ℕ → A) (W b H : ℕ) → length (flat (λ j. map (λ i. g i j) (up_to W)) (count_from b H)) ≡ H * W
  length_rows g W b zero = omega arith
  length_rows g W b (suc H) =
      length-append (map (λ i. g i b) (up_to W)) (flat (λ j. map (λ i. g i j) (up_to W)) (count_from (suc b) H))
      ∙ ap₂ ◌+◌ (length-map (up_to W) (λ i. g i b) ∙ length_count 0 W) (length_rows g W (suc b) H) ∙ omega arith

  pub length_cells : (W H : ℕ) (f : Point → A) → length (cells W H f) ≡ H * W
  unfolding cells
  length_cells W H f = length_rows (λ i j. f (pos i, pos j)) W 0 H

  cond_eq : (b : Bool) (x y z : A) → (T b → x ≡ z) → cond b x y ≡ cond b z y
  cond_eq true x y z f = f tt
  cond_eq false x y z f = refl

  view_z : (v : A) (W H : ℕ) (f : Point → A) (x y : ℤ) → value_at v W H (cells W H f) x y ≡ cond (inside_z W H x y) (f (x, y)) v
  unfolding value_at inside_z
  view_z v W H f (pos x) (pos y) = cond_eq (ltb x W && ltb y H) (get_or (cells W H f) (y * W + x) v) v (f (pos x, pos y)) (λ t.
      let u = (T_and (ltb x W) (ltb y H)).0 t in get_d_cells W H f x y v (ltb→lt x W u.0) (ltb→lt y H u.1))
  view_z v W H f (pos x) (negsuc y) = refl
  view_z v W H f (negsuc x) y = refl

  pub view_cells : (v : A) (W H : ℕ) (f : Point → A) (p : Point) → view v W H (cells W H f) p ≡ cond (inside W H p) (f p) v
  view_cells v W H f p = view_z v W H f p.0 p.1

  -- as many values as W × H are those of the picture that they are
  pub cells_view : (v : A) (W H : ℕ) (l : List A) → length l ≡ W * H → cells W H (view v W H l) ≡ l
  unfolding value_at
  cells_view v W H l e =
      ext_get_or v (cells W H F) l (size ∙ sym e)
      (λ i h. at_places W H (λ k. get_or (cells W H F) k v ≡ get_or l k v) (λ x y a b. get_d_cells W H F x y v a b ∙ here x y a b) i (subst (λ n. i < n) size h))
    where
      F : Point → A
      F = view v W H l

      size : length (cells W H F) ≡ W * H
      size = length_cells W H F ∙ mul_comm H W

      here : (x y : ℕ) → x < W → y < H → F (pos x, pos y) ≡ get_or l (y * W + x) v
      here x y a b = ap (λ t. cond t (get_or l (y * W + x) v) v) (T_true (ltb x W && ltb y H) ((T_and (ltb x W) (ltb y H)).1 (lt→ltb x W a, lt→ltb y H b)))

  -- what stands past the rows of values is not read
  pub view_starts : (v : A) (W H : ℕ) (g r : List A) → W * H ≤ length g → (p : Point) → view v W H (g ++ r) p ≡ view v W H g p
  unfolding value_at
  view_starts v W H g r h p = go p.0 p.1
    where
      place : (x y : ℕ) → x < W → y < H → y * W + x < W * H
      place x y j k = let m = mul-le-mul_right {m = suc y} {n = H} W k in omega (arith, mul_comm W H)

      go : (x y : ℤ) → value_at v W H (g ++ r) x y ≡ value_at v W H g x y
      go (pos x) (pos y) = cond_eq (ltb x W && ltb y H) (get_or (g ++ r) (y * W + x) v) v (get_or g (y * W + x) v) (λ t.
          let u = (T_and (ltb x W) (ltb y H)).0 t in
          let l = place x y (ltb→lt x W u.0) (ltb→lt y H u.1) in
          get_or-append g r v (y * W + x) (omega arith))
      go (pos x) (negsuc y) = refl
      go (negsuc x) y = refl

  -- a picture that is v outside loses nothing
  abbrev pub Within : A → ℕ → ℕ → (Point → A) → Type 0
  Within v W H f = (p : Point) → T (not (inside W H p)) → f p ≡ v

  pub view_outside : (v : A) (W H : ℕ) (l : List A) → Within v W H (view v W H l)
  unfolding value_at inside_z
  view_outside v W H l p t = go p.0 p.1 t
    where
      go : (x y : ℤ) → T (not (inside_z W H x y)) → value_at v W H l x y ≡ v
      go (pos x) (pos y) t = cond_ind (ltb x W && ltb y H) (get_or l (y * W + x) v) v (λ a. a ≡ v) (λ u. absurd (clash (ltb x W && ltb y H) t u)) (λ u. refl)
      go (pos x) (negsuc y) t = refl
      go (negsuc x) y t = refl

  cond_same : (b : Bool) (x y : A) → (T (not b) → x ≡ y) → cond b x y ≡ x
  cond_same true x y f = refl
  cond_same false x y f = sym (f tt)

  pub view_within : (v : A) (W H : ℕ) (f : Point → A) → Within v W H f → (p : Point) → view v W H (cells W H f) p ≡ f p
  view_within v W H f w p = view_cells v W H f p ∙ cond_same (inside W H p) (f p) v (w p)

-- a point inside, moved by a cell no farther than the edges are
inside_z_add : (M N W H a b : ℕ) → M + a ≤ W → N + b ≤ H → (x y : ℤ) → T (inside_z M N x y) → T (inside_z W H (x +ℤ pos a) (y +ℤ pos b))
unfolding inside_z
inside_z_add M N W H a b h k (pos x) (pos y) t =
    let u = (T_and (ltb x M) (ltb y N)).0 t in
    let l = ltb→lt x M u.0 in
    let m = ltb→lt y N u.1 in
    (T_and (ltb (x + a) W) (ltb (y + b) H)).1 (lt→ltb (x + a) W (omega arith), lt→ltb (y + b) H (omega arith))
inside_z_add M N W H a b h k (pos x) (negsuc y) t = absurd t
inside_z_add M N W H a b h k (negsuc x) y t = absurd t

pub inside_add : (M N W H a b : ℕ) → M + a ≤ W → N + b ≤ H → (p : Point) → T (inside M N p) → T (inside W H (p +ᵖ (pos a, pos b)))
unfolding ◌+ᵖ◌
inside_add M N W H a b h k p t = inside_z_add M N W H a b h k p.0 p.1 t

-- inside, if after a move along y the column fits, and after a move along x the row
col_ok : ℕ → ℤ → Bool
col_ok W (pos x) = ltb x W
col_ok W (negsuc x) = false

split : (W H : ℕ) (x y : ℤ) → T (inside_z W H x y) ↔ (T (col_ok W x) × T (col_ok H y))
unfolding inside_z col_ok
split W H (pos x) (pos y) = T_and (ltb x W) (ltb y H)
split W H (pos x) (negsuc y) = (λ t. absurd t, λ t. t.1)
split W H (negsuc x) y = (λ t. absurd t, λ t. absurd t.0)

-- where both p + (0, b) and p + (a, 0) are inside, so is p
pub inside_both : (W H a b : ℕ) (p : Point) → T (inside W H (p +ᵖ (pos 0, pos b))) → T (inside W H (p +ᵖ (pos a, pos 0))) → T (inside W H p)
unfolding ◌+ᵖ◌
inside_both W H a b p t u =
    (split W H p.0 p.1).1 (
      subst (λ z. T (col_ok W z)) (+ℤ_idr p.0) ((split W H (p.0 +ℤ pos 0) (p.1 +ℤ pos b)).0 t).0,
      subst (λ z. T (col_ok H z)) (+ℤ_idr p.1) ((split W H (p.0 +ℤ pos a) (p.1 +ℤ pos 0)).0 u).1,
    )
