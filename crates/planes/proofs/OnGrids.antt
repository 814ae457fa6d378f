-- Planes that show the levels of a grid: packing loses nothing of cells that pass ground 13, a stage gives the single stage, and what is cut out of the cells
-- of two planes is what is cut out of the grid that they show.
use mathlib.Core.Path.{◌≡◌, refl, sym, ap, ap₂, ◌∙◌, fun_ext}
use mathlib.Core.Logic.{⊎_elim}
use mathlib.Core.Bool.{Bool, true, false, cond}
use mathlib.Core.List.{List, [], ◌∷◌}
use Prim.Native.Nat.{ℕ, zero, suc, ◌+◌, ◌-◌, ◌*◌, ◌/◌, ◌%◌, ◌<◌, ◌≤◌}
use native.Mathlib.Nat.{add-mul, mul_comm, mul-le-mul_right, mul-le-mul_left}
use native.Mathlib.Omega.{arith}
use lib.Dec.{T}
use lib.IntN.{ℤ, pos, negsuc, ◌-ℤ◌}
use lib.ListN.{length, get_or, drop, length-map, length-drop}
use lib.Seq.{ext_get_or, get_or-drop}
use borrow.Author.Tests.{le-leb}
use Rattle.plane.specs.Point.{Point, ◌+ᵖ◌, negᵖ, ◌-ᵖ◌}
use Rattle.plane.proofs.Algebra.{+ᵖ_origin, subᵖ_cancel}
use Rattle.plane.proofs.Integer.{diff_ge}
use Rattle.plane.proofs.Tests.{lt_or_le}
use Rattle.grids.specs.Image.{value_at, view, cells}
use Rattle.masks.specs.Mask.{mask_points}
use Rattle.rows.specs.Cells.{bit}
use Rattle.grids.specs.Frame.{over, grid_size}
use Rattle.grids.specs.Grid.{outside_of, corner, grid_bytes, put, once}
use Rattle.grids.specs.declared.Around.{Around}
use Rattle.grids.specs.declared.Around.TheVariants.{Free, Occupied}
use Rattle.grids.proofs.Stage.{once_bytes, outside_low}
use Rattle.grids.proofs.Putting.{put_bytes}
use Rattle.grids.proofs.Pictures.{inside, get_d_cells, length_cells, view_cells}
use Rattle.grids.proofs.Values.{Upto}
use Rattle.ranges.proofs.FlatRows.{flat_lt}
use Rattle.ranges.proofs.Values.{value_in, value_right, value_under, value_left, value_above}
use Rattle.cuts.specs.Cuts.{cut_out}
use Rattle.planes.specs.Planes.{byte_rows, plane_size, bit_seen, Shows, PlaneOnly, level_bits, place_of, far_of, pack_fits, after_stage, stage_fits, held_at}
use Rattle.planes.specs.Planes.{plane_cells, unpack_fits}
use Rattle.planes.specs.Bits.{bits_over, level, level_bit, of_levels}
use Rattle.planes.proofs.Levels.{level_low, level_is, of_levels_lem, over_level}

pub level_size : (some : Bool) (f : List ℕ) → length (level_bits some f) ≡ length f
level_size some f = length-map f (level_bit some)

pub level_at : (some : Bool) (f : List ℕ) (k : ℕ) → get_or (level_bits some f) k 0 ≡ level_bit some (get_or f k 0)
level_at true [] k = refl
level_at false [] k = refl
level_at some (c ∷ f) zero = refl
level_at some (c ∷ f) (suc k) = level_at some f k

-- one level of cells that no ground refuses is packed whole, whatever stands past them
pub level_view : (some : Bool) (v C R : ℕ) (g : List ℕ) → v ≤ 1 → C * R ≤ length g → ((k : ℕ) → k < C * R → get_or g k 0 ≤ 2)
    → view v C R (level_bits some g) ≡ (λ p. level some (view v C R g p))
level_view some v C R g lv fits low = fun_ext (λ p. go p.0 p.1)
  where
    long : C * R ≤ length (level_bits some g)
    long = omega (arith, level_size some g)

    out : level some v ≡ v
    out = level_low some v lv

    cell : (x y : ℕ) → x < C → y < R → get_or (level_bits some g) (y * C + x) 0 ≡ level some (get_or g (y * C + x) 0)
    cell x y u t = level_at some g (y * C + x) ∙ level_is some (get_or g (y * C + x) 0) (low (y * C + x) (flat_lt C R x y u t))

    go : (a b : ℤ) → value_at v C R (level_bits some g) a b ≡ level some (value_at v C R g a b)
    go (pos x) (pos y) = ⊎_elim
        (λ (u : x < C). ⊎_elim
        (λ (t : y < R).
        value_in v (level_bits some g) C R long x y u t ∙ cell x y u t ∙ ap (level some) (sym (value_in v g C R fits x y u t)))
        (λ (t : R ≤ y). value_under v (level_bits some g) C R x y u t ∙ sym (ap (level some) (value_under v g C R x y u t) ∙ out))
        (lt_or_le y R))
        (λ (u : C ≤ x). value_right v (level_bits some g) C R x y u ∙ sym (ap (level some) (value_right v g C R x y u) ∙ out))
        (lt_or_le x C)
    go (pos x) (negsuc y) = value_above v (level_bits some g) C R x y ∙ sym (ap (level some) (value_above v g C R x y) ∙ out)
    go (negsuc x) b = value_left v (level_bits some g) C R x b ∙ sym (ap (level some) (value_left v g C R x b) ∙ out)

-- a stage on a plane that shows a level of a picture: what it shows is that level of the picture after the stage
pub after_level : (some erode : Bool) (v C R m : ℕ) (f : Point → ℕ) → v ≤ 1
    → after_stage erode v C R m (λ p. level some (f p)) ≡ (λ p. level some (view v C R (cells C R (over erode (mask_points m) f)) p))
unfolding after_stage
after_level some erode v C R m f lv = fun_ext (λ p.
    view_cells v C R (bits_over erode (mask_points m) (λ q. level some (f q))) p
    ∙ at (inside C R p) (bits_over erode (mask_points m) (λ q. level some (f q)) p) (over erode (mask_points m) f p)
    (sym (over_level some erode (mask_points m) f p))
    ∙ ap (level some) (sym (view_cells v C R (over erode (mask_points m) f) p)))
  where
    at : (b : Bool) (x y : ℕ) → x ≡ level some y → cond b x v ≡ level some (cond b y v)
    at true x y e = e
    at false x y e = sym (level_low some v lv)

-- a stage on a plane that shows a level of a grid
pub after_once : (some erode : Bool) (k : Around) (W H m : ℕ) (g : List ℕ)
    → after_stage erode (outside_of k) (W + 15) (H + 15) m (λ p. level some (grid_bytes k W H g p)) ≡ (λ p. level some (grid_bytes k W H (once erode k W H m g) p))
after_once some erode k W H m g =
    after_level some erode (outside_of k) (W + 15) (H + 15) m (grid_bytes k W H g) (outside_low k)
    ∙ ap (λ l p. level some (grid_bytes k W H l p)) (sym (once_bytes erode k W H m g))

-- a frame that is packed at the place of its kind of grid, as the grid that it is put into
far_corner : (k : Around) → (pos (place_of (far_of k)), pos (place_of (far_of k))) ≡ corner k
far_corner Free = refl
far_corner Occupied = refl

pub packed_grid : (some : Bool) (k : Around) (W H : ℕ) (f : List ℕ) → W * H ≤ length f → ((i : ℕ) → get_or f i 0 ≤ 2)
    → let place : Point = (pos (place_of (far_of k)), pos (place_of (far_of k))) in
    ◌≡◌ {A = Point → ℕ} (λ p. view (outside_of k) W H (level_bits some f) (p -ᵖ place)) (λ p. level some (grid_bytes k W H (put k W H f) p))
packed_grid some k W H f fits low =
    let place : Point = (pos (place_of (far_of k)), pos (place_of (far_of k))) in
    ap {B = Point → ℕ} (λ g p. g (p -ᵖ place)) (level_view some (outside_of k) W H f (outside_low k) fits (λ i _. low i))
    ∙ ap {B = Point → ℕ} (λ s p. level some (view (outside_of k) W H f (p -ᵖ s))) (far_corner k)
    ∙ ap {B = Point → ℕ} (λ g p. level some (g p)) (sym (put_bytes k W H f))

-- and what is packed at the plane's own place stays where it is
pub near_place : (f : Point → ℕ) → (λ p. f (p -ᵖ (pos 0, pos 0))) ≡ f
unfolding negᵖ
near_place f = fun_ext (λ p. ap f (+ᵖ_origin p))

-- a plane takes no more bytes than its grid
pub plane_fits : (W H : ℕ) → plane_size (W + 15) (H + 15) ≤ grid_size W H
plane_fits W H =
    let C = W + 15 in
    let R = H + 15 in
    let n = byte_rows R + 2 in
    let a : (n + n) * C ≤ R * C = mul-le-mul_right C (omega arith) in
    let b : n * 15 ≤ n * C = mul-le-mul_left n (omega arith) in
    let c = add-mul n n C in
    let e : n * (C + 2) ≡ n * C + n * 2 = mul_comm n (C + 2) ∙ add-mul C 2 n ∙ ap₂ (λ (x y : ℕ). x + y) (mul_comm C n) (mul_comm 2 n) in
    omega (arith, mul_comm R C)

-- and so do two, one behind the other
pub planes_fit : (W H : ℕ) → plane_size (W + 15) (H + 15) + plane_size (W + 15) (H + 15) ≤ grid_size W H
planes_fit W H =
    let C = W + 15 in
    let R = H + 15 in
    let n = byte_rows R + 2 in
    let m = R - (n + n) in
    let r : R ≡ n + n + m = omega arith in
    let a : R * C ≡ (n + n) * C + m * C = ap (λ (x : ℕ). x * C) r ∙ add-mul (n + n) m C in
    let b : m * 15 ≤ m * C = mul-le-mul_left m (omega arith) in
    let c = add-mul n n C in
    let e : n * (C + 2) ≡ n * C + n * 2 = mul_comm n (C + 2) ∙ add-mul C 2 n ∙ ap₂ (λ (x y : ℕ). x + y) (mul_comm C n) (mul_comm 2 n) in
    let l : 4 * n + 4 ≤ m * 15 = omega arith in
    omega (arith, mul_comm R C)

-- so what is kept past the plane is kept past the grid
pub kept_drop : (W H : ℕ) {d d' : List ℕ} → PlaneOnly (W + 15) (H + 15) d d' → drop (grid_size W H) d' ≡ drop (grid_size W H) d
kept_drop W H {d} {d'} k =
    ext_get_or 0 (drop (grid_size W H) d') (drop (grid_size W H) d) (omega (arith, length-drop (grid_size W H) d', length-drop (grid_size W H) d, k.len))
    (λ i l. get_or-drop (grid_size W H) d' i 0 ∙ k.past (grid_size W H + i) (omega (arith, plane_fits W H)) ∙ sym (get_or-drop (grid_size W H) d i 0))

-- what works on the grid of a frame that ground 11 passes finds that sizes fit
module _ (W H : ℕ) (lw : W ≤ 240) (lh : H ≤ 240) where
  pub grid_pack : (v : ℕ) (far : Bool) (w h n k : ℕ) → v ≤ 1 → w + place_of far ≤ W + 15 → h + place_of far ≤ H + 15 → w * h ≤ n
      → plane_size (W + 15) (H + 15) ≤ k
      → T (pack_fits v far w h (W + 15) (H + 15) n k)
  grid_pack v far w h n k lv hw hh hn hk =
      rw (
        le-leb 1 (H + 15) (omega arith),
        le-leb (W + 15) 65535 (omega arith),
        le-leb (H + 15) 65535 (omega arith),
        le-leb v 1 lv,
        le-leb (w + place_of far) (W + 15) hw,
        le-leb (h + place_of far) (H + 15) hh,
        le-leb (w * h) n hn,
        le-leb (plane_size (W + 15) (H + 15)) k hk,
      ) tt

  pub grid_stage : (v n k : ℕ) → v ≤ 1 → plane_size (W + 15) (H + 15) ≤ n → plane_size (W + 15) (H + 15) ≤ k → T (stage_fits v (W + 15) (H + 15) n k)
  grid_stage v n k lv hn hk =
      rw (
        le-leb 1 (H + 15) (omega arith),
        le-leb (W + 15) 65535 (omega arith),
        le-leb (H + 15) 65535 (omega arith),
        le-leb v 1 lv,
        le-leb (plane_size (W + 15) (H + 15)) n hn,
        le-leb (plane_size (W + 15) (H + 15)) k hk,
      ) tt

  pub grid_unpack : (o w h a b n k : ℕ) → o ≤ 65535 → w ≤ W + 15 → h ≤ H + 15 → a ≤ 100 → b ≤ 100 → o + plane_size (W + 15) (H + 15) ≤ n → w * h ≤ k
      → T (unpack_fits o w h (W + 15) (H + 15) a b n k)
  grid_unpack o w h a b n k ho hw hh ha hb hn hk =
      rw (
        le-leb w 65535 (omega arith),
        le-leb h 65535 (omega arith),
        le-leb (W + 15) 65535 (omega arith),
        le-leb (H + 15) 65535 (omega arith),
        le-leb a 65535 (omega arith),
        le-leb b 65535 (omega arith),
        le-leb o 65535 ho,
        le-leb (o + plane_size (W + 15) (H + 15)) n hn,
        le-leb (w * h) k hk,
      ) tt

-- the cells of two planes
module _ (o C R : ℕ) (p : List ℕ) where
  pub held_size : length (plane_cells o C R p) ≡ C * R
  held_size = length_cells C R (λ q. of_levels (held_at C p q.0 q.1) (held_at C (drop o p) q.0 q.1)) ∙ mul_comm R C

  pub held_cell : (x y : ℕ) → x < C → y < R
      → get_or (plane_cells o C R p) (y * C + x) 0 ≡ of_levels (bit_seen (C + 2) p (x + 2) (y + 8)) (bit_seen (C + 2) (drop o p) (x + 2) (y + 8))
  unfolding held_at
  held_cell x y u t = get_d_cells C R (λ q. of_levels (held_at C p q.0 q.1) (held_at C (drop o p) q.0 q.1)) x y 0 u t

-- planes that show both levels of a grid have its cells
module _ (v o C R : ℕ) (g p : List ℕ) (one : Shows C R (λ q. level false (view v C R g q)) p) (some : Shows C R (λ q. level true (view v C R g q)) (drop o p))
    (low : Upto 2 (view v C R g)) where
  shown_bit : (l : Bool) (p : List ℕ) → Shows C R (λ q. level l (view v C R g q)) p → (x y : ℕ) → x < C → y < R
      → bit_seen (C + 2) p (x + 2) (y + 8) ≡ level l (value_at v C R g (pos x) (pos y))
  shown_bit l p h x y u t =
      let i : x + 2 - 2 ≡ x = omega arith in
      let j : y + 8 - 8 ≡ y = omega arith in
      h.at (x + 2) (y + 8) (omega arith) (omega arith)
      ∙ ap (λ (a : ℤ). level l (value_at v C R g a (pos (y + 8) -ℤ pos 8))) (diff_ge (x + 2) 2 (omega arith) ∙ ap pos i)
      ∙ ap (λ (b : ℤ). level l (value_at v C R g (pos x) b)) (diff_ge (y + 8) 8 (omega arith) ∙ ap pos j)

  shown_cell : (x y : ℕ) → x < C → y < R → get_or (plane_cells o C R p) (y * C + x) 0 ≡ value_at v C R g (pos x) (pos y)
  shown_cell x y u t =
      held_cell o C R p x y u t ∙ ap₂ of_levels (shown_bit false p one x y u t) (shown_bit true (drop o p) some x y u t)
      ∙ of_levels_lem (value_at v C R g (pos x) (pos y)) (low (pos x, pos y))

  same_value : (a b : ℤ) → value_at v C R (plane_cells o C R p) a b ≡ value_at v C R g a b
  same_value (pos x) (pos y) = ⊎_elim
      (λ (u : x < C). ⊎_elim
      (λ (t : y < R). value_in v (plane_cells o C R p) C R (omega (arith, held_size o C R p)) x y u t ∙ shown_cell x y u t)
      (λ (t : R ≤ y). value_under v (plane_cells o C R p) C R x y u t ∙ sym (value_under v g C R x y u t))
      (lt_or_le y R))
      (λ (u : C ≤ x). value_right v (plane_cells o C R p) C R x y u ∙ sym (value_right v g C R x y u))
      (lt_or_le x C)
  same_value (pos x) (negsuc y) = value_above v (plane_cells o C R p) C R x y ∙ sym (value_above v g C R x y)
  same_value (negsuc x) b = value_left v (plane_cells o C R p) C R x b ∙ sym (value_left v g C R x b)

  pub shown_cut : (W H a b : ℕ) → cut_out v W H C R a b (plane_cells o C R p) ≡ cut_out v W H C R a b g
  unfolding cut_out
  shown_cut W H a b = ap (cells W H) (fun_ext (λ q. let r = q +ᵖ (pos a -ℤ pos 15, pos b -ℤ pos 15) in same_value r.0 r.1))

-- every bit of a plane is within it
bit_within : (C R x y : ℕ) → x < C + 4 → y < byte_rows R * 8 + 16 → y / 8 * (C + 2) + x < plane_size C R
bit_within C R x y lx ly =
    let a : y / 8 * (C + 2) ≤ (byte_rows R + 1) * (C + 2) = mul-le-mul_right (C + 2) (omega arith) in
    omega (arith, add-mul (byte_rows R) 1 (C + 2), add-mul (byte_rows R) 2 (C + 2))

-- so bytes that are the same as a plane's are such a plane
pub shows_front : {C R : ℕ} {f : Point → ℕ} {p q : List ℕ} → length q ≡ length p → ((k : ℕ) → k < plane_size C R → get_or q k 0 ≡ get_or p k 0) → Shows C R f p
    → Shows C R f q
unfolding bit_seen
shows_front {C} {R} z same s = record {
  size = omega (arith, z, s.size);
  at = λ x y lx ly. ap (λ (n : ℕ). bit n (y % 8)) (same (y / 8 * (C + 2) + x) (bit_within C R x y lx ly)) ∙ s.at x y lx ly;
}

-- ---- every plane shows a picture, so that what is promised of a stage speaks of every plane

natural : ℤ → ℕ
natural (pos n) = n
natural (negsuc n) = 0

module _ (C R : ℕ) (p : List ℕ) where
  -- what stands at each point that the plane has a bit for
  pub plane_picture : Point → ℕ
  plane_picture q = let r = q +ᵖ (pos 2, pos 8) in bit_seen (C + 2) p (natural r.0) (natural r.1)

  pub every_plane : plane_size C R ≤ length p → Shows C R plane_picture p
  unfolding plane_picture natural ◌+ᵖ◌ negᵖ
  every_plane l = record {
    size = l;
    at = λ x y lx ly. ap (λ (r : Point). bit_seen (C + 2) p (natural r.0) (natural r.1)) (sym (subᵖ_cancel (pos x, pos y) (pos 2, pos 8)));
  }
