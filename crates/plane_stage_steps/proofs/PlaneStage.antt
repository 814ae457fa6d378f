-- The passes of a mask's rows and the bounds together: what the plane read shows, the plane written shows after the stage.
use mathlib.Core.Path.{◌≡◌, refl, sym, ap, ◌∙◌}
use mathlib.Core.Logic.{⊎_elim}
use mathlib.Core.Bool.{Bool, true, false, cond}
use mathlib.Core.List.{List}
use Prim.Native.Nat.{ℕ, ◌+◌, ◌-◌, ◌*◌, ◌/◌, ◌%◌, ◌<◌, ◌≤◌, min, max}
use native.Mathlib.Nat.{add-mul, mul-le-mul_right}
use native.Mathlib.Omega.{arith}
use lib.Dec.{ltb}
use lib.IntN.{ℤ, pos, negsuc, ◌-ℤ◌}
use lib.ListN.{length, get_or, get_or-eq_default}
use borrow.Author.Tests.{lt-ltb, le-ltb}
use borrow.Rule.Slice.PartMut.{mid_of, put_mid, mid_len}
use Rattle.plane.specs.Point.{Point, ◌+ᵖ◌, negᵖ, ◌-ᵖ◌}
use Rattle.plane.proofs.Integer.{diff_ge, diff_lt}
use Rattle.plane.proofs.Tests.{lt_or_le}
use Rattle.masks.specs.Mask.{mask_points}
use Rattle.grids.specs.Image.{dilated, eroded}
use Rattle.planes.specs.Bits.{bit_pick, bit_seed}
use Rattle.planes.proofs.Levels.{or_laws, and_laws}
use Rattle.rows.specs.Cells.{bit}
use Rattle.ranges.specs.Ranges.{Ranged}
use Rattle.ranges.proofs.Ranges.{ranged_part}
use Rattle.planes.specs.MaskBits.{over_bits}
use Rattle.planes.specs.Planes.{byte_rows, last_rows, plane_size, bit_seen, Shows, after_stage, PlaneTaken}
use Rattle.planes.proofs.MaskBits.{mask_fold, bit_point, over_ap}
use Rattle.planes.proofs.WholeBytes.{one_value}
use Rattle.planes.proofs.Views.{after_above, after_side, after_under, after_in}
use Rattle.plane_row_steps.specs.MaskRows.{step_of, Rowed}
use Rattle.plane_stage_steps.specs.Bounds.{Bounded}

-- ---- the stage

-- the point that is read, as the plane counts and as the picture does
ahead_point : (x i n : ℕ) → n ≤ x → pos (x + i) -ℤ pos n ≡ pos (x - n + i)
ahead_point x i n h = diff_ge (x + i) n (omega arith) ∙ ap pos (omega arith)

back_point : (x i n : ℕ) → n ≤ x → i ≤ x → pos (x - i) -ℤ pos n ≡ pos (x - n) -ℤ pos i
back_point x i n h l = ⊎_elim
    (λ (u : x - i < n). diff_lt (x - i) n u ∙ ap negsuc (omega arith) ∙ sym (diff_lt (x - n) i (omega arith)))
    (λ (u : n ≤ x - i). diff_ge (x - i) n u ∙ ap pos (omega arith) ∙ sym (diff_ge (x - n) i (omega arith)))
    (lt_or_le (x - i) n)

module _ (C R m : ℕ) (p : List ℕ) (f : Point → ℕ) (h : Shows C R f p) (x y : ℕ) (lx : 2 ≤ x) (hx : x < C + 2) (ly : 8 ≤ y) (hy : y < R + 8) where
  read : (X Y : ℕ) → X < C + 4 → Y < byte_rows R * 8 + 16 → bit_seen (C + 2) p X Y ≡ f (pos X -ℤ pos 2, pos Y -ℤ pos 8)
  read = h.at

  stage_ahead : over_bits (bit_pick true) (bit_seed true) (λ b. bit_seen (C + 2) p (x + b % 3) (y + b / 3)) m 9
      ≡ eroded min 1 (mask_points m) f (pos (x - 2), pos (y - 8))
  unfolding ◌+ᵖ◌
  stage_ahead = over_ap min 1 (λ b. bit_seen (C + 2) p (x + b % 3) (y + b / 3)) (λ b. f ((pos (x - 2), pos (y - 8)) +ᵖ bit_point b)) m 9
      (λ b l. read (x + b % 3) (y + b / 3) (omega arith) (omega arith)
      ∙ ap (λ (a : ℤ). f (a, pos (y + b / 3) -ℤ pos 8)) (ahead_point x (b % 3) 2 lx)
      ∙ ap (λ (a : ℤ). f (pos (x - 2 + b % 3), a)) (ahead_point y (b / 3) 8 ly))
      ∙ sym (mask_fold min 1 and_laws (λ a. f ((pos (x - 2), pos (y - 8)) +ᵖ a)) m)

  stage_back : over_bits (bit_pick false) (bit_seed false) (λ b. bit_seen (C + 2) p (x - b % 3) (y - b / 3)) m 9
      ≡ dilated max 0 (mask_points m) f (pos (x - 2), pos (y - 8))
  unfolding ◌+ᵖ◌ negᵖ
  stage_back = over_ap max 0 (λ b. bit_seen (C + 2) p (x - b % 3) (y - b / 3)) (λ b. f ((pos (x - 2), pos (y - 8)) -ᵖ bit_point b)) m 9
      (λ b l. read (x - b % 3) (y - b / 3) (omega arith) (omega arith)
      ∙ ap (λ (a : ℤ). f (a, pos (y - b / 3) -ℤ pos 8)) (back_point x (b % 3) 2 lx (omega arith))
      ∙ ap (λ (a : ℤ). f (pos (x - 2) -ℤ pos (b % 3), a)) (back_point y (b / 3) 8 ly (omega arith)))
      ∙ sym (mask_fold max 0 or_laws (λ a. f ((pos (x - 2), pos (y - 8)) -ᵖ a)) m)

  stage_cell : (erode : Bool) (v : ℕ)
      → over_bits (bit_pick erode) (bit_seed erode) (λ b. bit_seen (C + 2) p (step_of erode x (b % 3)) (step_of erode y (b / 3))) m 9
      ≡ after_stage erode v C R m f (pos x -ℤ pos 2, pos y -ℤ pos 8)
  stage_cell true v = stage_ahead ∙ sym (after_in true v C R m f x y lx hx ly hy)
  stage_cell false v = stage_back ∙ sym (after_in false v C R m f x y lx hx ly hy)

-- ---- the bytes

-- the passes' cells, in the image that they are lent a part of
module _ (erode : Bool) (s n m : ℕ) (p d ys : List ℕ) (h : 2 ≤ s) (one : s ≤ n * s) (room : n * s + s ≤ length d)
    (r : Rowed erode s m p (mid_of (s + 2) (n * s + s - (s + 2)) d) ys) where
  past : (k : ℕ) → length (mid_of (s + 2) (n * s + s - (s + 2)) d) ≤ k → get_or ys k 0 ≡ get_or (mid_of (s + 2) (n * s + s - (s + 2)) d) k 0
  past k l = get_or-eq_default ys 0 (omega (arith, r.len)) ∙ sym (get_or-eq_default (mid_of (s + 2) (n * s + s - (s + 2)) d) 0 l)

  pub part : Ranged 0 (s + 2) (n * s + s) (λ k. get_or ys (k - (s + 2)) 0) d (put_mid (s + 2) (n * s + s - (s + 2)) d ys)
  part =
      ranged_part {f = λ (k : ℕ). get_or ys k 0} {xs = d} {ys = ys} (omega arith) room
      (record { len = r.len; at = λ k l u. refl; below = λ k l. absurd (omega arith); above = past })

  pub part_cell : (x y : ℕ) → 2 ≤ x → 8 ≤ y → y / 8 * s + x < n * s + s
      → bit_seen s (put_mid (s + 2) (n * s + s - (s + 2)) d ys) x y
      ≡ over_bits (bit_pick erode) (bit_seed erode) (λ b. bit_seen s p (step_of erode x (b % 3)) (step_of erode y (b / 3))) m 9
  unfolding bit_seen
  part_cell x y lx ly l =
      let a : 1 * s ≤ y / 8 * s = mul-le-mul_right s (omega arith) in
      ap (λ (i : ℕ). bit i (y % 8)) (part.at (y / 8 * s + x) (omega arith) l)
      ∙ r.at x y lx ly (omega (arith, mid_len (s + 2) (n * s + s) d room))

module _ (erode : Bool) (v C R m : ℕ) (p mid d' : List ℕ) (hv : v ≤ 1) (hR : 0 < R)
    (made : (x y : ℕ) → 2 ≤ x → 8 ≤ y → y / 8 * (C + 2) + x < byte_rows R * (C + 2) + (C + 2)
    → bit_seen (C + 2) mid x y ≡ over_bits (bit_pick erode) (bit_seed erode) (λ b. bit_seen (C + 2) p (step_of erode x (b % 3)) (step_of erode y (b / 3))) m 9)
    (b : Bounded (C + 2) (byte_rows R) (last_rows R) (v * 255) mid d') (f : Point → ℕ) (h : Shows C R f p) (x y : ℕ) (lx : x < C + 4) where
  -- a byte that was bounded shows the value outside
  as_value : get_or d' (y / 8 * (C + 2) + x) 0 ≡ v * 255 → bit_seen (C + 2) d' x y ≡ v
  unfolding bit_seen
  as_value e = ap (λ (i : ℕ). bit i (y % 8)) e ∙ one_value v (y % 8) hv (omega arith)

  as_made : 2 ≤ x → x < C + 2 → 8 ≤ y → y < R + 8 → bit_seen (C + 2) mid x y ≡ after_stage erode v C R m f (pos x -ℤ pos 2, pos y -ℤ pos 8)
  as_made u w t l =
      let a : y / 8 * (C + 2) ≤ byte_rows R * (C + 2) = mul-le-mul_right (C + 2) (omega arith) in
      made x y u t (omega arith) ∙ stage_cell C R m p f h x y u w t l erode v

  above_all : y < 8 → bit_seen (C + 2) d' x y ≡ after_stage erode v C R m f (pos x -ℤ pos 2, pos y -ℤ pos 8)
  above_all t =
      let z : y / 8 ≡ 0 = omega arith in
      as_value (b.over (y / 8 * (C + 2) + x) (omega (arith, ap (λ (i : ℕ). i * (C + 2)) z))) ∙ sym (after_above erode v C R m f x y t)

  under_all : byte_rows R * 8 + 8 ≤ y → y < byte_rows R * 8 + 16 → bit_seen (C + 2) d' x y ≡ after_stage erode v C R m f (pos x -ℤ pos 2, pos y -ℤ pos 8)
  under_all t t' =
      let z : y / 8 ≡ byte_rows R + 1 = omega arith in
      as_value
      (b.under (y / 8 * (C + 2) + x) (omega (arith, ap (λ (i : ℕ). i * (C + 2)) z))
      (omega (arith, ap (λ (i : ℕ). i * (C + 2)) z, add-mul (byte_rows R) 1 (C + 2), add-mul (byte_rows R) 2 (C + 2))))
      ∙ sym (after_under erode v C R m f x y (omega arith))

  left_side : 8 ≤ y → y < byte_rows R * 8 + 8 → x < 2 → bit_seen (C + 2) d' x y ≡ after_stage erode v C R m f (pos x -ℤ pos 2, pos y -ℤ pos 8)
  left_side t t' u = as_value (b.side (y / 8) x (omega arith) (omega arith) u) ∙ sym (after_side erode v C R m f x y t (λ w w'. omega arith))

  right_side : 8 ≤ y → y < byte_rows R * 8 + 8 → C + 2 ≤ x → bit_seen (C + 2) d' x y ≡ after_stage erode v C R m f (pos x -ℤ pos 2, pos y -ℤ pos 8)
  right_side t t' u =
      let a = add-mul (y / 8) 1 (C + 2) in
      let i : y / 8 * (C + 2) + x ≡ (y / 8 + 1) * (C + 2) + (x - (C + 2)) = omega arith in
      as_value (ap (λ (k : ℕ). get_or d' k 0) i ∙ ⊎_elim
      (λ (w : y / 8 < byte_rows R). b.side (y / 8 + 1) (x - (C + 2)) (omega arith) (omega arith) (omega arith))
      (λ (w : byte_rows R ≤ y / 8).
      let z : y / 8 + 1 ≡ byte_rows R + 1 = omega arith in
      let e = ap (λ (k : ℕ). k * (C + 2)) z in
      b.under ((y / 8 + 1) * (C + 2) + (x - (C + 2))) (omega arith) (omega (arith, add-mul (byte_rows R) 1 (C + 2), add-mul (byte_rows R) 2 (C + 2))))
      (lt_or_le (y / 8) (byte_rows R)))
      ∙ sym (after_side erode v C R m f x y t (λ w w'. omega arith))

  unmoved : 8 ≤ y → y / 8 < byte_rows R → 2 ≤ x → x < C + 2 → bit_seen (C + 2) d' x y ≡ bit_seen (C + 2) mid x y
  unfolding bit_seen
  unmoved t t' u u' = ap (λ (i : ℕ). bit i (y % 8)) (b.inner (y / 8) x (omega arith) t' u u')

  inner_rows : 8 ≤ y → y / 8 < byte_rows R → 2 ≤ x → x < C + 2 → bit_seen (C + 2) d' x y ≡ after_stage erode v C R m f (pos x -ℤ pos 2, pos y -ℤ pos 8)
  inner_rows t t' u u' = unmoved t t' u u' ∙ as_made u u' t (omega arith)

  -- the last row of bytes, by whether it has the bit
  last_byte : y / 8 ≡ byte_rows R → 2 ≤ x → x < C + 2
      → bit_seen (C + 2) d' x y ≡ cond (ltb (y % 8) (last_rows R)) (bit_seen (C + 2) mid x y) (bit (v * 255) (y % 8))
  unfolding bit_seen
  last_byte z u u' = rw z (b.last x (y % 8) u u' (omega arith))

  last_row_lem : 8 ≤ y → y / 8 ≡ byte_rows R → 2 ≤ x → x < C + 2 → bit_seen (C + 2) d' x y ≡ after_stage erode v C R m f (pos x -ℤ pos 2, pos y -ℤ pos 8)
  last_row_lem t z u u' = last_byte z u u' ∙ ⊎_elim
      (λ (w : y % 8 < last_rows R). rw (lt-ltb (y % 8) (last_rows R) w) (as_made u u' t (omega arith)))
      (λ (w : last_rows R ≤ y % 8). rw (le-ltb (y % 8) (last_rows R) w)
      (one_value v (y % 8) hv (omega arith) ∙ sym (after_under erode v C R m f x y (omega arith))))
      (lt_or_le (y % 8) (last_rows R))

  between : 8 ≤ y → y < byte_rows R * 8 + 8 → 2 ≤ x → x < C + 2 → bit_seen (C + 2) d' x y ≡ after_stage erode v C R m f (pos x -ℤ pos 2, pos y -ℤ pos 8)
  between t t' u u' =
      ⊎_elim (λ (w : y / 8 < byte_rows R). inner_rows t w u u') (λ (w : byte_rows R ≤ y / 8). last_row_lem t (omega arith) u u') (lt_or_le (y / 8) (byte_rows R))

  pub shown_at : y < byte_rows R * 8 + 16 → bit_seen (C + 2) d' x y ≡ after_stage erode v C R m f (pos x -ℤ pos 2, pos y -ℤ pos 8)
  shown_at l = ⊎_elim
      (λ (t : y < 8). above_all t)
      (λ (t : 8 ≤ y). ⊎_elim
      (λ (t' : y < byte_rows R * 8 + 8). ⊎_elim
      (λ (u : x < 2). left_side t t' u)
      (λ (u : 2 ≤ x). ⊎_elim (λ (u' : x < C + 2). between t t' u u') (λ (u' : C + 2 ≤ x). right_side t t' u') (lt_or_le x (C + 2)))
      (lt_or_le x 2))
      (λ (t' : byte_rows R * 8 + 8 ≤ y). under_all t' l)
      (lt_or_le y (byte_rows R * 8 + 8)))
      (lt_or_le y 8)

-- both steps of a stage
module _ (erode : Bool) (v C R m : ℕ) (p d ys d' : List ℕ) (hv : v ≤ 1) (hR : 0 < R) (fits : plane_size C R ≤ length d)
    (r : Rowed erode (C + 2) m p (mid_of (C + 2 + 2) (byte_rows R * (C + 2) + (C + 2) - (C + 2 + 2)) d) ys)
    (b : Bounded (C + 2) (byte_rows R) (last_rows R) (v * 255) (put_mid (C + 2 + 2) (byte_rows R * (C + 2) + (C + 2) - (C + 2 + 2)) d ys) d') where
  one : C + 2 ≤ byte_rows R * (C + 2)
  one = let a : 1 * (C + 2) ≤ byte_rows R * (C + 2) = mul-le-mul_right (C + 2) (omega arith) in omega arith

  room : byte_rows R * (C + 2) + (C + 2) ≤ length d
  room = omega (arith, add-mul (byte_rows R) 2 (C + 2))

  pub plane_taken : PlaneTaken erode v C R m p d d'
  plane_taken =
      let q = part erode (C + 2) (byte_rows R) m p d ys (omega arith) one room r in record {
        kept = record {
          len = b.len ∙ q.len;
          past = λ k l. b.past k l ∙ q.above k (omega (arith, add-mul (byte_rows R) 2 (C + 2)));
        };
        shown = λ f h. record {
          size = omega (arith, b.len, q.len);
          at = λ x y lx ly. shown_at erode v C R m p (put_mid (C + 2 + 2) (byte_rows R * (C + 2) + (C + 2) - (C + 2 + 2)) d ys) d' hv hR
              (part_cell erode (C + 2) (byte_rows R) m p d ys (omega arith) one room r) b f h x y lx ly;
        };
      }
