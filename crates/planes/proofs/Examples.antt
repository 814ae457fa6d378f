-- Worked cases: a picture of three columns and three rows as a plane, after a stage by dilation and by erosion, and unpacked.
use mathlib.Core.Path.{◌≡◌, refl}
use mathlib.Core.Bool.{Bool, true, false, ◌&&◌}
use mathlib.Core.Logic.{⊎_elim}
use mathlib.Core.List.{List, [], ◌∷◌, ◌++◌}
use Prim.Native.Nat.{ℕ, zero, suc, ◌+◌, ◌*◌, ◌<◌, ◌≤◌}
use native.Mathlib.Omega.{arith}
use lib.Dec.{T, eqb, eqb→eq}
use lib.IntN.{pos, ◌-ℤ◌}
use lib.ListN.{length, replicate}
use Rattle.plane.specs.Point.{Point, ◌+ᵖ◌, negᵖ}
use Rattle.plane.proofs.Tests.{T_and, lt_or_le}
use Rattle.masks.specs.Mask.{mask_cells}
use Rattle.grids.specs.Image.{view, cells, value_at}
use Rattle.cuts.specs.Cuts.{cut_out}
use Rattle.planes.specs.Bits.{of_levels}
use Rattle.planes.specs.Planes.{byte_rows, plane_size, bit_seen, Shows, pack_fits, level_bits, after_stage, stage_fits, held_at, plane_cells}

-- ---- whether a plane shows a picture, by computing

below : ℕ → (ℕ → Bool) → Bool
below zero p = true
below (suc n) p = below n p && p n

below_all : (n : ℕ) (p : ℕ → Bool) → T (below n p) → (k : ℕ) → k < n → T (p k)
unfolding below
below_all zero p t k l = absurd (omega arith)
below_all (suc n) p t k l =
    let u = (T_and (below n p) (p n)).0 t in
    ⊎_elim
    (λ (h : k < n). below_all n p u.0 k h)
    (λ (h : n ≤ k). let e : n ≡ k = omega arith in rw e at u.1)
    (lt_or_le k n)

shown : ℕ → ℕ → (Point → ℕ) → List ℕ → Bool
shown C R f p = below (C + 4) (λ x. below (byte_rows R * 8 + 16) (λ y. eqb (bit_seen (C + 2) p x y) (f (pos x -ℤ pos 2, pos y -ℤ pos 8))))

shows_by : (C R : ℕ) (f : Point → ℕ) (p : List ℕ) → plane_size C R ≤ length p → T (shown C R f p) → Shows C R f p
unfolding shown
shows_by C R f p l t = record {
  size = l;
  at = λ x y lx ly.
      eqb→eq (bit_seen (C + 2) p x y) (f (pos x -ℤ pos 2, pos y -ℤ pos 8))
      (below_all (byte_rows R * 8 + 16) (λ y. eqb (bit_seen (C + 2) p x y) (f (pos x -ℤ pos 2, pos y -ℤ pos 8)))
      (below_all (C + 4) (λ x. below (byte_rows R * 8 + 16) (λ y. eqb (bit_seen (C + 2) p x y) (f (pos x -ℤ pos 2, pos y -ℤ pos 8)))) t x lx) y ly);
}

-- ---- three columns and three rows

nine : List ℕ
nine = 1 ∷ 0 ∷ 1 ∷ 0 ∷ 1 ∷ 0 ∷ 0 ∷ 0 ∷ 1 ∷ []

-- one row of bytes, of which byte k has column k, between pads and guards
plane9 : List ℕ
plane9 = replicate 7 0 ++ 1 ∷ 2 ∷ 5 ∷ replicate 7 0

size_17 : plane_size 3 3 ≡ 17
size_17 = refl

-- packed
packed_9 : Shows 3 3 (view 0 3 3 nine) plane9
unfolding nine plane9 shown below bit_seen value_at
packed_9 = shows_by 3 3 (view 0 3 3 nine) plane9 (omega arith) tt

-- whether cells are 1, and whether they are not 0
levels_of : (level_bits false (2 ∷ 1 ∷ 0 ∷ []) ≡ 0 ∷ 1 ∷ 0 ∷ []) × (level_bits true (2 ∷ 1 ∷ 0 ∷ []) ≡ 1 ∷ 1 ∷ 0 ∷ [])
levels_of = (refl, refl)

-- and the cells from both
of_both : (of_levels 0 0 ≡ 0) × (of_levels 1 1 ≡ 1) × (of_levels 0 1 ≡ 2)
of_both = (refl, refl, refl)

-- dilated by cells 0 and 1 of a row: nothing is carried past the last column
dilated_9 : Shows 3 3 (after_stage false 0 3 3 3 (view 0 3 3 nine)) (replicate 7 0 ++ 1 ∷ 3 ∷ 7 ∷ replicate 7 0)
unfolding nine shown below bit_seen value_at after_stage cells mask_cells ◌+ᵖ◌ negᵖ
dilated_9 = shows_by 3 3 (after_stage false 0 3 3 3 (view 0 3 3 nine)) (replicate 7 0 ++ 1 ∷ 3 ∷ 7 ∷ replicate 7 0) (omega arith) tt

-- eroded by the same with 1 outside: the last column keeps what it has, and so do pads, guards and the rows below the third
eroded_9 : Shows 3 3 (after_stage true 1 3 3 3 (view 1 3 3 nine)) (replicate 7 255 ++ 248 ∷ 248 ∷ 253 ∷ replicate 7 255)
unfolding nine shown below bit_seen value_at after_stage cells mask_cells ◌+ᵖ◌ negᵖ
eroded_9 = shows_by 3 3 (after_stage true 1 3 3 3 (view 1 3 3 nine)) (replicate 7 255 ++ 248 ∷ 248 ∷ 253 ∷ replicate 7 255) (omega arith) tt

-- unpacked, whole and one column on
unpacked_9 : plane_cells 0 3 3 plane9 ≡ nine
unfolding nine plane9 bit_seen held_at cells
unpacked_9 = refl

-- with a second plane behind the first, whose cells the first has not: (1, 0) is 2
unpacked_two : plane_cells 17 3 3 (plane9 ++ (replicate 7 0 ++ 1 ∷ 3 ∷ 5 ∷ replicate 7 0)) ≡ 1 ∷ 2 ∷ 1 ∷ 0 ∷ 1 ∷ 0 ∷ 0 ∷ 0 ∷ 1 ∷ []
unfolding plane9 bit_seen held_at cells
unpacked_two = refl

unpacked_on : cut_out 0 3 3 3 3 16 15 (plane_cells 0 3 3 plane9) ≡ 0 ∷ 1 ∷ 0 ∷ 1 ∷ 0 ∷ 0 ∷ 0 ∷ 1 ∷ 0 ∷ []
unfolding plane9 bit_seen held_at cells cut_out value_at ◌+ᵖ◌
unpacked_on = refl

-- ---- sizes

fits_240 : (pack_fits 0 false 240 240 255 255 57600 65025 ≡ true) × (pack_fits 1 true 240 240 255 255 57600 65025 ≡ true)
fits_240 = (refl, refl)

two_outside : stage_fits 2 3 3 17 17 ≡ false
two_outside = refl

one_byte_short : stage_fits 1 3 3 17 16 ≡ false
one_byte_short = refl
