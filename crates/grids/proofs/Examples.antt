-- Worked cases of frames and grids: where the bounds lie, which ground comes first, and what the load, putting and the single stage give.
use mathlib.Core.Path.{◌≡◌, refl, ap}
use mathlib.Core.Logic.{◌⊎◌, inl, inr, ⊎_elim}
use mathlib.Core.Bool.{true, false}
use mathlib.Core.List.{List, [], ◌∷◌, ◌++◌}
use Prim.Native.Nat.{ℕ}
use native.Mathlib.Omega.{arith}
use lib.IntN.{pos, negsuc}
use lib.ListN.{take, drop, replicate}
use Rattle.plane.specs.Point.{◌+ᵖ◌, negᵖ}
use Rattle.words.specs.Ground.{first_of, stated, result, refusal}
use Rattle.words.specs.Ground.{Answer}
use Rattle.masks.specs.Mask.{mask_cells, stage}
use Rattle.grids.specs.Frame.{greater, lesser, frame_tests, load, LoadCounted}
use Rattle.grids.specs.Grid.{put_tests, work_tests, stage_tests, grid, put, once, FramePut, Staged}
use Rattle.grids.specs.Image.{cells, value_at}
use Rattle.grids.specs.Rules.{Greatest, Least}
use Rattle.grids.specs.declared.Around.TheVariants.{Free, Occupied}

-- ---- grounds

-- 240 columns pass, 241 give 11, before the length that isn't 241 × 1
side_240 : first_of (frame_tests 240 1 (replicate 240 0)) ≡ 0
unfolding frame_tests
side_240 = refl

side_241 : first_of (frame_tests 241 1 []) ≡ 11
unfolding frame_tests
side_241 = refl

-- no columns give 11, a wrong length comes before a cell above 2
side_0 : first_of (frame_tests 0 1 []) ≡ 11
unfolding frame_tests
side_0 = refl

length_first : first_of (frame_tests 2 1 (3 ∷ [])) ≡ 12
unfolding frame_tests
length_first = refl

-- a cell above 2 comes before an image that is too short
cell_first : first_of (put_tests 1 1 (3 ∷ []) []) ≡ 13
unfolding put_tests
cell_first = refl

image_255 : first_of (put_tests 1 1 (1 ∷ []) (replicate 255 7)) ≡ 14
unfolding put_tests
image_255 = refl

image_256 : first_of (put_tests 1 1 (1 ∷ []) (replicate 256 7)) ≡ 0
unfolding put_tests
image_256 = refl

-- a frame and two images: the frame's grounds in order, then either image
work_order : (first_of (work_tests 0 1 (3 ∷ []) [] []) ≡ 11) × (first_of (work_tests 2 1 (3 ∷ []) [] []) ≡ 12) × (first_of (work_tests 1 1 (3 ∷ []) [] []) ≡ 13)
unfolding work_tests
work_order = (refl, refl, refl)

work_images : (first_of (work_tests 1 1 (1 ∷ []) (replicate 255 7) (replicate 256 7)) ≡ 14)
    × (first_of (work_tests 1 1 (1 ∷ []) (replicate 256 7) (replicate 255 7)) ≡ 14)
unfolding work_tests
work_images = (refl, refl)

-- a single stage: a plan's place word, a bit too many, a mask that isn't normal, no columns, a byte above 2 as far as the image goes, two short images
stage_kind_lem : first_of (stage_tests 0x40000003 0 1 (3 ∷ []) []) ≡ 2
unfolding stage_tests
stage_kind_lem = refl

stage_bit : first_of (stage_tests 0x50000202 0 1 (3 ∷ []) []) ≡ 3
unfolding stage_tests
stage_bit = refl

stage_normal : first_of (stage_tests 0x50000002 0 1 (3 ∷ []) []) ≡ 7
unfolding stage_tests stage
stage_normal = refl

stage_size : first_of (stage_tests 0x50000003 0 1 (3 ∷ []) []) ≡ 11
unfolding stage_tests stage
stage_size = refl

stage_cell : first_of (stage_tests 0x50000003 1 1 (3 ∷ []) []) ≡ 13
unfolding stage_tests stage
stage_cell = refl

-- bytes past the grid are not looked at; both images count
stage_past : first_of (stage_tests 0x50000003 1 1 (replicate 256 0 ++ 3 ∷ []) (replicate 256 7)) ≡ 0
unfolding stage_tests stage
stage_past = refl

stage_first : first_of (stage_tests 0x50000003 1 1 (replicate 255 0) (replicate 256 7)) ≡ 14
unfolding stage_tests stage
stage_first = refl

stage_second : first_of (stage_tests 0x50000003 1 1 (replicate 256 0) (replicate 255 7)) ≡ 14
unfolding stage_tests stage
stage_second = refl

-- ---- what the calls give

-- cells that were not measured are not occupied
load_two : (load (1 ∷ 0 ∷ 1 ∷ []) ≡ 2) × (load (1 ∷ 2 ∷ 2 ∷ []) ≡ 1)
unfolding load
load_two = (refl, refl)

-- the values in order: 0, 2, 1
greater_of : (greater 0 2 ≡ 2) × (greater 2 1 ≡ 1) × (greater 1 0 ≡ 1) × (greater 2 2 ≡ 2)
greater_of = (refl, refl, refl, refl)

lesser_of : (lesser 0 2 ≡ 0) × (lesser 2 1 ≡ 2) × (lesser 1 0 ≡ 0) × (lesser 1 1 ≡ 1)
lesser_of = (refl, refl, refl, refl)

-- what the rules give where the covered cells are 0 and 2, and where they are 1 and 2
dilated_of_0_and_2 : (v : ℕ) → Greatest (λ n. (n ≡ 0) ⊎ (n ≡ 2)) v → v ≡ 2
dilated_of_0_and_2 v (inl h) = absurd (⊎_elim (λ e. omega arith) (λ e. omega arith) h.1)
dilated_of_0_and_2 v (inr (inl h)) = h.0
dilated_of_0_and_2 v (inr (inr h)) = absurd (h.2 (inr refl))

eroded_of_1_and_2 : (v : ℕ) → Least (λ n. (n ≡ 1) ⊎ (n ≡ 2)) v → v ≡ 2
eroded_of_1_and_2 v (inl h) = absurd (⊎_elim (λ e. omega arith) (λ e. omega arith) h.1)
eroded_of_1_and_2 v (inr (inl h)) = h.0
eroded_of_1_and_2 v (inr (inr h)) = absurd (h.2 (inr refl))

-- a frame of one cell: the rest of its grid, 16 columns and 16 rows, is 0
put_one : put Free 1 1 (1 ∷ []) ≡ 1 ∷ replicate 255 0
unfolding put cells value_at ◌+ᵖ◌ negᵖ
put_one = refl

-- row 0 first: the cell (1, 0) of a frame of two columns
put_row : take 2 (put Free 2 2 (0 ∷ 1 ∷ 0 ∷ 0 ∷ [])) ≡ 0 ∷ 1 ∷ []
unfolding put cells value_at ◌+ᵖ◌ negᵖ
put_row = refl

-- one occupied cell (1, 1), dilated and eroded by the mask of cells 0 and 1 of a row, and of cells 0 and 3 of a column
one_cell : List ℕ
one_cell = put Free 2 2 (0 ∷ 0 ∷ 0 ∷ 1 ∷ [])

dilated_row : take 3 (drop 17 (once false Free 2 2 3 one_cell)) ≡ 0 ∷ 1 ∷ 1 ∷ []
unfolding one_cell once put cells value_at mask_cells ◌+ᵖ◌ negᵖ
dilated_row = refl

dilated_column : take 3 (drop 34 (once false Free 2 2 9 one_cell)) ≡ 0 ∷ 1 ∷ 0 ∷ []
unfolding one_cell once put cells value_at mask_cells ◌+ᵖ◌ negᵖ
dilated_column = refl

eroded_free : take 3 (drop 17 (once true Free 2 2 3 one_cell)) ≡ 0 ∷ 0 ∷ 0 ∷ []
unfolding one_cell once put cells value_at mask_cells ◌+ᵖ◌ negᵖ
eroded_free = refl

-- two occupied cells (0, 1) and (1, 1) eroded by a row of two: the left one stays
eroded_row : take 3 (drop 17 (once true Free 2 2 3 (put Free 2 2 (0 ∷ 0 ∷ 1 ∷ 1 ∷ [])))) ≡ 1 ∷ 0 ∷ 0 ∷ []
unfolding once put cells value_at mask_cells ◌+ᵖ◌ negᵖ
eroded_row = refl

-- the value outside is read there: eroded with occupied cells outside, the last column of a full grid stays
outside_read : take 1 (drop 15 (once true Occupied 1 1 3 (replicate 256 1))) ≡ 1 ∷ []
unfolding once cells value_at mask_cells ◌+ᵖ◌ negᵖ
outside_read = refl

outside_free : take 1 (drop 15 (once true Free 1 1 3 (replicate 256 1))) ≡ 0 ∷ []
unfolding once cells value_at mask_cells ◌+ᵖ◌ negᵖ
outside_free = refl

-- 2 beside 0 and beside 1, in a grid of free cells: dilated it spreads over 0 and yields to 1, eroded it yields to 0 and comes over 1
dilated_unmeasured : take 4 (once false Free 1 1 3 (2 ∷ 1 ∷ replicate 254 0)) ≡ 2 ∷ 1 ∷ 1 ∷ 0 ∷ []
unfolding once cells value_at mask_cells ◌+ᵖ◌ negᵖ
dilated_unmeasured = refl

dilated_over_free : take 3 (once false Free 1 1 3 (2 ∷ replicate 255 0)) ≡ 2 ∷ 2 ∷ 0 ∷ []
unfolding once cells value_at mask_cells ◌+ᵖ◌ negᵖ
dilated_over_free = refl

eroded_unmeasured : take 3 (once true Free 1 1 3 (1 ∷ 2 ∷ 1 ∷ 1 ∷ replicate 252 0)) ≡ 2 ∷ 2 ∷ 1 ∷ []
unfolding once cells value_at mask_cells ◌+ᵖ◌ negᵖ
eroded_unmeasured = refl

eroded_to_free : take 2 (once true Free 1 1 3 (2 ∷ 0 ∷ replicate 254 1)) ≡ 0 ∷ 0 ∷ []
unfolding once cells value_at mask_cells ◌+ᵖ◌ negᵖ
eroded_to_free = refl

-- ---- the second kind of grid

-- a frame of one cell stands at its last byte, and all around it is occupied
put_around : put Occupied 1 1 (0 ∷ []) ≡ replicate 255 1 ++ 0 ∷ []
unfolding put cells value_at ◌+ᵖ◌ negᵖ
put_around = refl

-- dilated and eroded there: the free cell goes, or comes to stand one column to the left as well
dilated_around : once false Occupied 1 1 3 (put Occupied 1 1 (0 ∷ [])) ≡ replicate 256 1
unfolding once put cells value_at mask_cells ◌+ᵖ◌ negᵖ
dilated_around = refl

eroded_around : once true Occupied 1 1 3 (put Occupied 1 1 (0 ∷ [])) ≡ replicate 254 1 ++ 0 ∷ 0 ∷ []
unfolding once put cells value_at mask_cells ◌+ᵖ◌ negᵖ
eroded_around = refl

-- a grid of free cells dilated: beyond its first column the plane is occupied
dilated_from_outside : take 2 (once false Occupied 1 1 3 (replicate 256 0)) ≡ 1 ∷ 0 ∷ []
unfolding once cells value_at mask_cells ◌+ᵖ◌ negᵖ
dilated_from_outside = refl

-- the byte 16 × 15 + 15 is the plane cell (0, 0), the first is (−15, −15), and (1, 0) lies outside
grid_around : (grid Occupied 1 1 (replicate 255 1 ++ 0 ∷ []) (pos 0, pos 0) ≡ 0) × (grid Occupied 1 1 (0 ∷ replicate 255 1) (negsuc 14, negsuc 14) ≡ 0)
    × (grid Occupied 1 1 (replicate 256 0) (pos 1, pos 0) ≡ 1)
unfolding value_at ◌+ᵖ◌
grid_around = (refl, refl, refl)

-- ---- rows count as columns do, and grounds come in order in each call

side_high : (first_of (frame_tests 1 241 []) ≡ 11) × (first_of (frame_tests 1 0 []) ≡ 11)
unfolding frame_tests
side_high = (refl, refl)

-- one column and two rows: 16 × 17 bytes
image_oblong : (first_of (put_tests 1 2 (1 ∷ 0 ∷ []) (replicate 272 7)) ≡ 0) × (first_of (put_tests 1 2 (1 ∷ 0 ∷ []) (replicate 271 7)) ≡ 14)
unfolding put_tests
image_oblong = (refl, refl)

length_long : first_of (frame_tests 1 1 (0 ∷ 0 ∷ [])) ≡ 12
unfolding frame_tests
length_long = refl

cell_255 : first_of (frame_tests 1 1 (255 ∷ [])) ≡ 13
unfolding frame_tests
cell_255 = refl

-- 2 passes, and 3 is the first that does not
cell_2 : (first_of (frame_tests 1 1 (2 ∷ [])) ≡ 0) × (first_of (frame_tests 1 1 (3 ∷ [])) ≡ 13)
unfolding frame_tests
cell_2 = (refl, refl)

put_order : (first_of (put_tests 0 1 (3 ∷ []) []) ≡ 11) × (first_of (put_tests 2 1 (3 ∷ []) []) ≡ 12)
unfolding put_tests
put_order = (refl, refl)

stage_kind_first : first_of (stage_tests 0x40000200 0 1 (3 ∷ []) []) ≡ 2
unfolding stage_tests
stage_kind_first = refl

-- ---- what each call answers and leaves

counts : (r : Answer) → LoadCounted 4 1 (1 ∷ 0 ∷ 2 ∷ 1 ∷ []) r → stated r ≡ result 2
unfolding frame_tests load
counts r p = p.done refl

counts_not : (r : Answer) → LoadCounted 2 1 (1 ∷ 3 ∷ []) r → stated r ≡ refusal 13
unfolding frame_tests
counts_not r p = (p.refused (λ e. let n : ◌≡◌ {A = ℕ} 13 0 = e in omega arith)).0

puts : (r : Answer) (i' : List ℕ) → FramePut Free 1 2 (0 ∷ 1 ∷ []) (replicate 273 7) r i'
    → (stated r ≡ result 0) × (i' ≡ replicate 16 0 ++ 1 ∷ replicate 255 0 ++ 7 ∷ [])
unfolding put_tests put cells value_at ◌+ᵖ◌ negᵖ
puts r i' p = ((p.done refl).answer, (p.done refl).image)

puts_not : (r : Answer) (i' : List ℕ) → FramePut Free 1 1 (3 ∷ []) (replicate 256 7) r i' → (stated r ≡ refusal 13) × (i' ≡ replicate 256 7)
unfolding put_tests
puts_not r i' p = p.refused (λ e. let n : ◌≡◌ {A = ℕ} 13 0 = e in omega arith)

stages_dilation : (r : Answer) (i' : List ℕ) → Staged false Free 0x50000003 1 1 (1 ∷ replicate 255 0) (replicate 257 7) r i'
    → (stated r ≡ result 0) × (i' ≡ 1 ∷ 1 ∷ replicate 254 0 ++ 7 ∷ [])
unfolding stage_tests stage once cells value_at mask_cells ◌+ᵖ◌ negᵖ
stages_dilation r i' p = ((p.done refl).answer, (p.done refl).image)

-- outside the grid cells are free: the last column of a full grid goes
stages_erosion : (r : Answer) (i' : List ℕ) → Staged true Free 0x50000003 1 1 (replicate 256 1) (replicate 256 7) r i'
    → take 17 i' ≡ replicate 15 1 ++ 0 ∷ 1 ∷ []
unfolding stage_tests stage once cells value_at mask_cells ◌+ᵖ◌ negᵖ
stages_erosion r i' p = ap (take 17) (p.done refl).image

stages_not : (r : Answer) (i' : List ℕ) → Staged true Free 0x50000003 1 1 (3 ∷ []) (replicate 256 7) r i' → (stated r ≡ refusal 13) × (i' ≡ replicate 256 7)
unfolding stage_tests stage
stages_not r i' p = p.refused (λ e. let n : ◌≡◌ {A = ℕ} 13 0 = e in omega arith)
