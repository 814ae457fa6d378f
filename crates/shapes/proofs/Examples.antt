-- Worked cases of shape and plan lists: which ground comes first, where the bounds lie, and how lists are written.
use mathlib.Core.Path.{◌≡◌, refl}
use mathlib.Core.List.{List, [], ◌∷◌, map}
use Prim.Native.Nat.{ℕ, ◌+◌, ◌*◌}
use native.Mathlib.Omega.{arith}
use lib.IntN.{pos, negsuc}
use lib.ListN.{replicate}
use Rattle.plane.specs.Lists.{up_to}
use Rattle.plane.specs.Point.{◌+ᵖ◌, negᵖ}
use Rattle.words.specs.Ground.{first_of, stated, result, refusal}
use Rattle.words.specs.Ground.{Answer}
use Rattle.shapes.specs.Calls.{moved_points, moving_tests, joining_tests, turning_tests, summed_points, joined_points, summing_tests, Moved, Joined}
use Rattle.shapes.specs.Calls.{Summed, TurnedBack}
use Rattle.shapes.specs.Listed.{listed}
use Rattle.shapes.specs.Plan.{plan_tests, plan_points}
use Rattle.shapes.specs.Shape.{shape_tests, shape_points, out_of_range}

-- ---- shape lists: grounds 1 to 4, the first that holds over the whole list

short : first_of (shape_tests (0x10000000 ∷ [])) ≡ 1
unfolding shape_tests
short = refl

-- 17 words pass ground 1, 18 do not
seventeen : first_of (shape_tests (0x10000000 ∷ map (λ y. 0x20000001 + y * 65536) (up_to 16))) ≡ 0
unfolding shape_tests
seventeen = refl

eighteen : first_of (shape_tests (0x10000000 ∷ map (λ y. 0x20000001 + y * 65536) (up_to 17))) ≡ 1
unfolding shape_tests
eighteen = refl

-- a wrong kind late in the list comes before an extra bit early in it
kind_first : first_of (shape_tests (0x11000000 ∷ 0x20000001 ∷ 0x30000001 ∷ [])) ≡ 2
unfolding shape_tests
kind_first = refl

-- an extra bit comes before a row with no column
bit_first : first_of (shape_tests (0x10000100 ∷ 0x20000000 ∷ [])) ≡ 3
unfolding shape_tests
bit_first = refl

-- a row's y is above the row before, not equal to it
rows_rise : first_of (shape_tests (0x10000000 ∷ 0x20000001 ∷ 0x20000001 ∷ [])) ≡ 4
unfolding shape_tests
rows_rise = refl

-- two lists: the second's ground 2 comes before the first's ground 3
both_lists : first_of (joining_tests (0x10000100 ∷ 0x20000001 ∷ []) (0x10000000 ∷ 0x30000001 ∷ []) []) ≡ 2
unfolding shape_tests
both_lists = refl

-- out of range comes before an output list that is too short, and is out of range one past 15
range_first : first_of (moving_tests (0x10000000 ∷ 0x20000001 ∷ []) (pos 16, pos 0) []) ≡ 8
unfolding shape_tests shape_points out_of_range ◌+ᵖ◌ negᵖ
range_first = refl

range_15 : first_of (moving_tests (0x10000000 ∷ 0x20000001 ∷ []) (pos 15, pos 0) []) ≡ 9
unfolding shape_tests shape_points out_of_range ◌+ᵖ◌ negᵖ
range_15 = refl

-- an output list of 17 words is enough for a shape
room_17 : first_of (turning_tests (0x30000000 ∷ 0x40000f0f ∷ []) (replicate 17 0)) ≡ 0
unfolding plan_tests ◌+ᵖ◌
room_17 = refl

room_16 : first_of (turning_tests (0x30000000 ∷ 0x40000f0f ∷ []) (replicate 16 0)) ≡ 9
unfolding plan_tests ◌+ᵖ◌
room_16 = refl

-- ---- plan lists: grounds 1 to 3 and 5 to 8

-- a wrong count comes before a place field of 31
count_first : first_of (plan_tests (0x30000003 ∷ 0x40001f0f ∷ 0x50000003 ∷ [])) ≡ 5
unfolding plan_tests
count_first = refl

-- place 30 passes; 31 gives 6, before the mask of one cell
place_30 : first_of (plan_tests (0x30000000 ∷ 0x40001e1e ∷ [])) ≡ 0
unfolding plan_tests ◌+ᵖ◌
place_30 = refl

place_31_x : first_of (plan_tests (0x30000001 ∷ 0x40000f1f ∷ 0x50000001 ∷ [])) ≡ 6
unfolding plan_tests
place_31_x = refl

place_31 : first_of (plan_tests (0x30000001 ∷ 0x40001f0f ∷ 0x50000001 ∷ [])) ≡ 6
unfolding plan_tests
place_31 = refl

-- masks never fall, and may be equal
masks_fall : first_of (plan_tests (0x30000002 ∷ 0x40000f0f ∷ 0x50000005 ∷ 0x50000003 ∷ [])) ≡ 7
unfolding plan_tests
masks_fall = refl

-- seven stages of extent 2 pass with w = 14, eight give 8 with w = 16
fourteen : first_of (plan_tests (0x30000007 ∷ 0x40000f0f ∷ replicate 7 0x50000005)) ≡ 0
unfolding plan_tests ◌+ᵖ◌
fourteen = refl

sixteen : first_of (plan_tests (0x30000008 ∷ 0x40000f0f ∷ replicate 8 0x50000005)) ≡ 8
unfolding plan_tests ◌+ᵖ◌
sixteen = refl

-- w = 16 gives 8 though x is −1 to 15, and so does h = 16
wide_16 : first_of (plan_tests (0x30000008 ∷ 0x40000f0e ∷ replicate 8 0x50000005)) ≡ 8
unfolding plan_tests ◌+ᵖ◌
wide_16 = refl

high_16 : first_of (plan_tests (0x30000008 ∷ 0x40000e0f ∷ replicate 8 0x50000041)) ≡ 8
unfolding plan_tests ◌+ᵖ◌
high_16 = refl

-- with the offset 2 an x of 16 is reached
too_far_lem : first_of (plan_tests (0x30000007 ∷ 0x40000f11 ∷ replicate 7 0x50000005)) ≡ 8
unfolding plan_tests ◌+ᵖ◌
too_far_lem = refl

-- ---- lists that are written

-- with the least anchor
corner_listed : listed (shape_points (0x100000ff ∷ 0x20000001 ∷ 0x20010006 ∷ [])) ≡ (0x100000ff ∷ 0x20000001 ∷ 0x20010006 ∷ [])
unfolding listed shape_points ◌+ᵖ◌ negᵖ
corner_listed = refl

anchor_least : listed (shape_points (0x10000022 ∷ 0x20030008 ∷ [])) ≡ (0x10000000 ∷ 0x20010002 ∷ [])
unfolding listed shape_points ◌+ᵖ◌ negᵖ
anchor_least = refl

-- column 15 and row 15 are in the window
last_listed : listed (shape_points (0x10000000 ∷ 0x20008000 ∷ 0x200f0001 ∷ [])) ≡ (0x10000000 ∷ 0x20008000 ∷ 0x200f0001 ∷ [])
unfolding listed shape_points ◌+ᵖ◌ negᵖ
last_listed = refl

moved_listed : listed (moved_points (0x10000000 ∷ 0x20000005 ∷ []) (pos 2, pos 3)) ≡ (0x10000000 ∷ 0x20030014 ∷ [])
unfolding listed shape_points ◌+ᵖ◌ negᵖ
moved_listed = refl

summed_listed : listed (summed_points (0x10000001 ∷ 0x20000005 ∷ []) (0x10000000 ∷ 0x20000001 ∷ 0x20020001 ∷ [])) ≡ (0x10000001 ∷ 0x20000005 ∷ 0x20020005 ∷ [])
unfolding listed shape_points ◌+ᵖ◌ negᵖ
summed_listed = refl

joined_listed : listed (joined_points (0x10000001 ∷ 0x20000005 ∷ []) (0x10000000 ∷ 0x20000001 ∷ 0x20020001 ∷ [])) ≡ (0x10000001 ∷ 0x20000007 ∷ 0x20020002 ∷ [])
unfolding listed shape_points ◌+ᵖ◌ negᵖ
joined_listed = refl

-- a plan turned back: stages 3 and 5 at the offset (−1, 2)
plan_listed : listed (plan_points (0x30000002 ∷ 0x4000110e ∷ 0x50000003 ∷ 0x50000005 ∷ [])) ≡ (0x10000001 ∷ 0x2002000f ∷ [])
unfolding listed plan_points ◌+ᵖ◌ negᵖ
plan_listed = refl

-- ---- each place's kind and bits

anchor_kind_lem : first_of (shape_tests (0x20000000 ∷ 0x20000001 ∷ [])) ≡ 2
unfolding shape_tests
anchor_kind_lem = refl

row_bit : (first_of (shape_tests (0x10000000 ∷ 0x20100001 ∷ [])) ≡ 3) × (first_of (shape_tests (0x10000000 ∷ 0x200f8000 ∷ [])) ≡ 0)
unfolding shape_tests
row_bit = (refl, refl)

-- a list that is too short comes before its wrong kind
short_first : first_of (shape_tests (0x20000000 ∷ [])) ≡ 1
unfolding shape_tests
short_first = refl

-- 32 words pass ground 1, 33 and 1 do not
plan_32 : (first_of (plan_tests (0x3000001e ∷ 0x40000f0f ∷ replicate 30 0x50000001)) ≡ 7)
    × (first_of (plan_tests (0x3000001f ∷ 0x40000f0f ∷ replicate 31 0x50000001)) ≡ 1)
    × (first_of (plan_tests (0x40000000 ∷ [])) ≡ 1)
unfolding plan_tests
plan_32 = (refl, refl, refl)

plan_kinds : (first_of (plan_tests (0x40000000 ∷ 0x40000f0f ∷ [])) ≡ 2)
    × (first_of (plan_tests (0x30000000 ∷ 0x30000f0f ∷ [])) ≡ 2)
    × (first_of (plan_tests (0x30000101 ∷ 0x40000f0f ∷ 0x40000003 ∷ [])) ≡ 2)
unfolding plan_tests
plan_kinds = (refl, refl, refl)

-- an extra bit comes before a wrong count
plan_bits : (first_of (plan_tests (0x30000101 ∷ 0x40000f0f ∷ [])) ≡ 3)
    × (first_of (plan_tests (0x30000000 ∷ 0x40010f0f ∷ [])) ≡ 3)
    × (first_of (plan_tests (0x30000001 ∷ 0x40000f0f ∷ 0x50000203 ∷ [])) ≡ 3)
unfolding plan_tests
plan_bits = (refl, refl, refl)

-- falling masks come before points out of range
masks_first : first_of (plan_tests (0x30000002 ∷ 0x40000f1e ∷ 0x50000005 ∷ 0x50000003 ∷ [])) ≡ 7
unfolding plan_tests
masks_first = refl

-- ---- the calls that write a shape list

-- out of range below as above, in y as in x
range_below : (first_of (moving_tests (0x10000000 ∷ 0x20000001 ∷ []) (negsuc 15, pos 0) []) ≡ 8)
    × (first_of (moving_tests (0x10000000 ∷ 0x20000001 ∷ []) (negsuc 14, negsuc 14) []) ≡ 9)
unfolding shape_tests shape_points out_of_range ◌+ᵖ◌ negᵖ
range_below = (refl, refl)

range_y : (first_of (moving_tests (0x10000000 ∷ 0x20000001 ∷ []) (pos 0, pos 16) []) ≡ 8)
    × (first_of (moving_tests (0x10000000 ∷ 0x20000001 ∷ []) (pos 0, negsuc 15) []) ≡ 8)
unfolding shape_tests shape_points out_of_range ◌+ᵖ◌ negᵖ
range_y = (refl, refl)

-- an output list of 17 words is enough for a new shape
new_room : (first_of (moving_tests (0x10000000 ∷ 0x20000001 ∷ []) (pos 0, pos 0) (replicate 17 0)) ≡ 0)
    × (first_of (moving_tests (0x10000000 ∷ 0x20000001 ∷ []) (pos 0, pos 0) (replicate 16 0)) ≡ 9)
unfolding shape_tests shape_points out_of_range ◌+ᵖ◌ negᵖ
new_room = (refl, refl)

-- the union of columns 0 and 15 is in range, their sum with column 1 is not; the second list counts in both calls
join_range : (first_of (joining_tests (0x10000000 ∷ 0x20008000 ∷ []) (0x10000000 ∷ 0x20000002 ∷ []) (replicate 17 0)) ≡ 0)
    × (first_of (joining_tests (0x1000000f ∷ 0x20000001 ∷ []) (0x10000000 ∷ 0x20000002 ∷ []) (replicate 17 0)) ≡ 8)
unfolding shape_tests shape_points out_of_range ◌+ᵖ◌ negᵖ
join_range = (refl, refl)

sum_range : (first_of (summing_tests (0x10000000 ∷ 0x20008000 ∷ []) (0x10000000 ∷ 0x20000002 ∷ []) (replicate 17 0)) ≡ 8)
    × (first_of (summing_tests (0x1000000f ∷ 0x20000001 ∷ []) (0x10000000 ∷ 0x20000002 ∷ []) (replicate 17 0)) ≡ 0)
unfolding shape_tests shape_points out_of_range ◌+ᵖ◌ negᵖ
sum_range = (refl, refl)

sum_both : first_of (summing_tests (0x10000100 ∷ 0x20000001 ∷ []) (0x10000000 ∷ 0x30000001 ∷ []) []) ≡ 2
unfolding shape_tests
sum_both = refl

-- a plan's grounds come before the output list
turning_first : first_of (turning_tests (0x30000000 ∷ 0x40000f1f ∷ []) []) ≡ 6
unfolding plan_tests
turning_first = refl

-- what each call leaves: the list, then the words that were there
moves : (r : Answer) (out' : List ℕ) → Moved (0x10000000 ∷ 0x20000005 ∷ []) (pos 2, pos 3) (replicate 17 7) r out'
    → (stated r ≡ result 2) × (out' ≡ 0x10000000 ∷ 0x20030014 ∷ replicate 15 7)
unfolding shape_tests listed shape_points out_of_range ◌+ᵖ◌ negᵖ
moves r out' p = ((p.done refl).answer, (p.done refl).words)

joins : (r : Answer) (out' : List ℕ) → Joined (0x10000001 ∷ 0x20000005 ∷ []) (0x10000000 ∷ 0x20000001 ∷ 0x20020001 ∷ []) (replicate 17 7) r out'
    → (stated r ≡ result 3) × (out' ≡ 0x10000001 ∷ 0x20000007 ∷ 0x20020002 ∷ replicate 14 7)
unfolding shape_tests listed shape_points out_of_range ◌+ᵖ◌ negᵖ
joins r out' p = ((p.done refl).answer, (p.done refl).words)

adds : (r : Answer) (out' : List ℕ) → Summed (0x10000001 ∷ 0x20000005 ∷ []) (0x10000000 ∷ 0x20000001 ∷ 0x20020001 ∷ []) (replicate 17 7) r out'
    → (stated r ≡ result 3) × (out' ≡ 0x10000001 ∷ 0x20000005 ∷ 0x20020005 ∷ replicate 14 7)
unfolding shape_tests listed shape_points out_of_range ◌+ᵖ◌ negᵖ
adds r out' p = ((p.done refl).answer, (p.done refl).words)

turns : (r : Answer) (out' : List ℕ) → TurnedBack (0x30000002 ∷ 0x4000110e ∷ 0x50000003 ∷ 0x50000005 ∷ []) (replicate 17 7) r out'
    → (stated r ≡ result 2) × (out' ≡ 0x10000001 ∷ 0x2002000f ∷ replicate 15 7)
unfolding plan_tests listed plan_points ◌+ᵖ◌ negᵖ
turns r out' p = ((p.done refl).answer, (p.done refl).words)

-- and a refusal leaves all of it
moves_not : (r : Answer) (out' : List ℕ) → Moved (0x10000000 ∷ 0x20000001 ∷ []) (pos 16, pos 0) (replicate 17 7) r out'
    → (stated r ≡ refusal 8) × (out' ≡ replicate 17 7)
unfolding shape_tests shape_points out_of_range ◌+ᵖ◌ negᵖ
moves_not r out' p = p.refused (λ e. let n : ◌≡◌ {A = ℕ} 8 0 = e in omega arith)
