-- Worked cases of the operations: the part and the image that holds it, the number of stages run, and what the single stages give in turn.
use mathlib.Core.Path.{◌≡◌, refl, sym, ◌∙◌, ap, subst}
use mathlib.Core.Bool.{true, false}
use mathlib.Core.Logic.{inl, inr, ⊎_elim}
use mathlib.Core.List.{List, [], ◌∷◌, ◌++◌}
use Prim.Native.Nat.{ℕ}
use native.Mathlib.Omega.{arith}
use lib.IntN.{pos, negsuc}
use lib.ListN.{length, get_or, drop, replicate}
use Rattle.cleaning.specs.declared.Operation.TheVariants.{Dilation, Erosion, Opening, Closing}
use Rattle.plane.specs.Lists.{In}
use Rattle.plane.specs.Point.{Point, PointSet, ◌+ᵖ◌, negᵖ, ◌-ᵖ◌, origin, only}
use Rattle.words.specs.Ground.{first_of, stated, result, refusal}
use Rattle.words.specs.Ground.{Answer}
use Rattle.masks.specs.Mask.{mask_cells}
use Rattle.shapes.specs.Plan.{plan_tests, plan_points}
use Rattle.grids.specs.Frame.{free, full, frame}
use Rattle.grids.specs.Grid.{once, work_tests}
use Rattle.grids.specs.Image.{cells, value_at}
use Rattle.grids.specs.Rules.{SomeCovered, Greatest, Least}
use Rattle.cleaning.specs.Cleaning.{part, stages_run, operation_tests, Cleaned}
use Rattle.cleaning.specs.Operation.{Direct, in_turn, last_grid}
use Rattle.cleaning.specs.Sets.{made, DirectSet}

-- ---- the part: the second image if the number is even, the first if odd

part_even : part 2 2 1 (5 ∷ 6 ∷ 7 ∷ []) (8 ∷ 9 ∷ 10 ∷ []) ≡ 8 ∷ 9 ∷ []
unfolding part
part_even = refl

part_odd : part 3 2 1 (5 ∷ 6 ∷ 7 ∷ []) (8 ∷ 9 ∷ 10 ∷ []) ≡ 5 ∷ 6 ∷ []
unfolding part
part_odd = refl

-- empty if W or H isn't 1 to 240, or the image holds fewer than W × H bytes; the other image does not count
part_wide : part 0 241 0 [] (8 ∷ []) ≡ []
unfolding part
part_wide = refl

part_high : part 0 1 241 [] (replicate 241 8) ≡ []
unfolding part
part_high = refl

part_short : part 0 2 1 (5 ∷ 6 ∷ []) (8 ∷ []) ≡ []
unfolding part
part_short = refl

part_other : part 0 2 1 [] (8 ∷ 9 ∷ []) ≡ 8 ∷ 9 ∷ []
unfolding part
part_other = refl

-- ---- opening and closing run 2n stages

runs_of_three : (stages_run Dilation 3 ≡ 3) × (stages_run Erosion 3 ≡ 3) × (stages_run Opening 3 ≡ 6) × (stages_run Closing 3 ≡ 6)
runs_of_three = (refl, refl, refl, refl)

-- ---- grounds: those of the plan, then those of the frame and the images

plan_first : first_of (operation_tests [] 0 1 [] [] []) ≡ 1
unfolding plan_tests work_tests
plan_first = refl

first_short : first_of (operation_tests (0x30000000 ∷ 0x40000f0f ∷ []) 1 1 (1 ∷ []) (replicate 255 7) (replicate 256 7)) ≡ 14
unfolding plan_tests work_tests ◌+ᵖ◌
first_short = refl

second_short : first_of (operation_tests (0x30000000 ∷ 0x40000f0f ∷ []) 1 1 (1 ∷ []) (replicate 256 7) (replicate 255 7)) ≡ 14
unfolding plan_tests work_tests ◌+ᵖ◌
second_short = refl

images_dirty : first_of (operation_tests (0x30000000 ∷ 0x40000f0f ∷ []) 1 1 (1 ∷ []) (replicate 256 7) (replicate 256 7)) ≡ 0
unfolding plan_tests work_tests ◌+ᵖ◌
images_dirty = refl

-- ---- in turn

-- 1 0 1 closed by three columns: nothing is cut between the stages
closed : in_turn Closing 3 1 (1 ∷ 0 ∷ 1 ∷ []) (pos 0, pos 0) (7 ∷ []) ≡ 1 ∷ 1 ∷ 1 ∷ []
unfolding in_turn last_grid once cells value_at mask_cells ◌+ᵖ◌ negᵖ
closed = refl

-- and opened
opened : in_turn Opening 3 1 (1 ∷ 0 ∷ 1 ∷ []) (pos 0, pos 0) (7 ∷ []) ≡ 0 ∷ 0 ∷ 0 ∷ []
unfolding in_turn last_grid once cells value_at mask_cells ◌+ᵖ◌ negᵖ
opened = refl

-- the offset (1, 0) moves a dilation to the right and an erosion to the left, where occupied cells come in from outside; an offset does not move an opening
dilated_right : in_turn Dilation 3 1 (0 ∷ 1 ∷ 0 ∷ []) (pos 1, pos 0) [] ≡ 0 ∷ 0 ∷ 1 ∷ []
unfolding in_turn last_grid once cells value_at ◌+ᵖ◌ negᵖ
dilated_right = refl

eroded_left : in_turn Erosion 3 1 (1 ∷ 0 ∷ 0 ∷ []) (pos 1, pos 0) [] ≡ 0 ∷ 0 ∷ 1 ∷ []
unfolding in_turn last_grid once cells value_at ◌+ᵖ◌ negᵖ
eroded_left = refl

opened_still : in_turn Opening 3 1 (0 ∷ 1 ∷ 0 ∷ []) (pos 1, pos 0) [] ≡ 0 ∷ 1 ∷ 0 ∷ []
unfolding in_turn last_grid once cells value_at ◌+ᵖ◌ negᵖ
opened_still = refl

-- two columns eroded by three, where a carrier that runs off the edge stays; opening still reads cells outside as free, and so does closing
eroded_off : in_turn Erosion 2 1 (1 ∷ 1 ∷ []) (pos 0, pos 0) (7 ∷ []) ≡ 1 ∷ 1 ∷ []
unfolding in_turn last_grid once cells value_at mask_cells ◌+ᵖ◌ negᵖ
eroded_off = refl

opened_off : in_turn Opening 2 1 (1 ∷ 1 ∷ []) (pos 0, pos 0) (7 ∷ []) ≡ 0 ∷ 0 ∷ []
unfolding in_turn last_grid once cells value_at mask_cells ◌+ᵖ◌ negᵖ
opened_off = refl

closed_off : in_turn Closing 2 1 (1 ∷ 0 ∷ []) (pos 0, pos 0) (3 ∷ []) ≡ 1 ∷ 0 ∷ []
unfolding in_turn last_grid once cells value_at mask_cells ◌+ᵖ◌ negᵖ
closed_off = refl

-- the offset (15, 15) reads past the grid's last column and row, where it is occupied; (−15, −15) reads its first byte
eroded_far : (in_turn Erosion 1 1 (0 ∷ []) (pos 15, pos 15) [] ≡ 1 ∷ []) × (in_turn Erosion 1 1 (0 ∷ []) (negsuc 14, negsuc 14) [] ≡ 1 ∷ [])
unfolding in_turn last_grid once cells value_at ◌+ᵖ◌ negᵖ
eroded_far = (refl, refl)

-- a cell that was not measured: dilated by two columns it spreads over free cells, eroded it takes its neighbour, closed and opened it is the two in turn
turned_unmeasured : (in_turn Dilation 3 1 (2 ∷ 0 ∷ 1 ∷ []) (pos 0, pos 0) (3 ∷ []) ≡ 2 ∷ 2 ∷ 1 ∷ [])
    × (in_turn Erosion 3 1 (1 ∷ 2 ∷ 0 ∷ []) (pos 0, pos 0) (3 ∷ []) ≡ 2 ∷ 0 ∷ 0 ∷ [])
    × (in_turn Closing 3 1 (1 ∷ 2 ∷ 1 ∷ []) (pos 0, pos 0) (3 ∷ []) ≡ 1 ∷ 1 ∷ 1 ∷ [])
    × (in_turn Opening 3 1 (1 ∷ 1 ∷ 2 ∷ []) (pos 0, pos 0) (3 ∷ []) ≡ 1 ∷ 1 ∷ 2 ∷ [])
unfolding in_turn last_grid once cells value_at mask_cells ◌+ᵖ◌ negᵖ
turned_unmeasured = (refl, refl, refl, refl)

-- ---- directly

-- the second of two cells is occupied, and with one point at the origin it stays where it is
second_cell : (r : List ℕ) → Direct Dilation 2 1 (0 ∷ 1 ∷ []) (only origin) r → get_or r 1 0 ≡ 1
unfolding cells value_at ◌+ᵖ◌ negᵖ
second_cell r d = ap (λ l. get_or l 1 0) d.cut ∙ go (d.made (pos 1, pos 0))
  where
    one : SomeCovered false (only origin) (frame free 2 1 (0 ∷ 1 ∷ [])) (pos 1, pos 0) 1
    one = (origin, refl, refl)

    go : {v : ℕ} → Greatest (SomeCovered false (only origin) (frame free 2 1 (0 ∷ 1 ∷ [])) (pos 1, pos 0)) v → v ≡ 1
    go (inl a) = a.0
    go (inr (inl a)) = absurd (a.1 one)
    go (inr (inr a)) = absurd (a.1 one)

-- the same, by sets
second_in_set : (r : List ℕ) → DirectSet Dilation 2 1 (0 ∷ 1 ∷ []) (only origin) r → get_or r 1 0 ≡ 1
unfolding value_at ◌+ᵖ◌
second_in_set r d = ⊎_elim
    (λ q. q.0)
    (λ q. absurd (q.1 ((pos 1, pos 0), origin, refl, refl, refl)))
    (d.cell 1 0 (omega arith) (omega arith))

-- a cell that is not measured is the least beside an occupied one, by erosion
least_cell : (r : List ℕ) → Direct Erosion 2 1 (1 ∷ 2 ∷ []) (In (origin ∷ (pos 1, pos 0) ∷ [])) r → get_or r 0 0 ≡ 2
unfolding cells value_at ◌+ᵖ◌ negᵖ
least_cell r d = ap (λ l. get_or l 0 0) d.cut ∙ go (d.made (pos 0, pos 0))
  where
    F : Point → ℕ
    F = frame full 2 1 (1 ∷ 2 ∷ [])

    A : PointSet
    A = In (origin ∷ (pos 1, pos 0) ∷ [])

    none : SomeCovered true A F (pos 0, pos 0) 0 → ⊥
    none c = zeros c.0 c.1 c.2
      where
        zeros : (a : Point) → A a → F ((pos 0, pos 0) +ᵖ a) ≡ 0 → ⊥
        zeros a (inl e) z = let n : ◌≡◌ {A = ℕ} 1 0 = ap (λ b. F ((pos 0, pos 0) +ᵖ b)) (sym e) ∙ z in omega arith
        zeros a (inr (inl e)) z = let n : ◌≡◌ {A = ℕ} 2 0 = ap (λ b. F ((pos 0, pos 0) +ᵖ b)) (sym e) ∙ z in omega arith
        zeros a (inr (inr e)) z = e

    go : {v : ℕ} → Least (SomeCovered true A F (pos 0, pos 0)) v → v ≡ 2
    go (inl a) = absurd (none a.1)
    go (inr (inl a)) = a.0
    go (inr (inr a)) = absurd (a.2 ((pos 1, pos 0), inr (inl refl), refl))

-- one cell opened by two columns goes, since what is outside reads as free; closed it would stay
opened_cell : (r : List ℕ) → Direct Opening 1 1 (1 ∷ []) (In (origin ∷ (pos 1, pos 0) ∷ [])) r → get_or r 0 0 ≡ 0
unfolding cells value_at ◌+ᵖ◌ negᵖ
opened_cell r d = ap (λ l. get_or l 0 0) d.cut ∙ dilates (d.made.2 (pos 0, pos 0))
  where
    F : Point → ℕ
    F = frame free 1 1 (1 ∷ [])

    A : PointSet
    A = In (origin ∷ (pos 1, pos 0) ∷ [])

    h : Point → ℕ
    h = d.made.0

    erodes : (p : Point) → SomeCovered true A F p 0 → Least (SomeCovered true A F p) (h p) → h p ≡ 0
    erodes p s (inl a) = a.0
    erodes p s (inr (inl a)) = absurd (a.1 s)
    erodes p s (inr (inr a)) = absurd (a.1 s)

    here : h (pos 0, pos 0) ≡ 0
    here = erodes (pos 0, pos 0) ((pos 1, pos 0), inr (inl refl), refl) (d.made.1 (pos 0, pos 0))

    before : h (negsuc 0, pos 0) ≡ 0
    before = erodes (negsuc 0, pos 0) (origin, inl refl, refl) (d.made.1 (negsuc 0, pos 0))

    free_there : (a : Point) → A a → h ((pos 0, pos 0) -ᵖ a) ≡ 0
    free_there a (inl e) = ap (λ b. h ((pos 0, pos 0) -ᵖ b)) e ∙ here
    free_there a (inr (inl e)) = ap (λ b. h ((pos 0, pos 0) -ᵖ b)) e ∙ before
    free_there a (inr (inr e)) = absurd e

    dilates : {v : ℕ} → Greatest (SomeCovered false A h (pos 0, pos 0)) v → v ≡ 0
    dilates (inl a) = let c = a.1 in absurd (omega (arith, free_there c.0 c.1, c.2))
    dilates (inr (inl a)) = let c = a.2 in absurd (omega (arith, free_there c.0 c.1, c.2))
    dilates (inr (inr a)) = a.0

-- opening leaves only points that were there
opened_part : (X A : PointSet) (p : Point) → made Opening X A p → X p
opened_part X A p h = subst X h.4 (h.2 h.1 h.3)

-- ---- what an operation leaves: the part, and every byte past the grids

runs : (r : Answer) (i' j' : List ℕ)
    → Cleaned Dilation (0x30000000 ∷ 0x40000f0f ∷ []) 1 1 (1 ∷ []) (replicate 256 7 ++ 5 ∷ []) (replicate 256 8 ++ 6 ∷ []) r i' j'
    → (stated r ≡ result 0) × (part 0 1 1 i' j' ≡ 1 ∷ []) × (length i' ≡ 257) × (drop 256 i' ≡ 5 ∷ []) × (length j' ≡ 257) × (drop 256 j' ≡ 6 ∷ [])
unfolding plan_tests work_tests in_turn last_grid cells value_at ◌+ᵖ◌ negᵖ
runs r i' j' p = let q = p.done refl in (q.answer, q.handed, q.first_size, q.first_past, q.second_size, q.second_past)

-- the part is what the plan's points give directly
runs_direct : (r : Answer) (i' j' : List ℕ) → Cleaned Dilation (0x30000000 ∷ 0x40000f0f ∷ []) 1 1 (1 ∷ []) (replicate 256 7) (replicate 256 8) r i' j'
    → Direct Dilation 1 1 (1 ∷ []) (In (plan_points (0x30000000 ∷ 0x40000f0f ∷ []))) (part 0 1 1 i' j')
unfolding plan_tests work_tests ◌+ᵖ◌ negᵖ
runs_direct r i' j' p = (p.done refl).direct

-- and a refusal leaves both images
runs_not : (r : Answer) (i' j' : List ℕ) → Cleaned Closing (0x30000000 ∷ 0x40000f0f ∷ []) 1 1 (3 ∷ []) (5 ∷ []) (6 ∷ []) r i' j'
    → (stated r ≡ refusal 13) × ((i' ≡ 5 ∷ []) × (j' ≡ 6 ∷ []))
unfolding plan_tests work_tests ◌+ᵖ◌
runs_not r i' j' p = p.refused (λ e. let n : ◌≡◌ {A = ℕ} 13 0 = e in omega arith)
