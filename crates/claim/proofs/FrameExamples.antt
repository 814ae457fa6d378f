-- What the demands say on frames, cases each read off the demand alone, as in Examples.
use mathlib.Core.Path.{◌≡◌, refl, sym, ◌∙◌, ap, ap₂, subst}
use mathlib.Core.Logic.{◌≢◌, inl, inr, ⊎_elim}
use mathlib.Core.Bool.{false}
use mathlib.Core.List.{List, [], ◌∷◌}
use Prim.Native.Nat.{ℕ, ◌+◌, ◌*◌, ◌<◌}
use native.Mathlib.Omega.{arith}
use lib.IntN.{pos, negsuc, nat_abs}
use lib.ListN.{get_or, replicate}
use Rattle.plane.specs.Lists.{In}
use Rattle.plane.specs.Point.{Point, PointSet, ◌+ᵖ◌, negᵖ, ◌-ᵖ◌}
use Rattle.words.specs.Ground.{stated, result}
use Rattle.words.specs.Ground.{Answer}
use Rattle.masks.specs.Mask.{stage, mask_cells, mask_points}
use Rattle.shapes.specs.Plan.{plan_points, plan_tests}
use Rattle.grids.specs.Frame.{free, full, frame, frame_tests, LoadCounted}
use Rattle.grids.specs.Grid.{put_tests, FramePut, stage_tests, Staged, work_tests}
use Rattle.grids.specs.Image.{cells, value_at}
use Rattle.grids.specs.Share.{ShareAnswer, exact, told, share_tests, Shared}
use Rattle.grids.specs.declared.Around.TheVariants.{Free, Occupied}
use Rattle.cleaning.specs.Cleaning.{part, Cleaned}
use Rattle.cleaning.specs.declared.Operation.TheVariants.{Erosion, Opening}
use Rattle.rolling.specs.Claim.{all_free, Arrivals, Right, takes_row}
use Rattle.rolling.specs.Rolling.{arrival_tests, Arrived}
use Rattle.claim.specs.Demand1.{Demand1}
use Rattle.claim.specs.Demand2.{Demand2}
use Rattle.claim.specs.Frames.{grid_plane, Dilated, Eroded}
use Rattle.claim.specs.Waterfall.{Waterfall}

-- the plan of the points (0, 0) and (0, 1)
abbrev below : List ℕ
below = 0x30000001 ∷ 0x40000f0f ∷ 0x50000009 ∷ []

-- ---- demand 1

-- a cell of 3: ground 13, and the image is as it was
put_refused : Demand1 → (r : Answer) (i' : List ℕ) → FramePut Free 1 1 (3 ∷ []) (replicate 256 7) r i' → ((stated r).0 ≡ 13) × (i' ≡ replicate 256 7)
unfolding frame_tests put_tests
put_refused D r i' p =
    let d = D.putting Free 1 1 (3 ∷ []) (replicate 256 7) r i' p in
    (d.0, d.1 (λ z. let n : ◌≡◌ {A = ℕ} 13 0 = sym d.0 ∙ z in omega arith))

share_refused : Demand1 → (a : ShareAnswer) → Shared 1 1 (3 ∷ []) a → (told a).0 ≡ 13
unfolding share_tests
share_refused D a p = D.sharing 1 1 (3 ∷ []) a p

-- a frame that was not measured has no share, but a load
share_unmeasured : Demand1 → (a : ShareAnswer) → Shared 1 1 (2 ∷ []) a → (told a).0 ≡ 16
unfolding share_tests
share_unmeasured D a p = D.sharing 1 1 (2 ∷ []) a p

load_unmeasured : Demand1 → (r : Answer) → LoadCounted 1 1 (2 ∷ []) r → (stated r).0 ≡ 0
unfolding frame_tests
load_unmeasured D r p = D.counting 1 1 (2 ∷ []) r p

-- a row of two cells in frames of one column: ground 15, and both frames are as they were
arrival_refused : Demand1 → (r : Answer) (l k : List ℕ) → Arrived below 1 1 (1 ∷ 0 ∷ []) (0 ∷ []) (1 ∷ []) r l k
    → ((stated r).0 ≡ 15) × (l ≡ 0 ∷ []) × (k ≡ 1 ∷ [])
unfolding arrival_tests plan_tests plan_points mask_cells ◌+ᵖ◌
arrival_refused D r l k p =
    let d = D.arriving below 1 1 (1 ∷ 0 ∷ []) (0 ∷ []) (1 ∷ []) r l k p in
    let u = d.1 (λ z. let n : ◌≡◌ {A = ℕ} 15 0 = sym d.0 ∙ z in omega arith) in
    (d.0, u.0, u.1)

-- ---- demand 2

-- what the rules give: dilation by an occupied cell, and by none that is not free; erosion by a free cell, by one that was not measured and by neither
module _ (A : PointSet) (f : Point → ℕ) (p : Point) (v : ℕ) where
  dilated_one : Dilated A f p v → (a : Point) → A a → f (p -ᵖ a) ≡ 1 → v ≡ 1
  dilated_one e a h z = ⊎_elim (λ q. q.0) (⊎_elim (λ q. absurd (q.1 (a, h, z))) (λ q. absurd (q.1 (a, h, z)))) e

  dilated_none : Dilated A f p v → ((a : Point) → A a → f (p -ᵖ a) ≡ 0) → v ≡ 0
  dilated_none e n = ⊎_elim (λ q. let c = q.1 in absurd (omega (arith, n c.0 c.1, c.2))) (⊎_elim (λ q. let c = q.2 in absurd (omega (
    arith,
    n c.0
        c.1,
    c.2,
  ))) (λ q. q.0)) e

  eroded_zero : Eroded A f p v → (a : Point) → A a → f (p +ᵖ a) ≡ 0 → v ≡ 0
  eroded_zero e a h z = ⊎_elim (λ q. q.0) (⊎_elim (λ q. absurd (q.1 (a, h, z))) (λ q. absurd (q.1 (a, h, z)))) e

  eroded_two : Eroded A f p v → ((a : Point) → A a → f (p +ᵖ a) ≢ 0) → (a : Point) → A a → f (p +ᵖ a) ≡ 2 → v ≡ 2
  eroded_two e n a h z = ⊎_elim (λ q. let c = q.1 in absurd (n c.0 c.1 c.2)) (⊎_elim (λ q. q.0) (λ q. absurd (q.2 (a, h, z)))) e

  eroded_all : Eroded A f p v → ((a : Point) → A a → f (p +ᵖ a) ≡ 1) → v ≡ 1
  eroded_all e n = ⊎_elim (λ q. let c = q.1 in absurd (omega (arith, n c.0 c.1, c.2))) (⊎_elim (λ q. let c = q.2 in absurd (omega (
    arith,
    n c.0
        c.1,
    c.2,
  ))) (λ q. q.0)) e

-- the cell (0, 0) dilated by columns 0 and 1 has the cell (1, 0)
stage_right : Demand2 → (r : Answer) (i' : List ℕ) → Staged false Free 0x50000003 1 1 (1 ∷ replicate 255 0) (replicate 257 7) r i' → get_or i' 1 0 ≡ 1
unfolding stage_tests stage mask_cells value_at ◌+ᵖ◌ negᵖ
stage_right D r i' p =
    dilated_one (In (mask_points 3)) (grid_plane Free 1 1 (1 ∷ replicate 255 0)) (pos 1, pos 0) (get_or i' 1 0)
    ((D.staging false Free 0x50000003 1 1 (1 ∷ replicate 255 0) (replicate 257 7) r i' p refl).cell 1 0 (omega arith) (omega arith))
    (pos 1, pos 0) (inr (inl refl)) refl

-- and answers 0
stage_answers : Demand2 → (r : Answer) (i' : List ℕ) → Staged false Free 0x50000003 1 1 (1 ∷ replicate 255 0) (replicate 257 7) r i' → stated r ≡ result 0
unfolding stage_tests stage mask_cells
stage_answers D r i' p = (D.staging false Free 0x50000003 1 1 (1 ∷ replicate 255 0) (replicate 257 7) r i' p refl).answer

-- one column of two rows, the second occupied, or not measured, is so in the grid
put_right : Demand2 → (r : Answer) (i' : List ℕ) → FramePut Free 1 2 (0 ∷ 1 ∷ []) (replicate 273 7) r i' → get_or i' 16 0 ≡ 1
unfolding frame_tests put_tests value_at
put_right D r i' p = (D.putting Free 1 2 (0 ∷ 1 ∷ []) (replicate 273 7) r i' p refl).cell 0 1 (omega arith) (omega arith)

put_unmeasured : Demand2 → (r : Answer) (i' : List ℕ) → FramePut Free 1 2 (0 ∷ 2 ∷ []) (replicate 273 7) r i' → get_or i' 16 0 ≡ 2
unfolding frame_tests put_tests value_at
put_unmeasured D r i' p = (D.putting Free 1 2 (0 ∷ 2 ∷ []) (replicate 273 7) r i' p refl).cell 0 1 (omega arith) (omega arith)

-- the plan of the points (0, 0) and (1, 0)
abbrev beside : List ℕ
beside = 0x30000001 ∷ 0x40000f0f ∷ 0x50000003 ∷ []

-- 1 1 eroded by it: the last cell stays, since what is outside is occupied
stays_off : Demand2 → (s : Answer) (i' j' : List ℕ) → Cleaned Erosion beside 2 1 (1 ∷ 1 ∷ []) (replicate 272 7) (replicate 272 7) s i' j'
    → get_or (part (stated s).1 2 1 i' j') 1 0 ≡ 1
unfolding plan_tests work_tests plan_points mask_cells value_at ◌+ᵖ◌ negᵖ
stays_off D s i' j' p =
    let d = D.cleaning Erosion beside 2 1 (1 ∷ 1 ∷ []) (replicate 272 7) (replicate 272 7) s i' j' p refl in
    d.cell 1 0 (omega arith) (omega arith) ∙ eroded_all (In (plan_points beside)) F (pos 1, pos 0) (d.picture (pos 1, pos 0)) (d.gives (pos 1, pos 0)) all
  where
    F : Point → ℕ
    F = frame full 2 1 (1 ∷ 1 ∷ [])

    all : (a : Point) → In (plan_points beside) a → F ((pos 1, pos 0) +ᵖ a) ≡ 1
    all a (inl e) = ap (λ b. F ((pos 1, pos 0) +ᵖ b)) e
    all a (inr (inl e)) = ap (λ b. F ((pos 1, pos 0) +ᵖ b)) e
    all a (inr (inr e)) = absurd e

-- 1 2 eroded by it: the first cell is not known
not_known : Demand2 → (s : Answer) (i' j' : List ℕ) → Cleaned Erosion beside 2 1 (1 ∷ 2 ∷ []) (replicate 272 7) (replicate 272 7) s i' j'
    → get_or (part (stated s).1 2 1 i' j') 0 0 ≡ 2
unfolding plan_tests work_tests plan_points mask_cells value_at ◌+ᵖ◌ negᵖ
not_known D s i' j' p =
    let d = D.cleaning Erosion beside 2 1 (1 ∷ 2 ∷ []) (replicate 272 7) (replicate 272 7) s i' j' p refl in
    d.cell 0 0 (omega arith) (omega arith)
    ∙ eroded_two (In (plan_points beside)) F (pos 0, pos 0) (d.picture (pos 0, pos 0)) (d.gives (pos 0, pos 0)) none (pos 1, pos 0) (inr (inl refl)) refl
  where
    F : Point → ℕ
    F = frame full 2 1 (1 ∷ 2 ∷ [])

    none : (a : Point) → In (plan_points beside) a → F ((pos 0, pos 0) +ᵖ a) ≡ 0 → ⊥
    none a (inl e) z = let n : ◌≡◌ {A = ℕ} 1 0 = ap (λ b. F ((pos 0, pos 0) +ᵖ b)) (sym e) ∙ z in omega arith
    none a (inr (inl e)) z = let n : ◌≡◌ {A = ℕ} 2 0 = ap (λ b. F ((pos 0, pos 0) +ᵖ b)) (sym e) ∙ z in omega arith
    none a (inr (inr e)) z = e

-- 1 opened by the two points: nothing stays, since what is outside reads as free
goes_off : Demand2 → (s : Answer) (i' j' : List ℕ) → Cleaned Opening beside 1 1 (1 ∷ []) (replicate 256 7) (replicate 256 7) s i' j'
    → get_or (part (stated s).1 1 1 i' j') 0 0 ≡ 0
unfolding plan_tests work_tests plan_points mask_cells value_at ◌+ᵖ◌ negᵖ
goes_off D s i' j' p =
    let d = D.cleaning Opening beside 1 1 (1 ∷ []) (replicate 256 7) (replicate 256 7) s i' j' p refl in
    let h = d.gives.0 in
    let A = In (plan_points beside) in
    let F = frame free 1 1 (1 ∷ []) in
    let here = eroded_zero A F (pos 0, pos 0) (h (pos 0, pos 0)) (d.gives.1 (pos 0, pos 0)) (pos 1, pos 0) (inr (inl refl)) refl in
    let before = eroded_zero A F (negsuc 0, pos 0) (h (negsuc 0, pos 0)) (d.gives.1 (negsuc 0, pos 0)) (pos 0, pos 0) (inl refl) refl in
    d.cell 0 0 (omega arith) (omega arith)
    ∙ dilated_none A h (pos 0, pos 0) (d.picture (pos 0, pos 0)) (d.gives.2 (pos 0, pos 0)) (none h here before)
  where
    none : (h : Point → ℕ) → h (pos 0, pos 0) ≡ 0 → h (negsuc 0, pos 0) ≡ 0 → (a : Point) → In (plan_points beside) a → h ((pos 0, pos 0) -ᵖ a) ≡ 0
    none h u v a (inl e) = ap (λ b. h ((pos 0, pos 0) -ᵖ b)) e ∙ u
    none h u v a (inr (inl e)) = ap (λ b. h ((pos 0, pos 0) -ᵖ b)) e ∙ v
    none h u v a (inr (inr e)) = absurd e

-- in the second kind of grid a frame of one free cell stands at the last byte, and the first is occupied
put_around : Demand2 → (r : Answer) (i' : List ℕ) → FramePut Occupied 1 1 (0 ∷ []) (replicate 256 7) r i' → (get_or i' 255 0 ≡ 0) × (get_or i' 0 0 ≡ 1)
unfolding frame_tests put_tests value_at
put_around D r i' p =
    let d = D.putting Occupied 1 1 (0 ∷ []) (replicate 256 7) r i' p refl in
    (d.cell 15 15 (omega arith) (omega arith), d.cell 0 0 (omega arith) (omega arith))

-- and a stage there reads occupied cells beyond its first column
stage_around : Demand2 → (r : Answer) (i' : List ℕ) → Staged false Occupied 0x50000003 1 1 (replicate 256 0) (replicate 256 7) r i' → get_or i' 0 0 ≡ 1
unfolding stage_tests stage value_at mask_cells ◌+ᵖ◌ negᵖ
stage_around D r i' p =
    dilated_one (In (mask_points 3)) (grid_plane Occupied 1 1 (replicate 256 0)) (negsuc 14, negsuc 14) (get_or i' 0 0)
    ((D.staging false Occupied 0x50000003 1 1 (replicate 256 0) (replicate 256 7) r i' p refl).cell 0 0 (omega arith) (omega arith))
    (pos 1, pos 0) (inr (inl refl)) refl

counts_two : Demand2 → (r : Answer) → LoadCounted 3 1 (1 ∷ 0 ∷ 1 ∷ []) r → stated r ≡ result 2
unfolding frame_tests cells value_at
counts_two D r p = D.counting 3 1 (1 ∷ 0 ∷ 1 ∷ []) r p refl

-- 20,000 = 6,666 × 3 + 2
shares_two : Demand2 → (a : ShareAnswer) → Shared 3 1 (1 ∷ 0 ∷ 1 ∷ []) a → a ≡ exact 6666 2
unfolding share_tests cells value_at
shares_two D a p =
    let s = D.sharing 3 1 (1 ∷ 0 ∷ 1 ∷ []) a p refl in
    let whole : s.quotient * 3 + s.remainder ≡ 20000 = s.whole in
    let q : s.quotient ≡ 6666 = omega (arith, s.below) in
    let r : s.remainder ≡ 2 = omega (arith, s.below) in
    s.answer ∙ ap₂ exact q r

-- both of two cells: 10,000, and nothing remains; 9,999 with 2 for the remainder would close as well
shares_all : Demand2 → (a : ShareAnswer) → Shared 1 2 (1 ∷ 1 ∷ []) a → a ≡ exact 10000 0
unfolding share_tests cells value_at
shares_all D a p =
    let s = D.sharing 1 2 (1 ∷ 1 ∷ []) a p refl in
    let whole : s.quotient * 2 + s.remainder ≡ 20000 = s.whole in
    let q : s.quotient ≡ 10000 = omega (arith, s.below) in
    let r : s.remainder ≡ 0 = omega (arith, s.below) in
    s.answer ∙ ap₂ exact q r

-- one of two measured cells, beside one that was not measured: 10,000 = 5,000 × 2
shares_measured : Demand2 → (a : ShareAnswer) → Shared 3 1 (1 ∷ 2 ∷ 0 ∷ []) a → a ≡ exact 5000 0
unfolding share_tests cells value_at
shares_measured D a p =
    let s = D.sharing 3 1 (1 ∷ 2 ∷ 0 ∷ []) a p refl in
    let whole : s.quotient * 2 + s.remainder ≡ 10000 = s.whole in
    let q : s.quotient ≡ 5000 = omega (arith, s.below) in
    let r : s.remainder ≡ 0 = omega (arith, s.below) in
    s.answer ∙ ap₂ exact q r

-- the points (0, 0) and (0, 1), and frames of one column: the arriving row is the last
arrives_last : Demand2 → (r : Answer) (l k : List ℕ) → Arrived below 1 2 (1 ∷ []) (0 ∷ 0 ∷ []) (0 ∷ 0 ∷ []) r l k → get_or l 1 0 ≡ 1
unfolding arrival_tests plan_tests plan_points mask_cells ◌+ᵖ◌
arrives_last D r l k p = (D.arriving below 1 2 (1 ∷ []) (0 ∷ 0 ∷ []) (0 ∷ 0 ∷ []) r l k p refl).last 0 1 (omega arith) refl

-- and 0 is answered
arrival_answers : Demand2 → (r : Answer) (l k : List ℕ) → Arrived below 1 2 (1 ∷ []) (0 ∷ 0 ∷ []) (0 ∷ 0 ∷ []) r l k → stated r ≡ result 0
unfolding arrival_tests plan_tests plan_points mask_cells ◌+ᵖ◌
arrival_answers D r l k p = (D.arriving below 1 2 (1 ∷ []) (0 ∷ 0 ∷ []) (0 ∷ 0 ∷ []) r l k p refl).answer

-- row 2 of five lies farther than 1 from both ends: it is row 3 of before
row_moved : Demand2 → (r : Answer) (l k : List ℕ) → Arrived below 1 5 (0 ∷ []) (replicate 5 0) (0 ∷ 0 ∷ 0 ∷ 1 ∷ 0 ∷ []) r l k → get_or k 2 0 ≡ 1
unfolding arrival_tests plan_tests plan_points mask_cells ◌+ᵖ◌
row_moved D r l k p = (D.arriving below 1 5 (0 ∷ []) (replicate 5 0) (0 ∷ 0 ∷ 0 ∷ 1 ∷ 0 ∷ []) r l k p refl).far 0 2 (omega arith) (omega arith) (λ q h.
    ⊎_elim (λ e. subst Far (sym e) (omega arith, omega arith)) (⊎_elim (λ e. subst Far (sym e) (omega arith, omega arith)) (λ n. absurd n)) h)
  where
    Far : Point → Type 0
    Far q = (nat_abs q.1 < 2) × (nat_abs q.1 < 2)

-- row 3 is at distance 1 from the last row: it is worked out anew
row_anew : Demand2 → (r : Answer) (l k : List ℕ) → Arrived below 1 5 (0 ∷ []) (0 ∷ 0 ∷ 0 ∷ 0 ∷ 1 ∷ []) (replicate 5 0) r l k → get_or k 3 0 ≡ 1
unfolding arrival_tests plan_tests plan_points mask_cells value_at ◌+ᵖ◌ negᵖ
row_anew D r l k p =
    let s = D.arriving below 1 5 (0 ∷ []) (0 ∷ 0 ∷ 0 ∷ 0 ∷ 1 ∷ []) (replicate 5 0) r l k p refl in
    dilated_one (In (plan_points below)) (frame free 1 5 l) (pos 0, pos 3) (get_or k 3 0)
    (s.near 0 3 (omega arith) (omega arith) (λ f. let n : 1 < 1 = (f (pos 0, pos 1) (inr (inl refl))).1 in omega arith))
    (pos 0, pos 0) (inl refl) (s.next 0 3 (omega arith) (omega arith))

-- ---- the waterfall

-- 1, then 0 twice, in three rows: the kept frame has the cell that is occupied, and the one below it
waterfall_below : Waterfall → (l k : List ℕ) → Arrivals below 1 3 ((1 ∷ []) ∷ (0 ∷ []) ∷ (0 ∷ []) ∷ []) (all_free 1 3) (all_free 1 3) l k → get_or k 1 0 ≡ 1
unfolding takes_row plan_tests plan_points mask_cells cells value_at ◌+ᵖ◌ negᵖ
waterfall_below W l k a =
    let rows : List (List ℕ) = (1 ∷ []) ∷ (0 ∷ []) ∷ (0 ∷ []) ∷ [] in
    let now : l ≡ 1 ∷ 0 ∷ 0 ∷ [] = W.present below 1 3 rows l k a in
    let D = subst (λ f. Right 1 3 (In (plan_points below)) f k) now (W.right below 1 3 rows l k a) in
    ap (λ z. get_or z 1 0) D.cut
    ∙ dilated_one (In (plan_points below)) (frame free 1 3 (1 ∷ 0 ∷ 0 ∷ [])) (pos 0, pos 1) (D.picture (pos 0, pos 1)) (D.made (pos 0, pos 1))
    (pos 0, pos 1) (inr (inl refl)) refl
