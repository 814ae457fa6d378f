-- Worked cases of W1: which rows are only moved, shown in kept frames that are wrong; rows that arrive one after the other; and the order of the grounds.
use mathlib.Core.Path.{◌≡◌, refl, ◌∙◌, ap, subst}
use mathlib.Core.Logic.{inl, inr}
use mathlib.Core.List.{List, [], ◌∷◌}
use Prim.Native.Nat.{ℕ}
use native.Mathlib.Omega.{arith}
use lib.IntN.{pos}
use lib.ListN.{get_or}
use Rattle.plane.specs.Lists.{In}
use Rattle.plane.specs.Point.{◌+ᵖ◌, negᵖ}
use Rattle.words.specs.Ground.{first_of, stated, result, refusal}
use Rattle.words.specs.Ground.{Answer}
use Rattle.masks.specs.Mask.{mask_cells}
use Rattle.shapes.specs.Plan.{plan_points, plan_tests}
use Rattle.grids.specs.Frame.{free, frame}
use Rattle.grids.specs.Image.{cells, value_at}
use Rattle.grids.proofs.Rules.{gives_one}
use Rattle.rolling.specs.Claim.{all_free, Arrivals, Right, takes_row, present}
use Rattle.rolling.specs.Rolling.{rolled, greatest_y, arrival_tests, Rolled, Arrived}
use Rattle.rolling.proofs.Possible.{brought_at, brought_up, accepted_leaves}

-- the points (0, 0) and (0, 1); the point (0, 2); the point (0, −2)
abbrev two : List ℕ
two = 0x30000001 ∷ 0x40000f0f ∷ 0x50000009 ∷ []

abbrev down : List ℕ
down = 0x30000000 ∷ 0x4000110f ∷ []

abbrev up : List ℕ
up = 0x30000000 ∷ 0x40000d0f ∷ []

-- the offset counts, the sign of y does not
reaches : (greatest_y (plan_points two) ≡ 1) × (greatest_y (plan_points down) ≡ 2) × (greatest_y (plan_points up) ≡ 2)
unfolding greatest_y plan_points mask_cells ◌+ᵖ◌
reaches = (refl, refl, refl)

-- ---- the definitions, with no law

-- the arriving row is the last
row_last : rolled 2 (1 ∷ 0 ∷ 0 ∷ 0 ∷ []) (0 ∷ 1 ∷ []) ≡ 0 ∷ 0 ∷ 0 ∷ 1 ∷ []
row_last = refl

-- a row that is only moved is the next one of before
next_of_before : (k : List ℕ) → Rolled (plan_points two) 1 5 (0 ∷ []) (0 ∷ 0 ∷ 0 ∷ 0 ∷ 0 ∷ []) (0 ∷ 0 ∷ 0 ∷ 1 ∷ 0 ∷ []) (0 ∷ 0 ∷ 0 ∷ 0 ∷ 0 ∷ []) k
    → get_or k 2 0 ≡ 1
unfolding greatest_y plan_points mask_cells ◌+ᵖ◌
next_of_before k R = R.moved 0 2 (omega arith) (omega arith) tt

-- what is worked out anew is the dilation of the live frame as it is then
of_the_new : (k : List ℕ) → Rolled (plan_points two) 1 1 (1 ∷ []) (0 ∷ []) (0 ∷ []) (1 ∷ []) k → get_or k 0 0 ≡ 1
unfolding greatest_y plan_points mask_cells value_at ◌+ᵖ◌ negᵖ
of_the_new k R =
    gives_one (In (plan_points two)) (frame free 1 1 (1 ∷ [])) (pos 0, pos 0) (get_or k 0 0) ((pos 0, pos 0), inl refl, refl)
    (R.anew 0 0 (omega arith) (omega arith) tt)

-- a kept frame that is right has the cell that is occupied, and the one below it
right_below : (k : List ℕ) → Right 1 2 (In (plan_points two)) (1 ∷ 0 ∷ []) k → get_or k 1 0 ≡ 1
unfolding plan_points mask_cells cells value_at ◌+ᵖ◌ negᵖ
right_below k D =
    ap (λ l. get_or l 1 0) D.cut
    ∙ gives_one (In (plan_points two)) (frame free 1 2 (1 ∷ 0 ∷ [])) (pos 0, pos 1) (D.picture (pos 0, pos 1)) ((pos 0, pos 1), inr (inl refl), refl)
    (D.made (pos 0, pos 1))

-- ---- rows that are only moved, in one column

-- the greatest |y| is 1: of five rows the middle one alone is farther than that from both ends
middle : (s : Answer) (l k : List ℕ) → Arrived two 1 5 (0 ∷ []) (0 ∷ 0 ∷ 0 ∷ 0 ∷ 0 ∷ []) (1 ∷ 1 ∷ 1 ∷ 1 ∷ 1 ∷ []) s l k
    → (stated s ≡ result 0) × (l ≡ 0 ∷ 0 ∷ 0 ∷ 0 ∷ 0 ∷ []) × (k ≡ 0 ∷ 0 ∷ 1 ∷ 0 ∷ 0 ∷ [])
unfolding arrival_tests plan_tests brought_up brought_at cells value_at plan_points mask_cells ◌+ᵖ◌ negᵖ
middle s l k a = accepted_leaves two 1 5 (0 ∷ []) (0 ∷ 0 ∷ 0 ∷ 0 ∷ 0 ∷ []) (1 ∷ 1 ∷ 1 ∷ 1 ∷ 1 ∷ []) s l k refl a

-- row r takes row r + 1 of before
below : (s : Answer) (l k : List ℕ) → Arrived two 1 5 (0 ∷ []) (0 ∷ 0 ∷ 0 ∷ 0 ∷ 0 ∷ []) (0 ∷ 0 ∷ 0 ∷ 1 ∷ 0 ∷ []) s l k → k ≡ 0 ∷ 0 ∷ 1 ∷ 0 ∷ 0 ∷ []
unfolding arrival_tests plan_tests brought_up brought_at cells value_at plan_points mask_cells ◌+ᵖ◌ negᵖ
below s l k a = (accepted_leaves two 1 5 (0 ∷ []) (0 ∷ 0 ∷ 0 ∷ 0 ∷ 0 ∷ []) (0 ∷ 0 ∷ 0 ∷ 1 ∷ 0 ∷ []) s l k refl a).2

not_above_lem : (s : Answer) (l k : List ℕ) → Arrived two 1 5 (0 ∷ []) (0 ∷ 0 ∷ 0 ∷ 0 ∷ 0 ∷ []) (1 ∷ 1 ∷ 1 ∷ 0 ∷ 1 ∷ []) s l k → k ≡ 0 ∷ 0 ∷ 0 ∷ 0 ∷ 0 ∷ []
unfolding arrival_tests plan_tests brought_up brought_at cells value_at plan_points mask_cells ◌+ᵖ◌ negᵖ
not_above_lem s l k a = (accepted_leaves two 1 5 (0 ∷ []) (0 ∷ 0 ∷ 0 ∷ 0 ∷ 0 ∷ []) (1 ∷ 1 ∷ 1 ∷ 0 ∷ 1 ∷ []) s l k refl a).2

-- no stage, and an offset of 2 downwards or upwards: of seven rows the middle one alone
offset_down : (s : Answer) (l k : List ℕ)
    → Arrived down 1 7 (0 ∷ []) (0 ∷ 0 ∷ 0 ∷ 0 ∷ 0 ∷ 0 ∷ 0 ∷ []) (1 ∷ 1 ∷ 1 ∷ 1 ∷ 1 ∷ 1 ∷ 1 ∷ []) s l k
    → k ≡ 0 ∷ 0 ∷ 0 ∷ 1 ∷ 0 ∷ 0 ∷ 0 ∷ []
unfolding arrival_tests plan_tests brought_up brought_at cells value_at plan_points ◌+ᵖ◌ negᵖ
offset_down s l k a = (accepted_leaves down 1 7 (0 ∷ []) (0 ∷ 0 ∷ 0 ∷ 0 ∷ 0 ∷ 0 ∷ 0 ∷ []) (1 ∷ 1 ∷ 1 ∷ 1 ∷ 1 ∷ 1 ∷ 1 ∷ []) s l k refl a).2

offset_up : (s : Answer) (l k : List ℕ)
    → Arrived up 1 7 (1 ∷ []) (0 ∷ 0 ∷ 0 ∷ 0 ∷ 0 ∷ 0 ∷ 0 ∷ []) (1 ∷ 1 ∷ 1 ∷ 1 ∷ 1 ∷ 1 ∷ 1 ∷ []) s l k
    → (l ≡ 0 ∷ 0 ∷ 0 ∷ 0 ∷ 0 ∷ 0 ∷ 1 ∷ []) × (k ≡ 0 ∷ 0 ∷ 0 ∷ 1 ∷ 1 ∷ 0 ∷ 0 ∷ [])
unfolding arrival_tests plan_tests brought_up brought_at cells value_at plan_points ◌+ᵖ◌ negᵖ
offset_up s l k a = let f = accepted_leaves up 1 7 (1 ∷ []) (0 ∷ 0 ∷ 0 ∷ 0 ∷ 0 ∷ 0 ∷ 0 ∷ []) (1 ∷ 1 ∷ 1 ∷ 1 ∷ 1 ∷ 1 ∷ 1 ∷ []) s l k refl a in (f.1, f.2)

-- ---- one arrival after the other

-- a call, with its frames before named otherwise
from : (row live kept : List ℕ) (s : Answer) (l k f g : List ℕ) → f ≡ live → g ≡ kept → Arrived two 1 3 row f g s l k → Arrived two 1 3 row live kept s l k
from row live kept s l k f g p q a = subst (λ u. Arrived two 1 3 row u kept s l k) p (subst (λ u. Arrived two 1 3 row f u s l k) q a)

-- 1, then 0 twice, in a frame of three rows: the kept frame is 0 0 1, then 0 1 1, then 1 1 0
three : (l k : List ℕ) → Arrivals two 1 3 ((1 ∷ []) ∷ (0 ∷ []) ∷ (0 ∷ []) ∷ []) (all_free 1 3) (all_free 1 3) l k → (l ≡ 1 ∷ 0 ∷ 0 ∷ []) × (k ≡ 1 ∷ 1 ∷ 0 ∷ [])
unfolding arrival_tests plan_tests brought_up brought_at cells value_at plan_points mask_cells ◌+ᵖ◌ negᵖ
three l k a =
    let b = a.4 in
    let c = b.4 in
    let p = accepted_leaves two 1 3 (1 ∷ []) (all_free 1 3) (all_free 1 3) a.0 a.1 a.2 refl a.3 in
    let d = from (0 ∷ []) (0 ∷ 0 ∷ 1 ∷ []) (0 ∷ 0 ∷ 1 ∷ []) b.0 b.1 b.2 a.1 a.2 p.1 p.2 b.3 in
    let q = accepted_leaves two 1 3 (0 ∷ []) (0 ∷ 0 ∷ 1 ∷ []) (0 ∷ 0 ∷ 1 ∷ []) b.0 b.1 b.2 refl d in
    let e = from (0 ∷ []) (0 ∷ 1 ∷ 0 ∷ []) (0 ∷ 1 ∷ 1 ∷ []) c.0 c.1 c.2 b.1 b.2 q.1 q.2 c.3 in
    let r = accepted_leaves two 1 3 (0 ∷ []) (0 ∷ 1 ∷ 0 ∷ []) (0 ∷ 1 ∷ 1 ∷ []) c.0 c.1 c.2 refl e in
    (c.4.0 ∙ r.1, c.4.1 ∙ r.2)

-- a cell that was not measured arrives: it is kept as such, and spreads over the free cell below it when a free row follows
unmeasured : (s : Answer) (l k : List ℕ) → Arrived two 1 3 (0 ∷ []) (0 ∷ 0 ∷ 2 ∷ []) (0 ∷ 0 ∷ 2 ∷ []) s l k → (l ≡ 0 ∷ 2 ∷ 0 ∷ []) × (k ≡ 0 ∷ 2 ∷ 2 ∷ [])
unfolding arrival_tests plan_tests brought_up brought_at cells value_at plan_points mask_cells ◌+ᵖ◌ negᵖ
unmeasured s l k a = let f = accepted_leaves two 1 3 (0 ∷ []) (0 ∷ 0 ∷ 2 ∷ []) (0 ∷ 0 ∷ 2 ∷ []) s l k refl a in (f.1, f.2)

-- the rows now present, a row of two cells among those that arrive
rows_present : present two 1 3 ((1 ∷ []) ∷ (0 ∷ 0 ∷ []) ∷ (0 ∷ []) ∷ []) ≡ 0 ∷ 1 ∷ 0 ∷ []
unfolding takes_row plan_tests plan_points mask_cells ◌+ᵖ◌
rows_present = refl

-- ---- grounds: 11, then 12 over both frames, then 15, then 13 over both frames and the row

plan_first : first_of (arrival_tests [] 0 2 (7 ∷ []) [] []) ≡ 1
unfolding arrival_tests plan_tests
plan_first = refl

sides_first : first_of (arrival_tests two 0 2 (7 ∷ []) (7 ∷ []) []) ≡ 11
unfolding arrival_tests plan_tests plan_points mask_cells ◌+ᵖ◌
sides_first = refl

live_long : first_of (arrival_tests two 2 2 (7 ∷ []) (7 ∷ 7 ∷ 7 ∷ 7 ∷ 7 ∷ []) (0 ∷ 0 ∷ 0 ∷ 0 ∷ [])) ≡ 12
unfolding arrival_tests plan_tests plan_points mask_cells ◌+ᵖ◌
live_long = refl

kept_short : first_of (arrival_tests two 2 2 (7 ∷ []) (7 ∷ 7 ∷ 7 ∷ 7 ∷ []) (0 ∷ 0 ∷ 0 ∷ [])) ≡ 12
unfolding arrival_tests plan_tests plan_points mask_cells ◌+ᵖ◌
kept_short = refl

row_short : first_of (arrival_tests two 2 2 (7 ∷ []) (7 ∷ 7 ∷ 7 ∷ 7 ∷ []) (0 ∷ 0 ∷ 0 ∷ 0 ∷ [])) ≡ 15
unfolding arrival_tests plan_tests plan_points mask_cells ◌+ᵖ◌
row_short = refl

row_cell : first_of (arrival_tests two 2 2 (0 ∷ 3 ∷ []) (0 ∷ 0 ∷ 0 ∷ 0 ∷ []) (0 ∷ 0 ∷ 0 ∷ 0 ∷ [])) ≡ 13
unfolding arrival_tests plan_tests plan_points mask_cells ◌+ᵖ◌
row_cell = refl

kept_cell : first_of (arrival_tests two 2 2 (0 ∷ 0 ∷ []) (0 ∷ 0 ∷ 0 ∷ 0 ∷ []) (0 ∷ 0 ∷ 3 ∷ 0 ∷ [])) ≡ 13
unfolding arrival_tests plan_tests plan_points mask_cells ◌+ᵖ◌
kept_cell = refl

live_cell : first_of (arrival_tests two 2 2 (0 ∷ 0 ∷ []) (3 ∷ 0 ∷ 0 ∷ 0 ∷ []) (0 ∷ 0 ∷ 0 ∷ 0 ∷ [])) ≡ 13
unfolding arrival_tests plan_tests plan_points mask_cells ◌+ᵖ◌
live_cell = refl

-- a refusal changes neither frame
row_refused : (s : Answer) (l k : List ℕ) → Arrived two 1 1 [] (1 ∷ []) (0 ∷ []) s l k → (stated s ≡ refusal 15) × ((l ≡ 1 ∷ []) × (k ≡ 0 ∷ []))
unfolding arrival_tests plan_tests plan_points mask_cells ◌+ᵖ◌
row_refused s l k a = a.refused (λ e. let n : ◌≡◌ {A = ℕ} 15 0 = e in omega arith)
