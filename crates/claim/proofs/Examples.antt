-- What the demands say on cases, each read off the demand alone: a demand that is loosened, or says another thing, no longer gives them.
use mathlib.Core.Path.{◌≡◌, refl, sym, ◌∙◌, ap, subst}
use mathlib.Core.Logic.{inl, ⊎_elim}
use mathlib.Core.List.{List, [], ◌∷◌}
use Prim.Native.Nat.{ℕ, ◌+◌, ◌%◌, ◌≤◌, ◌<◌}
use native.Mathlib.Omega.{arith}
use lib.IntN.{ℤ, pos}
use lib.ListN.{length, take, drop, get_or, replicate}
use lib.Seq.{get_or-drop}
use Rattle.plane.specs.Lists.{In}
use Rattle.plane.specs.Point.{◌+ᵖ◌, ◌-ᵖ◌, negᵖ, origin}
use Rattle.plane.proofs.Algebra.{≐_trans, ≐_sym}
use Rattle.words.specs.Ground.{stated, result, refusal}
use Rattle.words.specs.Ground.{Answer}
use Rattle.masks.specs.Chain.{Chain, subset}
use Rattle.masks.specs.Mask.{mask_cells, mask_points, normal_of, NormalPosition}
use Rattle.masks.proofs.Normal.{normal_position}
use Rattle.masks.proofs.Measured.{four}
use Rattle.shapes.specs.Calls.{Moved, moved_points, TurnedBack}
use Rattle.shapes.specs.Listed.{listed}
use Rattle.shapes.proofs.Listed.{listed_same}
use Rattle.shapes.specs.Shape.{shape_points, shape_tests, out_of_range}
use Rattle.planning.specs.Planning.{ShapeSet, Planned, PlanWritten}
use Rattle.grids.specs.Grid.{once}
use Rattle.grids.specs.Image.{cells, value_at}
use Rattle.cleaning.specs.Cleaning.{part}
use Rattle.cleaning.specs.Operation.{in_turn, last_grid}
use Rattle.cleaning.specs.declared.Operation.TheVariants.{Closing}
use Rattle.claim.specs.Demand1.{Demand1}
use Rattle.claim.specs.Demand2.{Demand2}
use Rattle.claim.specs.Demand3.{Demand3, Agrees, Decided, Served}
use Rattle.claim.specs.Measured.{four_words, three_words}
use Rattle.claim.specs.RoundTrip.{RoundTrip}
use Rattle.claim.specs.Whole.{handed_for, Lent}
use Rattle.claim.proofs.Demand2.{moved_is}
use Rattle.claim.proofs.Measured.{accepts}
use Rattle.claim.proofs.Positions.{position_shown, position_once}

-- the row of four cells has a chain of two members
four_chain : (c : Chain subset (ShapeSet four_words)) × (length c.members ≡ 2)
unfolding shape_points ◌+ᵖ◌ negᵖ
four_chain = (record { members = 3 ∷ 5 ∷ []; offset = origin; masks = tt; sum = four.plan.sum }, refl)

-- ---- demand 1

-- the row of four cells is not refused by 10
four_not_ten : Demand1 → (out : List ℕ) → 32 ≤ length out → (r : Answer) (out' : List ℕ) → Planned four_words out r out' → stated r ≡ refusal 10 → ⊥
unfolding shape_tests
four_not_ten D out h r out' p t = ⊎_elim
    (λ f. let n : ◌≡◌ {A = ℕ} 10 0 = sym (ap (λ a. a.0) t) ∙ f.0 ∙ accepts four_words refl out h in omega arith)
    (λ n. n.none four_chain.0)
    (D.planning four_words out r out' p)

-- all bits of the argument: a mask is answered
position_answers : Demand1 → (n : ℕ) → NormalPosition (0xffff % 512) n → n < 512
position_answers D n p = D.positioning 0xffff n p

-- ---- demand 2

-- cells 4 and 6, and bits above the ninth: row 0 has a cell then, and column 0
position_rows : Demand2 → (n : ℕ) → NormalPosition (0xfe50 % 512) n → (x : ℤ) × In (mask_points n) (x, pos 0)
unfolding mask_cells
position_rows D n p = (D.positioning 0xfe50 n p).row_0 (pos 1, pos 1) (inl refl)

position_columns : Demand2 → (n : ℕ) → NormalPosition (0xfe50 % 512) n → (y : ℤ) × In (mask_points n) (pos 0, y)
unfolding mask_cells
position_columns D n p = (D.positioning 0xfe50 n p).column_0 (pos 1, pos 1) (inl refl)

-- cell 4 is there, moved
position_moved : Demand2 → (n : ℕ) → NormalPosition (0xfe50 % 512) n → (c r : ℕ) × In (mask_points n) ((pos 1, pos 1) -ᵖ (pos c, pos r))
unfolding mask_cells
position_moved D n p = let s = D.positioning 0xfe50 n p in (s.columns, s.rows, (s.move (pos 1, pos 1)).0 (inl refl))

-- the tenth bit alone is no cell
position_none : Demand2 → (n : ℕ) → NormalPosition (0x200 % 512) n → n ≡ 0
unfolding mask_cells
position_none D n p = (D.positioning 0x200 n p).none (λ q h. h)

-- together these leave 10 alone
position_ten : Demand2 → (n : ℕ) → NormalPosition (0xfe50 % 512) n → n ≡ 10
unfolding normal_of
position_ten D n p = position_once 0xfe50 n 10 (D.positioning 0xfe50 n p) (position_shown 0xfe50 10 (normal_position 80 (omega arith)))

-- two columns moved: the words past the two of the list are as they were
moved_past : Demand2 → (r : Answer) (out' : List ℕ) → Moved (0x10000000 ∷ 0x20000005 ∷ []) (pos 2, pos 3) (replicate 18 7) r out' → (stated r).1 ≡ 2
    → get_or out' 17 0 ≡ 7
unfolding shape_tests shape_points out_of_range ◌+ᵖ◌ negᵖ
moved_past D r out' p n =
    let past = (D.moving (0x10000000 ∷ 0x20000005 ∷ []) (pos 2, pos 3) (replicate 18 7) r out' p refl).past in
    sym (get_or-drop 2 out' 15 0) ∙ ap (λ l. get_or l 15 0) (subst (λ k. drop k out' ≡ drop k (replicate 18 7)) n past)

-- and these two words are the list of the points moved: another anchor, or an empty row, would stand for the same points
moved_laid : Demand2 → (r : Answer) (out' : List ℕ) → Moved (0x10000000 ∷ 0x20000005 ∷ []) (pos 2, pos 3) (replicate 18 7) r out' → (stated r).1 ≡ 2
    → take 2 out' ≡ 0x10000000 ∷ 0x20030014 ∷ []
unfolding shape_tests shape_points out_of_range listed ◌+ᵖ◌ negᵖ
moved_laid D r out' p n =
    let ws : List ℕ = 0x10000000 ∷ 0x20000005 ∷ [] in
    let s = D.moving ws (pos 2, pos 3) (replicate 18 7) r out' p refl in
    let same = ≐_trans s.stands (≐_sym (moved_is ws (pos 2, pos 3))) in
    subst (λ k. take k out' ≡ 0x10000000 ∷ 0x20030014 ∷ []) n
    (s.laid ∙ listed_same (shape_points (take (stated r).1 out')) (moved_points ws (pos 2, pos 3)) same)

-- ---- demand 3

-- the row of four cells: a chain has two members, so at most four words are answered
four_short : Demand3 → (out : List ℕ) → 32 ≤ length out → (r : Answer) (out' : List ℕ) → Planned four_words out r out' → (stated r).1 ≤ 4
unfolding shape_tests
four_short D out h r out' p = go (D four_words out r out' p (accepts four_words refl out h))
  where
    few : Served four_words out r out' → (stated r).1 ≤ 4
    few s =
        let a : (stated r).1 ≡ length s.stages + 2 = ap (λ a. a.1) s.answer in
        omega (arith, s.fewest four_chain.0, four_chain.1)

    go : Decided four_words out r out' → (stated r).1 ≤ 4
    go d = ⊎_elim (λ t. absurd (d.none.0 t four_chain.0)) few d.plan

-- 1 0 1 closed by columns 0 to 2: two stages, and the part is 1 1 1
closed_agrees : (s : Answer) (i' j' : List ℕ) → Agrees Closing three_words origin (7 ∷ []) 3 1 (1 ∷ 0 ∷ 1 ∷ []) s i' j'
    → (stated s ≡ result 2) × (part (stated s).1 3 1 i' j' ≡ 1 ∷ 1 ∷ 1 ∷ [])
unfolding in_turn last_grid once cells value_at mask_cells ◌+ᵖ◌ negᵖ
closed_agrees s i' j' a = (a.answer, a.turns)

-- a refusal hands nothing back
nothing_handed : handed_for (13, 0) 1 1 (1 ∷ []) (1 ∷ []) ≡ []
unfolding part
nothing_handed = refl

-- and leaves both images
refusal_kept : (W H : ℕ) (i j i' j' : List ℕ) → Lent W H i j (13, 0) i' j' → (i' ≡ i) × (j' ≡ j)
refusal_kept W H i j i' j' l = l.kept (λ z. let n : ◌≡◌ {A = ℕ} 13 0 = z in omega arith)

-- ---- the round trip

-- 17 words are enough for what is turned back
four_back : RoundTrip → (r : Answer) (out' : List ℕ) → PlanWritten four_words (replicate 32 0) r out' → (s : Answer) (back' : List ℕ)
    → TurnedBack (take (stated r).1 out') (replicate 17 0) s back' → (stated s).0 ≡ 0
unfolding shape_tests
four_back R r out' w s back' t = ap (λ a. a.0) (R four_words (replicate 32 0) r out' refl w (replicate 17 0) s back' (omega arith) t).answer
