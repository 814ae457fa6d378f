-- Worked cases of masks, sums and the order that picks.
use mathlib.Core.Path.{◌≡◌, refl}
use mathlib.Core.Bool.{true, false}
use mathlib.Core.List.{[], ◌∷◌}
use lib.IntN.{pos}
use Rattle.plane.specs.Point.{◌+ᵖ◌}
use Rattle.masks.specs.Chain.{sum_of, falling, before, subset}
use Rattle.masks.specs.Mask.{mask_cells, normal, stage, normal_of}

-- cell (i, j) is bit 3j + i: bits 1, 3 and 8
cells_of : mask_cells 0x10a ≡ (1, 0) ∷ (0, 1) ∷ (2, 2) ∷ []
unfolding mask_cells
cells_of = refl

-- a cell with i = 0 and one with j = 0: cells 1 and 3 are normal, cells 3 and 4 have no j = 0, cells 1 and 4 no i = 0
normal_of_lem : (normal 10 ≡ true) × (normal 24 ≡ false) × (normal 18 ≡ false)
unfolding normal
normal_of_lem = (refl, refl, refl)

-- two cells or more, normal, nine bits
stage_of : (stage 3 ≡ true) × (stage 1 ≡ false) × (stage 6 ≡ false) × (stage 512 ≡ false) × (stage 511 ≡ true)
unfolding stage
stage_of = (refl, refl, refl, refl, refl)

-- cells 4 and 5 shifted down by a row and by a column; cells 4 and 6 by a row alone, since cell 6 is in column 0
shifted : (normal_of 48 ≡ 3) × (normal_of 80 ≡ 10) × (normal_of 256 ≡ 1) × (normal_of 0 ≡ 0)
unfolding normal_of
shifted = (refl, refl, refl, refl)

-- with no stage the sum is one point
sum_none : sum_of [] ≡ (pos 0, pos 0) ∷ []
unfolding sum_of
sum_none = refl

sum_of_lem : sum_of (3 ∷ 9 ∷ []) ≡ (pos 0, pos 0) ∷ (pos 0, pos 1) ∷ (pos 1, pos 0) ∷ (pos 1, pos 1) ∷ []
unfolding sum_of ◌+ᵖ◌
sum_of_lem = refl

-- masks may be equal, and may not fall
rising : (falling (3 ∷ 3 ∷ 5 ∷ []) ≡ false) × (falling (3 ∷ 5 ∷ 3 ∷ []) ≡ true)
rising = (refl, refl)

-- fewer stages first, then the first difference; no list comes before itself
order : (before (7 ∷ []) (3 ∷ 3 ∷ []) ≡ true) × (before (3 ∷ 5 ∷ []) (3 ∷ 7 ∷ []) ≡ true) × (before (3 ∷ 9 ∷ []) (5 ∷ 5 ∷ []) ≡ true)
order = (refl, refl, refl)

order_strict : (before [] [] ≡ false) × (before (3 ∷ 5 ∷ []) (3 ∷ 5 ∷ []) ≡ false) × (before (5 ∷ 5 ∷ []) (3 ∷ 9 ∷ []) ≡ false)
    × (before (3 ∷ 3 ∷ []) (7 ∷ []) ≡ false)
order_strict = (refl, refl, refl, refl)

-- all nine bits make a subset of the square
subsets : (subset 511 ≡ true) × (subset 0 ≡ true) × (subset 512 ≡ false)
subsets = (refl, refl, refl)
