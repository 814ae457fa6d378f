-- Worked cases of what lists hold and of the words of rows: document 01's row of four cells and its plan.
use mathlib.Core.Path.{◌≡◌, refl}
use mathlib.Core.List.{List, [], ◌∷◌}
use Prim.Native.Nat.{ℕ}
use lib.ListN.{replicate}
use Rattle.lists.specs.Held.{cells_from, masks_from, held_cells, held_anchor, held_place, held_masks, shape_words}

-- 10000000, 2000000f
four : List ℕ
four = 268435456 ∷ 536870927 ∷ []

four_written : shape_words 0 0 (15 ∷ replicate 15 0) ≡ four
unfolding four
four_written = refl

four_held : held_cells four ≡ (0, 0) ∷ (1, 0) ∷ (2, 0) ∷ (3, 0) ∷ []
unfolding four cells_from
four_held = refl

-- empty rows are left out, and an anchor is cut to its four bits: 10000021, 20010001, 20038000
gaps_written : shape_words 17 2 (0 ∷ 1 ∷ 0 ∷ 32768 ∷ replicate 12 0) ≡ 268435489 ∷ 536936449 ∷ 537100288 ∷ []
gaps_written = refl

-- 30000002, 40000f0f, 50000003, 50000005
plan : List ℕ
plan = 805306370 ∷ 1073745679 ∷ 1342177283 ∷ 1342177285 ∷ []

plan_held : held_masks plan ≡ 3 ∷ 5 ∷ []
unfolding plan masks_from
plan_held = refl

place_held : held_place plan ≡ (15, 15)
unfolding plan
place_held = refl

-- read as a shape list it has no cell and no anchor
no_shape_cells : held_cells plan ≡ []
unfolding plan cells_from
no_shape_cells = refl

no_shape_anchor : held_anchor plan ≡ (0, 0)
unfolding plan
no_shape_anchor = refl
