-- One look at the cells of a frame, or of a grid, tells two things: ground 13, and whether a cell was not measured. So the greatest number among them is found
-- first, and the grounds are tried with it.
use Rattle.std.specs.Prelude.{cond, not, ◌||◌, List, [], ◌∷◌, ◌++◌, ℕ, ltb, take}
use Rattle.words.specs.Ground.{Test}
use Rattle.words.specs.Word.{wrong_kind, extra_bit, stage_kind, stage_mask}
use Rattle.masks.specs.Mask.{stage}
use Rattle.grids.specs.Frame.{highest, bad_size, wrong_length, short_image, grid_size}
use Rattle.cell_steps.specs.Leaves.{greatest_of}

-- the greatest number among a frame's cells; 0 where grounds 11 or 12 refuse the frame
unfoldable pub greatest_cell : ℕ → ℕ → List ℕ → ℕ
greatest_cell W H f = cond (bad_size W H || wrong_length W H f) 0 (greatest_of f)

-- among the bytes of a grid, as far as its image goes; 0 where ground 11 refuses the sides
unfoldable pub greatest_byte : ℕ → ℕ → List ℕ → ℕ
greatest_byte W H g = cond (bad_size W H) 0 (greatest_of (take (grid_size W H) g))

-- the tests of a frame whose greatest number is n
unfoldable pub frame_tests_by : ℕ → ℕ → List ℕ → ℕ → List Test
frame_tests_by W H f n = (11, bad_size W H) ∷ (12, wrong_length W H f) ∷ (13, ltb highest n) ∷ []

-- and of two work images
unfoldable pub work_tests_by : ℕ → ℕ → List ℕ → ℕ → List ℕ → List ℕ → List Test
unfolding frame_tests_by
work_tests_by W H f n i j = frame_tests_by W H f n ++ (14, short_image W H i || short_image W H j) ∷ []

-- the tests of a single stage, of a grid whose greatest number is n
unfoldable pub stage_tests_by : ℕ → ℕ → ℕ → List ℕ → ℕ → List ℕ → List Test
stage_tests_by w W H g n i =
    (2, wrong_kind stage_kind w)
    ∷ (3, extra_bit stage_kind w)
    ∷ (7, not (stage (stage_mask w)))
    ∷ (11, bad_size W H)
    ∷ (13, ltb highest n)
    ∷ (14, short_image W H g || short_image W H i)
    ∷ []
