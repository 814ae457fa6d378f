-- Worked cases: which sizes fit, a frame put into a grid, and what is cut out of a source of three columns and two rows.
use mathlib.Core.Path.{◌≡◌, refl}
use mathlib.Core.Bool.{true, false}
use mathlib.Core.List.{List, [], ◌∷◌}
use Prim.Native.Nat.{ℕ}
use lib.ListN.{replicate}
use Rattle.plane.specs.Point.{◌+ᵖ◌}
use Rattle.grids.specs.Image.{cells, value_at}
use Rattle.ranges.specs.Ranges.{over_front}
use Rattle.cuts.specs.Cuts.{cut_out, cut_fits}

-- a frame of 240 columns and rows put into its grid
put_fits_240 : cut_fits 255 255 240 240 15 15 57600 65025 ≡ true
put_fits_240 = refl

-- a frame of two columns and one row put among cells of 4, and a byte past the grid
put_4 : over_front 6 (cut_out 4 3 2 2 1 15 15 (1 ∷ 0 ∷ [])) (replicate 7 9) ≡ 1 ∷ 0 ∷ 4 ∷ 4 ∷ 4 ∷ 4 ∷ 9 ∷ []
unfolding cut_out cells value_at ◌+ᵖ◌
put_4 = refl

-- the frame taken out of its grid, and one byte too few in either image
cut_fits_240 : cut_fits 240 240 255 255 30 30 65025 57600 ≡ true
cut_fits_240 = refl

cut_short_grid : cut_fits 240 240 255 255 30 30 65024 57600 ≡ false
cut_short_grid = refl

cut_short_frame : cut_fits 240 240 255 255 30 30 65025 57599 ≡ false
cut_short_frame = refl

-- a distance too far
cut_too_far : cut_fits 3 2 3 2 65536 15 6 6 ≡ false
cut_too_far = refl

six_cells : List ℕ
six_cells = 1 ∷ 2 ∷ 3 ∷ 4 ∷ 5 ∷ 6 ∷ []

-- one column to the left and one to the right
cut_14 : cut_out 9 3 2 3 2 14 15 six_cells ≡ 9 ∷ 1 ∷ 2 ∷ 9 ∷ 4 ∷ 5 ∷ []
unfolding cut_out cells value_at ◌+ᵖ◌ six_cells
cut_14 = refl

cut_16 : cut_out 9 3 2 3 2 16 15 six_cells ≡ 2 ∷ 3 ∷ 9 ∷ 5 ∷ 6 ∷ 9 ∷ []
unfolding cut_out cells value_at ◌+ᵖ◌ six_cells
cut_16 = refl

-- one row up and one row down
cut_up : cut_out 9 3 2 3 2 15 14 six_cells ≡ 9 ∷ 9 ∷ 9 ∷ 1 ∷ 2 ∷ 3 ∷ []
unfolding cut_out cells value_at ◌+ᵖ◌ six_cells
cut_up = refl

cut_down : cut_out 9 3 2 3 2 15 16 six_cells ≡ 4 ∷ 5 ∷ 6 ∷ 9 ∷ 9 ∷ 9 ∷ []
unfolding cut_out cells value_at ◌+ᵖ◌ six_cells
cut_down = refl

-- both at once
cut_14_16 : cut_out 9 3 2 3 2 14 16 six_cells ≡ 9 ∷ 4 ∷ 5 ∷ 9 ∷ 9 ∷ 9 ∷ []
unfolding cut_out cells value_at ◌+ᵖ◌ six_cells
cut_14_16 = refl

-- fewer columns and rows than the source has, and more
cut_fewer : cut_out 9 2 1 3 2 16 16 six_cells ≡ 5 ∷ 6 ∷ []
unfolding cut_out cells value_at ◌+ᵖ◌ six_cells
cut_fewer = refl

cut_more : cut_out 9 5 3 3 2 14 14 six_cells ≡ 9 ∷ 9 ∷ 9 ∷ 9 ∷ 9 ∷ 9 ∷ 1 ∷ 2 ∷ 3 ∷ 9 ∷ 9 ∷ 4 ∷ 5 ∷ 6 ∷ 9 ∷ []
unfolding cut_out cells value_at ◌+ᵖ◌ six_cells
cut_more = refl

-- wholly beside the source
cut_beside : cut_out 9 2 1 3 2 40 15 six_cells ≡ 9 ∷ 9 ∷ []
unfolding cut_out cells value_at ◌+ᵖ◌ six_cells
cut_beside = refl
