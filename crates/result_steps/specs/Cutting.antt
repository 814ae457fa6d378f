-- Document 01, "Frames": the result's cells, read from the last grid: (x − dx, y − dy) for dilation, (x + dx, y + dy) for erosion, (x, y) for opening and
-- closing. Distances are counted from −15, as the fields of a place are.
use Rattle.std.specs.Prelude.{◌≡◌, Bool, List, ℕ, ◌+◌, ◌-◌, ◌*◌}
use Rattle.words.specs.Word.{place_x, place_y}
use Rattle.grids.specs.Frame.{grid_size}
use Rattle.grids.specs.Grid.{outside_of}
use Rattle.ranges.specs.Ranges.{over_front}
use Rattle.cuts.specs.Cuts.{cut_out}
use Rattle.planes.specs.Planes.{second_at, plane_cells}
use Rattle.cleaning.specs.declared.Operation.{Operation}
use Rattle.cleaning.specs.declared.Operation.TheVariants.{Dilation, Erosion, Opening, Closing}
use Rattle.cleaning.specs.Cleaning.{result_image}
use Rattle.cleaning.specs.Operation.{around}
use Rattle.turn_steps.specs.Turns.{standing_image, Roomed}

-- 15 more than what is added to x, or to y, to find the byte of the grid that is read, where the place's field for it is f, at most 30; erosion's grid starts
-- at −15
abbrev pub distance : Operation → ℕ → ℕ
distance Dilation f = 30 - f
distance Erosion f = f + 15
distance Opening f = 15
distance Closing f = 15

-- W columns and H rows cut out of the cells of the plane in p, or of the two planes, at the distances that the place's fields give
abbrev pub away_cells : Bool → Operation → ℕ → ℕ → ℕ → List ℕ → List ℕ
away_cells two op place W H p = cut_out (outside_of (around op)) W H (W + 15) (H + 15) (distance op (place_x place)) (distance op (place_y place))
    (plane_cells (second_at two (W + 15) (H + 15)) (W + 15) (H + 15) p)

-- images that are long enough for the grid
abbrev pub Room : ℕ → ℕ → List ℕ → List ℕ → Type 0
Room W H i j = Roomed (grid_size W H) W H i j

-- after t stages the result is cut from the image in which the last plane stands, which is unchanged, into the other
pub record CutAway (two : Bool) (op : Operation) (place W H t : ℕ) (i j i' j' : List ℕ) : Type 0 where
  pub from : standing_image t i' j' ≡ standing_image t i j
  pub to : result_image t i' j' ≡ over_front (W * H) (away_cells two op place W H (standing_image t i j)) (result_image t i j)
