-- Document 01, "Frames": two work images that take turns. A plane that shows the grid stands in one of them, and each single stage writes the next one into
-- the other.
use Rattle.std.specs.Prelude.{◌≡◌, Bool, false, cond, List, ℕ, ◌+◌, ◌%◌, ◌≤◌, eqb, length, get_or}
use Rattle.shapes.specs.Plan.{plan_masks}
use Rattle.masks.specs.Mask.{mask_points}
use Rattle.grids.specs.Image.{view, cells}
use Rattle.grids.specs.Frame.{over, bad_size}
use Rattle.grids.specs.Grid.{outside_of}
use Rattle.planes.specs.Planes.{plane_size, Shows, PlaneTaken}
use Rattle.planes.specs.Bits.{level}
use Rattle.cleaning.specs.declared.Operation.{Operation}
use Rattle.cleaning.specs.Operation.{around, through, last_grid}
use Rattle.cleaning.specs.Cleaning.{stages_run, result_image}

-- the image in which the plane stands after t stages: the first if t is even, the second if odd, so that the result goes into the other
abbrev pub standing_image : ℕ → List ℕ → List ℕ → List ℕ
standing_image t first second = cond (eqb (t % 2) 0) first second

-- the plane that stands after t stages shows a level of the bytes of the grid g, with the value v outside
abbrev pub Shown : Bool → ℕ → ℕ → ℕ → ℕ → List ℕ → List ℕ → List ℕ → Type 0
Shown some v W H t g i j = Shows (W + 15) (H + 15) (λ p. level some (view v (W + 15) (H + 15) g p)) (standing_image t i j)

-- the bytes of a grid after the single stage of the mask m: where the grid starts is nothing to it (`once_bytes`, grids)
unfoldable pub bytes_once : Bool → ℕ → ℕ → ℕ → ℕ → List ℕ → List ℕ
bytes_once erode v W H m g = cells (W + 15) (H + 15) (over erode (mask_points m) (view v (W + 15) (H + 15) g))

-- as many words as a plan list has
abbrev pub Worded : List ℕ → Type 0
Worded plan = (2 ≤ length plan) × (length plan ≤ 32)

-- sides that pass, and two images of n bytes or more
pub record Roomed (n W H : ℕ) (i j : List ℕ) : Type 0 where
  pub sides : bad_size W H ≡ false
  pub first : n ≤ length i
  pub second : n ≤ length j

-- bytes that the plane of a frame's grid takes; 0 for sides that ground 11 refuses
abbrev pub plane_bytes : ℕ → ℕ → ℕ
plane_bytes W H = cond (bad_size W H) 0 (plane_size (W + 15) (H + 15))

-- images that are long enough for the plane that shows the grid
abbrev pub PlaneRoom : ℕ → ℕ → List ℕ → List ℕ → Type 0
PlaneRoom W H i j = Roomed (plane_size (W + 15) (H + 15)) W H i j

-- an image as long as it was, and the same past the plane
pub record Past (W H : ℕ) (d d' : List ℕ) : Type 0 where
  pub size : length d' ≡ length d
  pub rest : (k : ℕ) → plane_size (W + 15) (H + 15) ≤ k → get_or d' k 0 ≡ get_or d k 0

-- a single stage after t others: from the image in which the plane stands, which is unchanged, into the other
pub record Turned (erode : Bool) (v m W H t : ℕ) (i j i' j' : List ℕ) : Type 0 where
  pub from : standing_image t i' j' ≡ standing_image t i j
  pub to : PlaneTaken erode v (W + 15) (H + 15) m (standing_image t i j) (result_image t i j) (result_image t i' j')

-- all stages of a plan were run, in order, after t others: whatever grid a level of which was shown, that level of the grid taken through them is
pub record Passed (erode : Bool) (v : ℕ) (plan : List ℕ) (W H t : ℕ) (i j : List ℕ) (r : ℕ) (i' j' : List ℕ) : Type 0 where
  pub count : r ≡ t + length (plan_masks plan)
  pub first : Past W H i i'
  pub second : Past W H j j'
  pub shown : (some : Bool) (g : List ℕ) → Shown some v W H t g i j → Shown some v W H r (through (bytes_once erode v W H) (plan_masks plan) g) i' j'

-- whatever grid a level of which stands in the first image, that level of the grid after r stages stands after them
abbrev pub Carried : Operation → List ℕ → ℕ → ℕ → List ℕ → List ℕ → ℕ → List ℕ → List ℕ → Type 0
Carried op plan W H i j r i' j' = (some : Bool) (g : List ℕ) → Shown some (outside_of (around op)) W H 0 g i j
    → Shown some (outside_of (around op)) W H r (last_grid op W H (plan_masks plan) g) i' j'

-- the stages of an operation were run on the plane in the first image, in the kind of grid that the operation works in
pub record Ended (op : Operation) (plan : List ℕ) (W H : ℕ) (i j : List ℕ) (r : ℕ) (i' j' : List ℕ) : Type 0 where
  pub count : r ≡ stages_run op (length (plan_masks plan))
  pub first : Past W H i i'
  pub second : Past W H j j'
  pub shown : Carried op plan W H i j r i' j'

-- what stages can be run on: as many words as a plan has, and images with room for the plane
pub record Turnable (plan : List ℕ) (W H : ℕ) (i j : List ℕ) : Type 0 where
  pub words : Worded plan
  pub room : PlaneRoom W H i j

-- the stages were run; what they cannot be run on stays as it is
pub record StagesTurned (op : Operation) (plan : List ℕ) (W H : ℕ) (i j : List ℕ) (r : ℕ) (i' j' : List ℕ) : Type 0 where
  pub through : Turnable plan W H i j → Ended op plan W H i j r i' j'
  pub unchanged : (Turnable plan W H i j → ⊥) → (r ≡ 0) × (i' ≡ i) × (j' ≡ j)
