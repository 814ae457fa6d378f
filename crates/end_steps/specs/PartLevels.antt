-- Document 02, W5: a part of the live frame taken through the plan's stages on planes that have its levels: on one, which has both where no cell is 2, or on
-- two, the second from byte o on.
use Rattle.std.specs.Prelude.{◌≡◌, Bool, true, false, List, ℕ, ◌+◌, ◌<◌, ◌≤◌, length, get_or, drop}
use Rattle.shapes.specs.Plan.{plan_masks}
use Rattle.grids.specs.Frame.{full}
use Rattle.grids.specs.Grid.{grid_bytes, put}
use Rattle.grids.specs.declared.Around.TheVariants.{Free}
use Rattle.planes.specs.Bits.{level}
use Rattle.planes.specs.Planes.{plane_size, Shows}
use Rattle.cleaning.specs.Operation.{last_grid}
use Rattle.cleaning.specs.Cleaning.{stages_run}
use Rattle.cleaning.specs.declared.Operation.TheVariants.{Dilation}
use Rattle.turn_steps.specs.Turns.{standing_image, Past}

-- no cell of the part is above 1
abbrev pub PartMeasured : List ℕ → Type 0
PartMeasured part = (k : ℕ) → get_or part k 0 ≤ full

-- bytes with room for a plane, and for a second from byte o on; where o is 0 there is one
pub record PartRoom (o W e : ℕ) (part i j : List ℕ) : Type 0 where
  pub few : o ≤ 65535
  pub first : o + plane_size (W + 15) (e + 15) ≤ length i
  pub second : o + plane_size (W + 15) (e + 15) ≤ length j
  pub one : o ≡ 0 → PartMeasured part
  pub two : (o ≡ 0 → ⊥) → plane_size (W + 15) (e + 15) ≤ o

-- the stages that are run, and the grid after them
abbrev pub part_stages : List ℕ → ℕ
part_stages plan = stages_run Dilation (length (plan_masks plan))

abbrev pub last_of_part : List ℕ → ℕ → ℕ → List ℕ → List ℕ
last_of_part plan W e part = last_grid Dilation W e (plan_masks plan) (put Free W e part)

-- a plane shows a level of that grid
abbrev pub PartShown : Bool → List ℕ → ℕ → ℕ → List ℕ → List ℕ → Type 0
PartShown some plan W e part p = Shows (W + 15) (e + 15) (λ q. level some (grid_bytes Free W e (last_of_part plan W e part) q)) p

-- one level of the part was packed into i and taken through the stages
pub record LevelRun (some : Bool) (plan : List ℕ) (W e : ℕ) (part i j : List ℕ) (r : ℕ) (i' j' : List ℕ) : Type 0 where
  pub count : r ≡ part_stages plan
  pub first : Past W e i i'
  pub second : Past W e j j'
  pub shown : PartShown some plan W e part (standing_image (part_stages plan) i' j')

-- bytes as many as there were, and the same before byte o
pub record KeptFront (o : ℕ) (d d' : List ℕ) : Type 0 where
  pub size : length d' ≡ length d
  pub front : (k : ℕ) → k < o → get_or d' k 0 ≡ get_or d k 0

-- the second level was, in the bytes from o on
pub record SecondRun (o : ℕ) (plan : List ℕ) (W e : ℕ) (part i j i' j' : List ℕ) : Type 0 where
  pub first : KeptFront o i i'
  pub second : KeptFront o j j'
  pub shown : PartShown true plan W e part (drop o (standing_image (part_stages plan) i' j'))

-- both levels were
pub record LevelsRun (o : ℕ) (plan : List ℕ) (W e : ℕ) (part i j : List ℕ) (r : ℕ) (i' j' : List ℕ) : Type 0 where
  pub count : r ≡ part_stages plan
  pub first : length i' ≡ length i
  pub second : length j' ≡ length j
  pub one : PartShown false plan W e part (standing_image (part_stages plan) i' j')
  pub some : PartShown true plan W e part (drop o (standing_image (part_stages plan) i' j'))
