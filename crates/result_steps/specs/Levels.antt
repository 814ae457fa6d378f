-- Document 02, W5: the stages of an operation on two planes that have both levels of a grid, the second where the first ends (`second_at`), or on one plane that
-- has both.
use Rattle.std.specs.Prelude.{◌≡◌, Bool, List, ℕ, ◌+◌, ◌<◌, length, get_or, drop}
use Rattle.shapes.specs.Plan.{plan_masks}
use Rattle.grids.specs.Frame.{grid_size}
use Rattle.planes.specs.Planes.{plane_size, second_at}
use Rattle.cleaning.specs.declared.Operation.{Operation}
use Rattle.cleaning.specs.Cleaning.{stages_run}
use Rattle.turn_steps.specs.Turns.{Carried}

-- an image as long as it was, and the same in its first plane and past its grid
pub record Behind (W H : ℕ) (d d' : List ℕ) : Type 0 where
  pub size : length d' ≡ length d
  pub front : (k : ℕ) → k < plane_size (W + 15) (H + 15) → get_or d' k 0 ≡ get_or d k 0
  pub rest : drop (grid_size W H) d' ≡ drop (grid_size W H) d

-- the stages were run on the second planes
pub record SecondEnded (op : Operation) (plan : List ℕ) (W H : ℕ) (i j i' j' : List ℕ) : Type 0 where
  pub first : Behind W H i i'
  pub second : Behind W H j j'
  pub shown : let o = plane_size (W + 15) (H + 15) in
      Carried op plan W H (drop o i) (drop o j) (stages_run op (length (plan_masks plan))) (drop o i') (drop o j')

-- the stages were run on both levels; images are as long as they were, and the same past their grids
pub record LevelsEnded (two : Bool) (op : Operation) (plan : List ℕ) (W H : ℕ) (i j : List ℕ) (r : ℕ) (i' j' : List ℕ) : Type 0 where
  pub count : r ≡ stages_run op (length (plan_masks plan))
  pub first_size : length i' ≡ length i
  pub second_size : length j' ≡ length j
  pub first_past : drop (grid_size W H) i' ≡ drop (grid_size W H) i
  pub second_past : drop (grid_size W H) j' ≡ drop (grid_size W H) j
  pub one : Carried op plan W H i j r i' j'
  pub some : let o = second_at two (W + 15) (H + 15) in Carried op plan W H (drop o i) (drop o j) r (drop o i') (drop o j')
