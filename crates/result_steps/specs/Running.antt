-- Document 01, "Frames": an operation from the plane, or the two planes, that the frame is packed into to the result. All stages are run, and the
-- result is cut from the last plane, or planes.
use Rattle.std.specs.Prelude.{◌≡◌, Bool, List, ℕ, ◌≤◌, get_or}
use Rattle.words.specs.Word.{place_x, place_y}
use Rattle.cleaning.specs.declared.Operation.{Operation}
use Rattle.turn_steps.specs.Turns.{Worded}
use Rattle.result_steps.specs.Levels.{LevelsEnded}
use Rattle.result_steps.specs.Cutting.{Room, CutAway}

-- what can be run: as many words as a plan has, a place within its range, and images with room
pub record Runnable (plan : List ℕ) (W H : ℕ) (i j : List ℕ) : Type 0 where
  pub words : Worded plan
  pub across : place_x (get_or plan 1 0) ≤ 30
  pub down : place_y (get_or plan 1 0) ≤ 30
  pub room : Room W H i j

-- the images after the last stage, and the result cut from there
pub record TurnsDone (two : Bool) (op : Operation) (plan : List ℕ) (W H : ℕ) (i j : List ℕ) (r : ℕ) (i' j' : List ℕ) : Type 0 where
  pub first : List ℕ
  pub second : List ℕ
  pub ended : LevelsEnded two op plan W H i j r first second
  pub away : CutAway two op (get_or plan 1 0) W H r first second i' j'

-- the operation was run; what cannot be run changes nothing
pub record TurnsRun (two : Bool) (op : Operation) (plan : List ℕ) (W H : ℕ) (i j : List ℕ) (r : ℕ) (i' j' : List ℕ) : Type 0 where
  pub through : Runnable plan W H i j → TurnsDone two op plan W H i j r i' j'
  pub unchanged : (Runnable plan W H i j → ⊥) → (r ≡ 0) × (i' ≡ i) × (j' ≡ j)
