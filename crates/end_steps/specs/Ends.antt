-- Document 02, W1, as the call does it: rows near an end of a frame are dilated from the part of it that they depend on.
use Rattle.std.specs.Prelude.{◌≡◌, false, not, List, ℕ, ◌+◌, ◌*◌, ◌<◌, ◌≤◌, T, length, get_or}
use Rattle.words.specs.Word.{place_x, place_y}
use Rattle.shapes.specs.Plan.{plan_masks, plan_offset}
use Rattle.grids.specs.Frame.{bad_size, bad_cell}
use Rattle.cleaning.specs.Operation.{in_turn}
use Rattle.cleaning.specs.declared.Operation.TheVariants.{Dilation}
use Rattle.turn_steps.specs.Turns.{Worded}

-- a part of e rows of W cells that a plan's stages can be run on: as many words as a plan has, a place within its range, sides that pass, of which e is at most
-- 31, all cells, and none above 2
pub record Part (plan : List ℕ) (W e : ℕ) (part : List ℕ) : Type 0 where
  pub words : Worded plan
  pub across : place_x (get_or plan 1 0) ≤ 30
  pub down : place_y (get_or plan 1 0) ≤ 30
  pub sides : bad_size W e ≡ false
  pub rows : e ≤ 31
  pub size : length part ≡ e * W
  pub clean : T (not (bad_cell part))

-- rows s to s + t of it, into d, which has their length
pub record EndPart (plan : List ℕ) (W e : ℕ) (part : List ℕ) (s t : ℕ) (d : List ℕ) : Type 0 where
  pub whole : Part plan W e part
  pub near : s + t ≤ e
  pub room : length d ≡ t * W

-- rows s to s + t of the dilation of the part, as the plan's stages give it in turn, stand in d'
pub record EndRows (plan : List ℕ) (W e : ℕ) (part : List ℕ) (s t : ℕ) (d d' : List ℕ) : Type 0 where
  pub size : length d' ≡ length d
  pub row : (x r : ℕ) → x < W → r < t → get_or d' (r * W + x) 0 ≡ get_or (in_turn Dilation W e part (plan_offset plan) (plan_masks plan)) ((s + r) * W + x) 0

-- the rows were worked out; where they cannot be, d stays
pub record EndDilated (plan : List ℕ) (W e : ℕ) (part : List ℕ) (s t : ℕ) (d d' : List ℕ) : Type 0 where
  pub through : EndPart plan W e part s t d → EndRows plan W e part s t d d'
  pub unchanged : (EndPart plan W e part s t d → ⊥) → d' ≡ d
