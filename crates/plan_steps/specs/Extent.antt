-- How far a plan's stages go, and its points, worked out from the words and from no list of points.
use Rattle.std.specs.Prelude.{Bool, true, List, [], ◌∷◌, ℕ, ◌+◌, ◌-◌, max, get_or, drop}
use Rattle.words.specs.Word.{place_y, stage_mask}
use Rattle.stage_steps.specs.Reach.{reach}

-- how far the sum of the masks of stage words goes from 0, down its rows or across its columns
abbrev pub extent_of : Bool → List ℕ → ℕ
extent_of down [] = 0
extent_of down (w ∷ ws) = reach down (stage_mask w) + extent_of down ws

-- how far a number is from 15, which is a place's field for 0
abbrev pub from15 : ℕ → ℕ
from15 a = (a - 15) + (15 - a)

-- the greater of |dy| and |dy + h|, where h is how far down the sum of the stages goes
abbrev pub reach_of : List ℕ → ℕ
reach_of ws = let y = place_y (get_or ws 1 0) in max (from15 y) (from15 (y + extent_of true (drop 2 ws)))
