-- No promise is empty: on every input, accepted or refused, there is an answer with lent memory as it says. For planning this rests on the decision whether
-- there is a chain, which is what a search is for.
use Rattle.std.specs.Prelude.{◌≡◌, ◌⊎◌, Bool, List, ℕ, ◌%◌}
use Rattle.plane.specs.Point.{Point}
use Rattle.words.specs.Ground.{first_of}
use Rattle.words.specs.Ground.{Answer}
use Rattle.masks.specs.Chain.{Chain, Picked}
use Rattle.masks.specs.Mask.{NormalPosition}
use Rattle.shapes.specs.Calls.{Moved, Joined, Summed, TurnedBack}
use Rattle.planning.specs.Planning.{ShapeSet, member, permitted, planning_tests, Planned}
use Rattle.grids.specs.Frame.{LoadCounted}
use Rattle.grids.specs.Grid.{FramePut, Staged}
use Rattle.grids.specs.Share.{ShareAnswer, Shared}
use Rattle.grids.specs.declared.Around.{Around}
use Rattle.cleaning.specs.Cleaning.{Cleaned}
use Rattle.cleaning.specs.declared.Operation.{Operation}
use Rattle.rolling.specs.Rolling.{Arrived}

pub record Kept : Type 0 where
  pub moving : (ws : List ℕ) (d : Point) (out : List ℕ) → (r : Answer) × (out' : List ℕ) × Moved ws d out r out'
  pub joining : (ws vs out : List ℕ) → (r : Answer) × (out' : List ℕ) × Joined ws vs out r out'
  pub summing : (ws vs out : List ℕ) → (r : Answer) × (out' : List ℕ) × Summed ws vs out r out'
  pub turning : (ws out : List ℕ) → (r : Answer) × (out' : List ℕ) × TurnedBack ws out r out'
  pub planning : (ws out : List ℕ)
      → (first_of (planning_tests ws out) ≡ 0 → (¬ Chain member (ShapeSet ws)) ⊎ ((d : Point) × (ms : List ℕ) × Picked permitted (ShapeSet ws) d ms))
      → (r : Answer) × (out' : List ℕ) × Planned ws out r out'
  pub positioning : (m : ℕ) → (n : ℕ) × NormalPosition (m % 512) n
  pub counting : (W H : ℕ) (f : List ℕ) → (r : Answer) × LoadCounted W H f r
  pub sharing : (W H : ℕ) (f : List ℕ) → (a : ShareAnswer) × Shared W H f a
  pub putting : (k : Around) (W H : ℕ) (f i : List ℕ) → (r : Answer) × (i' : List ℕ) × FramePut k W H f i r i'
  pub staging : (erode : Bool) (k : Around) (w W H : ℕ) (g i : List ℕ) → (r : Answer) × (i' : List ℕ) × Staged erode k w W H g i r i'
  pub cleaning : (op : Operation) (plan : List ℕ) (W H : ℕ) (f i j : List ℕ)
      → (r : Answer) × (i' : List ℕ) × (j' : List ℕ) × Cleaned op plan W H f i j r i' j'
  pub arriving : (plan : List ℕ) (W H : ℕ) (row live kept : List ℕ)
      → (r : Answer) × (live' : List ℕ) × (kept' : List ℕ) × Arrived plan W H row live kept r live' kept'
