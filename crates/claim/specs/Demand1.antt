-- The owner's demand 1: the answer to every call, for all words and all cells, is a result or one of the numbered refusals, the first that applies in
-- their order, and a refusal changes no lent word or cell.
use Rattle.std.specs.Prelude.{◌≡◌, ◌⊎◌, ◌≢◌, Bool, List, ℕ, ◌%◌, ◌<◌}
use Rattle.plane.specs.Point.{Point}
use Rattle.words.specs.Ground.{Test, first_of, stated, refusal}
use Rattle.words.specs.Ground.{Answer}
use Rattle.masks.specs.Chain.{Chain}
use Rattle.masks.specs.Mask.{NormalPosition}
use Rattle.shapes.specs.Calls.{Moved, moving_tests, Joined, joining_tests, Summed, summing_tests, TurnedBack, turning_tests}
use Rattle.planning.specs.Planning.{ShapeSet, member, planning_tests, Planned}
use Rattle.grids.specs.Frame.{frame_tests, LoadCounted}
use Rattle.grids.specs.Grid.{put_tests, FramePut, stage_tests, Staged}
use Rattle.grids.specs.Share.{ShareAnswer, told, share_tests, Shared}
use Rattle.grids.specs.declared.Around.{Around}
use Rattle.cleaning.specs.Cleaning.{operation_tests, Cleaned}
use Rattle.cleaning.specs.declared.Operation.{Operation}
use Rattle.rolling.specs.Rolling.{arrival_tests, Arrived}

-- for a call with these tests: the number that is answered is that of the first ground that holds, 0 where none does, and a refusal leaves all that is
-- lent as it is
abbrev pub First : List Test → Answer → Type 0 → Type 0
First tests r Unchanged = ((stated r).0 ≡ first_of tests) × ((stated r).0 ≢ 0 → Unchanged)

-- planning has one ground more, 10: no other ground holds, and no list of subsets of the square, of any length and with any offset, sums to the shape
pub record NoChain (ws out : List ℕ) (r : Answer) (out' : List ℕ) : Type 0 where
  pub first : first_of (planning_tests ws out) ≡ 0
  pub none : ¬ Chain member (ShapeSet ws)
  pub answer : stated r ≡ refusal 10
  pub kept : out' ≡ out

-- call by call
pub record Demand1 : Type 0 where
  pub moving : (ws : List ℕ) (d : Point) (out : List ℕ) (r : Answer) (out' : List ℕ) → Moved ws d out r out' → First (moving_tests ws d out) r (out' ≡ out)
  pub joining : (ws vs out : List ℕ) (r : Answer) (out' : List ℕ) → Joined ws vs out r out' → First (joining_tests ws vs out) r (out' ≡ out)
  pub summing : (ws vs out : List ℕ) (r : Answer) (out' : List ℕ) → Summed ws vs out r out' → First (summing_tests ws vs out) r (out' ≡ out)
  pub turning : (ws out : List ℕ) (r : Answer) (out' : List ℕ) → TurnedBack ws out r out' → First (turning_tests ws out) r (out' ≡ out)
  pub planning : (ws out : List ℕ) (r : Answer) (out' : List ℕ) → Planned ws out r out'
      → First (planning_tests ws out) r (out' ≡ out) ⊎ NoChain ws out r out'
  -- normal position meets no ground and is lent nothing: every argument is answered by a mask
  pub positioning : (m n : ℕ) → NormalPosition (m % 512) n → n < 512
  pub counting : (W H : ℕ) (f : List ℕ) (r : Answer) → LoadCounted W H f r → (stated r).0 ≡ first_of (frame_tests W H f)
  pub sharing : (W H : ℕ) (f : List ℕ) (a : ShareAnswer) → Shared W H f a → (told a).0 ≡ first_of (share_tests W H f)
  pub putting : (k : Around) (W H : ℕ) (f i : List ℕ) (r : Answer) (i' : List ℕ) → FramePut k W H f i r i' → First (put_tests W H f i) r (i' ≡ i)
  pub staging : (erode : Bool) (k : Around) (w W H : ℕ) (g i : List ℕ) (r : Answer) (i' : List ℕ) → Staged erode k w W H g i r i'
      → First (stage_tests w W H g i) r (i' ≡ i)
  pub cleaning : (op : Operation) (plan : List ℕ) (W H : ℕ) (f i j : List ℕ) (r : Answer) (i' j' : List ℕ)
      → Cleaned op plan W H f i j r i' j' → First (operation_tests plan W H f i j) r ((i' ≡ i) × (j' ≡ j))
  pub arriving : (plan : List ℕ) (W H : ℕ) (row live kept : List ℕ) (r : Answer) (live' kept' : List ℕ) → Arrived plan W H row live kept r live' kept'
      → First (arrival_tests plan W H row live kept) r ((live' ≡ live) × (kept' ≡ kept))
