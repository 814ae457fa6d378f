-- The owner's demand 2: sums, dilation, erosion, opening and closing are those of the plane's definitions, under the three values of document 02, W5, cut to
-- the frame only at the end; shape and plan lists are read and written exactly as laid out. The layouts themselves are shape_points, plan_points, listed and
-- plan_words of shapes. The single stage, putting, the load, also in ten-thousandths, and an arriving row are what the plane says of the grid or frame that they
-- read. What each shows is in Shows and Frames; that where every cell was measured it is Minkowski's is in Minkowski.
use Rattle.std.specs.Prelude.{◌≡◌, ◌⊎◌, Bool, List, ℕ, ◌%◌}
use Rattle.plane.specs.Lists.{In}
use Rattle.plane.specs.Point.{Point, ◌⊕◌, moved}
use Rattle.words.specs.Ground.{first_of, stated, result}
use Rattle.words.specs.Word.{stage_mask}
use Rattle.words.specs.Ground.{Answer}
use Rattle.masks.specs.Chain.{sum_of}
use Rattle.masks.specs.Mask.{mask_points, NormalPosition}
use Rattle.shapes.specs.Plan.{plan_points, plan_offset, plan_masks}
use Rattle.shapes.specs.Calls.{Moved, moving_tests, Joined, joining_tests, Summed, summing_tests, TurnedBack, turning_tests}
use Rattle.planning.specs.Planning.{ShapeSet}
use Rattle.grids.specs.Frame.{frame, frame_tests, LoadCounted}
use Rattle.grids.specs.Grid.{put_tests, FramePut, stage_tests, Staged}
use Rattle.grids.specs.Share.{ShareAnswer, share_tests, Shared}
use Rattle.grids.specs.declared.Around.{Around}
use Rattle.cleaning.specs.Cleaning.{operation_tests, part, Cleaned}
use Rattle.cleaning.specs.declared.Operation.{Operation}
use Rattle.rolling.specs.Rolling.{arrival_tests, Arrived}
use Rattle.claim.specs.Frames.{beyond, grid_plane, GridIs, StageGives, PartIs, RowShows}
use Rattle.claim.specs.Shows.{ListShows, PositionShows, occupied_points, measured_points, ShareShows}

pub record Demand2 : Type 0 where
  -- the words written stand for exactly the points moved, joined or summed, or for those of the plan
  pub moving : (ws : List ℕ) (d : Point) (out : List ℕ) (r : Answer) (out' : List ℕ) → Moved ws d out r out' → first_of (moving_tests ws d out) ≡ 0
      → ListShows (moved d (ShapeSet ws)) out r out'
  pub joining : (ws vs out : List ℕ) (r : Answer) (out' : List ℕ) → Joined ws vs out r out' → first_of (joining_tests ws vs out) ≡ 0
      → ListShows (λ p. ShapeSet ws p ⊎ ShapeSet vs p) out r out'
  pub summing : (ws vs out : List ℕ) (r : Answer) (out' : List ℕ) → Summed ws vs out r out' → first_of (summing_tests ws vs out) ≡ 0
      → ListShows (ShapeSet ws ⊕ ShapeSet vs) out r out'
  pub turning : (ws out : List ℕ) (r : Answer) (out' : List ℕ) → TurnedBack ws out r out' → first_of (turning_tests ws out) ≡ 0
      → ListShows (moved (plan_offset ws) (In (sum_of (plan_masks ws)))) out r out'
  -- the normal position of a mask, whatever the argument holds above nine bits
  pub positioning : (m n : ℕ) → NormalPosition (m % 512) n → PositionShows m n
  -- on every accepted plan list and frame, whoever wrote the plan, what is handed back for the number that the operation answered is what the rules
  -- make of the frame and the plan's points
  pub cleaning : (op : Operation) (plan : List ℕ) (W H : ℕ) (f i j : List ℕ) (s : Answer) (i' j' : List ℕ) → Cleaned op plan W H f i j s i' j'
      → first_of (operation_tests plan W H f i j) ≡ 0
      → PartIs op W H f (In (plan_points plan)) (part (stated s).1 W H i' j')
  -- after putting the grid is the frame; after a single stage it is what the rule gives of the grid read and the mask's points; outside the frame, or the grid,
  -- the plane is free or occupied, by the kind of grid
  pub putting : (k : Around) (W H : ℕ) (f i : List ℕ) (r : Answer) (i' : List ℕ) → FramePut k W H f i r i' → first_of (put_tests W H f i) ≡ 0
      → GridIs k W H (λ p v. v ≡ frame (beyond k) W H f p) i r i'
  pub staging : (erode : Bool) (k : Around) (w W H : ℕ) (g i : List ℕ) (r : Answer) (i' : List ℕ) → Staged erode k w W H g i r i'
      → first_of (stage_tests w W H g i) ≡ 0
      → GridIs k W H (StageGives erode (In (mask_points (stage_mask w))) (grid_plane k W H g)) i r i'
  -- the load is the number of the frame's points that are occupied
  pub counting : (W H : ℕ) (f : List ℕ) (r : Answer) → LoadCounted W H f r → first_of (frame_tests W H f) ≡ 0
      → stated r ≡ result (occupied_points W H f)
  -- and in ten-thousandths it is that number's, of the points that were measured
  pub sharing : (W H : ℕ) (f : List ℕ) (a : ShareAnswer) → Shared W H f a → first_of (share_tests W H f) ≡ 0
      → ShareShows (occupied_points W H f) (measured_points W H f) a
  -- an arriving row: what both frames show then
  pub arriving : (plan : List ℕ) (W H : ℕ) (row live kept : List ℕ) (s : Answer) (live' kept' : List ℕ) → Arrived plan W H row live kept s live' kept'
      → first_of (arrival_tests plan W H row live kept) ≡ 0 → RowShows (In (plan_points plan)) W H row live kept s live' kept'
