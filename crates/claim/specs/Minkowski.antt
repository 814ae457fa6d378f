-- The owner's demand 2 where every cell was measured: what is given is Minkowski's ⊕ and ⊖ of the sets of occupied points, as it was before cells could be 2.
use Rattle.std.specs.Prelude.{◌≡◌, ◌⊎◌, ◌≢◌, Bool, true, false, List, ℕ, ◌+◌, ◌*◌, ◌<◌, pos, length, get_or}
use Rattle.plane.specs.Lists.{In}
use Rattle.plane.specs.Point.{Point, PointSet, dilation, erosion, opening, closing}
use Rattle.words.specs.Ground.{first_of, stated}
use Rattle.words.specs.Word.{stage_mask}
use Rattle.words.specs.Ground.{Answer}
use Rattle.masks.specs.Mask.{mask_points}
use Rattle.shapes.specs.Plan.{plan_points}
use Rattle.grids.specs.Frame.{free, frame, occupied, grid_size}
use Rattle.grids.specs.Grid.{put_tests, FramePut, stage_tests, Staged}
use Rattle.grids.specs.declared.Around.{Around}
use Rattle.cleaning.specs.Cleaning.{operation_tests, part, Cleaned}
use Rattle.cleaning.specs.Sets.{Says}
use Rattle.cleaning.specs.declared.Operation.{Operation}
use Rattle.cleaning.specs.declared.Operation.TheVariants.{Dilation, Erosion, Opening, Closing}
use Rattle.claim.specs.Frames.{beyond, grid_plane, GridIs}

-- no byte of the list is 2
abbrev pub AllMeasured : List ℕ → Type 0
AllMeasured f = (i : ℕ) → get_or f i 0 ≢ 2

-- the frame's occupied points, and these joined to everything outside the frame
abbrev pub frame_points : ℕ → ℕ → List ℕ → PointSet
frame_points W H f = occupied (frame free W H f)

abbrev pub with_outside : ℕ → ℕ → List ℕ → PointSet
with_outside W H f p = frame_points W H f p ⊎ ((x y : ℕ) → x < W → y < H → ¬ (p ≡ (pos x, pos y)))

-- the set that an operation makes of the frame and the points A
abbrev pub operation_made : Operation → ℕ → ℕ → List ℕ → PointSet → PointSet
operation_made Dilation W H f A = dilation (frame_points W H f) A
operation_made Erosion W H f A = erosion (with_outside W H f) A
operation_made Opening W H f A = opening (frame_points W H f) A
operation_made Closing W H f A = closing (frame_points W H f) A

-- W × H cells p show the set S: cell (x, y) is 1 if (x, y) lies in S, and 0 if not
pub record PartShows (W H : ℕ) (S : PointSet) (p : List ℕ) : Type 0 where
  pub size : length p ≡ W * H
  pub cell : (x y : ℕ) → x < W → y < H → Says (get_or p (y * W + x) 0) (S (pos x, pos y))

-- a byte is 1 if its plane cell lies in the set, and 0 if not
abbrev pub InSet : PointSet → Point → ℕ → Type 0
InSet S p v = Says v (S p)

-- the set that a single stage makes of X and the points A of its mask
abbrev pub stage_made : Bool → PointSet → PointSet → PointSet
stage_made true X A = erosion X A
stage_made false X A = dilation X A

pub record Minkowski : Type 0 where
  pub cleaning : (op : Operation) (plan : List ℕ) (W H : ℕ) (f i j : List ℕ) (s : Answer) (i' j' : List ℕ) → Cleaned op plan W H f i j s i' j'
      → first_of (operation_tests plan W H f i j) ≡ 0 → AllMeasured f
      → PartShows W H (operation_made op W H f (In (plan_points plan))) (part (stated s).1 W H i' j')
  pub putting : (k : Around) (W H : ℕ) (f i : List ℕ) (r : Answer) (i' : List ℕ) → FramePut k W H f i r i' → first_of (put_tests W H f i) ≡ 0
      → AllMeasured f
      → GridIs k W H (InSet (occupied (frame (beyond k) W H f))) i r i'
  pub staging : (erode : Bool) (k : Around) (w W H : ℕ) (g i : List ℕ) (r : Answer) (i' : List ℕ) → Staged erode k w W H g i r i'
      → first_of (stage_tests w W H g i) ≡ 0 → ((n : ℕ) → n < grid_size W H → get_or g n 0 ≢ 2)
      → GridIs k W H (InSet (stage_made erode (occupied (grid_plane k W H g)) (In (mask_points (stage_mask w))))) i r i'
