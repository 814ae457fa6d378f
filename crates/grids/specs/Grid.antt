-- Document 01, "Frames": grids, putting a frame into one, and the single stage by dilation or erosion.
use Rattle.std.specs.Prelude.{◌≡◌, Bool, not, ◌||◌, List, [], ◌∷◌, ◌++◌, ℕ, ◌+◌, pos, take, drop}
use Rattle.plane.specs.Point.{Point, ◌+ᵖ◌, ◌-ᵖ◌}
use Rattle.words.specs.Ground.{Test, stated, result, Answered}
use Rattle.words.specs.Word.{wrong_kind, extra_bit, stage_kind, stage_mask}
use Rattle.words.specs.Ground.{Answer}
use Rattle.masks.specs.Mask.{mask_points, stage}
use Rattle.grids.specs.Image.{view, cells}
use Rattle.grids.specs.declared.Around.{Around}
use Rattle.grids.specs.declared.Around.TheVariants.{Free, Occupied}
use Rattle.grids.specs.Frame.{free, full, over, frame, bad_size, bad_cell, short_image, grid_size, frame_tests}

-- the two kinds of grid (document 02, W3). The value of plane cells outside it, and of those around a frame that is put into it
abbrev pub outside_of : Around → ℕ
outside_of Free = free
outside_of Occupied = full

-- where it starts: its first byte is the plane cell (0, 0), or (−15, −15)
abbrev pub start_of : Around → ℕ
start_of Free = 0
start_of Occupied = 15

abbrev pub corner : Around → Point
corner k = (pos (start_of k), pos (start_of k))

-- a grid is the first (W + 15) × (H + 15) bytes of a work image, row by row
abbrev pub grid_bytes : Around → ℕ → ℕ → List ℕ → Point → ℕ
grid_bytes k W H g = view (outside_of k) (W + 15) (H + 15) g

-- on the plane, x and y count from its start
abbrev pub grid : Around → ℕ → ℕ → List ℕ → Point → ℕ
grid k W H g p = grid_bytes k W H g (p +ᵖ corner k)

-- a picture put into a grid: cut to it
abbrev pub laid : Around → ℕ → ℕ → (Point → ℕ) → List ℕ
laid k W H f = cells (W + 15) (H + 15) (λ p. f (p -ᵖ corner k))

-- a frame put into a grid, with the rest of the grid as the plane is outside it
unfoldable pub put : Around → ℕ → ℕ → List ℕ → List ℕ
put k W H f = laid k W H (frame (outside_of k) W H f)

-- a grid taken through the single stage of the mask m, by erosion or by dilation, cut to the grid
unfoldable pub once : Bool → Around → ℕ → ℕ → ℕ → List ℕ → List ℕ
once erode k W H m g = laid k W H (over erode (mask_points m) (grid k W H g))

-- an image whose grid is written: bytes past the grid are unchanged
abbrev pub written : ℕ → ℕ → List ℕ → List ℕ → List ℕ
written W H g i = g ++ drop (grid_size W H) i

-- ---- what the calls promise

-- putting a frame into a grid: grounds 11 to 14
unfoldable pub put_tests : ℕ → ℕ → List ℕ → List ℕ → List Test
unfolding frame_tests
put_tests W H f i = frame_tests W H f ++ (14, short_image W H i) ∷ []

-- a frame and two work images: grounds 11 to 14
unfoldable pub work_tests : ℕ → ℕ → List ℕ → List ℕ → List ℕ → List Test
unfolding frame_tests
work_tests W H f i j = frame_tests W H f ++ (14, short_image W H i || short_image W H j) ∷ []

-- a single stage, of a stage word and two images: grounds 2, 3, 7, 11, 13 over the grid read as far as its image goes, and 14 over both images
unfoldable pub stage_tests : ℕ → ℕ → ℕ → List ℕ → List ℕ → List Test
stage_tests w W H g i =
    (2, wrong_kind stage_kind w)
    ∷ (3, extra_bit stage_kind w)
    ∷ (7, not (stage (stage_mask w)))
    ∷ (11, bad_size W H)
    ∷ (13, bad_cell (take (grid_size W H) g))
    ∷ (14, short_image W H g || short_image W H i)
    ∷ []

-- the grid g was written into the image i, which then is i'; the result has nothing to say and is 0
pub record GridWritten (W H : ℕ) (g i : List ℕ) (r : Answer) (i' : List ℕ) : Type 0 where
  pub answer : stated r ≡ result 0
  pub image : i' ≡ written W H g i

abbrev pub FramePut : Around → ℕ → ℕ → List ℕ → List ℕ → Answer → List ℕ → Type 0
FramePut k W H f i r i' = Answered (put_tests W H f i) r (i' ≡ i) (GridWritten W H (put k W H f) i r i')

-- the image read, g, is lent for reading alone
abbrev pub Staged : Bool → Around → ℕ → ℕ → ℕ → List ℕ → List ℕ → Answer → List ℕ → Type 0
Staged erode k w W H g i r i' = Answered (stage_tests w W H g i) r (i' ≡ i) (GridWritten W H (once erode k W H (stage_mask w) g) i r i')
