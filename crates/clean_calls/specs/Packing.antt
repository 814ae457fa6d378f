-- Document 02, W5: a frame packed into the first work image, both levels of it: into one plane, which has both where no cell is 2, or into two.
use Rattle.std.specs.Prelude.{◌≡◌, Bool, true, false, List, ℕ, ◌+◌, ◌*◌, ◌≤◌, length, get_or, drop}
use Rattle.grids.specs.Frame.{bad_size, grid_size, full, highest}
use Rattle.grids.specs.Grid.{grid_bytes, put}
use Rattle.grids.specs.declared.Around.{Around}
use Rattle.planes.specs.Bits.{level}
use Rattle.planes.specs.Planes.{plane_size, second_at, Shows}
use Rattle.result_steps.specs.Levels.{Behind}

-- what can be packed: sides that pass, all cells, none above 2, and none above 1 where there is one plane; and an image with room for the grid
pub record FramePackable (two : Bool) (W H : ℕ) (f i : List ℕ) : Type 0 where
  pub sides : bad_size W H ≡ false
  pub cells : W * H ≤ length f
  pub upto : (k : ℕ) → get_or f k 0 ≤ highest
  pub alone : two ≡ false → (k : ℕ) → get_or f k 0 ≤ full
  pub room : grid_size W H ≤ length i

-- a plane shows a level of the grid that the frame is put into
abbrev pub FrameShown : Bool → Around → ℕ → ℕ → List ℕ → List ℕ → Type 0
FrameShown some k W H f p = Shows (W + 15) (H + 15) (λ q. level some (grid_bytes k W H (put k W H f) q)) p

-- the second plane was packed
pub record SecondPacked (k : Around) (W H : ℕ) (f i i' : List ℕ) : Type 0 where
  pub kept : Behind W H i i'
  pub shown : FrameShown true k W H f (drop (plane_size (W + 15) (H + 15)) i')

-- both levels were
pub record LevelsPacked (two : Bool) (k : Around) (W H : ℕ) (f i i' : List ℕ) : Type 0 where
  pub size : length i' ≡ length i
  pub past : drop (grid_size W H) i' ≡ drop (grid_size W H) i
  pub one : FrameShown false k W H f i'
  pub some : FrameShown true k W H f (drop (second_at two (W + 15) (H + 15)) i')
