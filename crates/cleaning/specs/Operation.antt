-- Document 01, "Frames": what a shape gives directly, and what the single stages give in turn.
use Rattle.std.specs.Prelude.{◌≡◌, Bool, true, false, List, [], ◌∷◌, ℕ}
use Rattle.plane.specs.Point.{Point, PointSet, ◌+ᵖ◌, ◌-ᵖ◌}
use Rattle.grids.specs.Image.{cells}
use Rattle.grids.specs.Rules.{Makes}
use Rattle.grids.specs.Frame.{frame}
use Rattle.grids.specs.Grid.{outside_of, grid, laid, once}
use Rattle.grids.specs.declared.Around.{Around}
use Rattle.grids.specs.declared.Around.TheVariants.{Free, Occupied}
use Rattle.cleaning.specs.declared.Operation.{Operation}
use Rattle.cleaning.specs.declared.Operation.TheVariants.{Dilation, Erosion, Opening, Closing}

-- the kind of grid that an operation works in, which says how it reads cells outside the frame: as occupied for erosion alone, as free for dilation, and for
-- opening and closing in both their halves
abbrev pub around : Operation → Around
around Dilation = Free
around Erosion = Occupied
around Opening = Free
around Closing = Free

-- the frame on the plane, as the operation's call reads it
abbrev pub as_read : Operation → ℕ → ℕ → List ℕ → Point → ℕ
as_read op W H f = frame (outside_of (around op)) W H f

-- ---- directly

-- the operation makes the picture g of the picture f and the points A, by the rules of document 02, W5; opening is the one rule and then the other on the
-- plane, and so is closing
abbrev pub Made : Operation → PointSet → (Point → ℕ) → (Point → ℕ) → Type 0
Made Dilation A f g = Makes false A f g
Made Erosion A f g = Makes true A f g
Made Opening A f g = (h : Point → ℕ) × Makes true A f h × Makes false A h g
Made Closing A f g = (h : Point → ℕ) × Makes false A f h × Makes true A h g

-- what the shape with the points A gives directly, as W × H cells r: the picture that the operation makes of the frame as its call reads it, cut to the frame
-- at the end
pub record Direct (op : Operation) (W H : ℕ) (f : List ℕ) (A : PointSet) (r : List ℕ) : Type 0 where
  pub picture : Point → ℕ
  pub made : Made op A (as_read op W H f) picture
  pub cut : r ≡ cells W H picture

-- ---- in turn

-- a grid taken through one single stage for each mask, in order
abbrev pub through : (ℕ → List ℕ → List ℕ) → List ℕ → List ℕ → List ℕ
through stage [] g = g
through stage (m ∷ ms) g = through stage ms (stage m g)

-- through all the stages by dilation, or by erosion
abbrev pub all_once : Bool → Operation → ℕ → ℕ → List ℕ → List ℕ → List ℕ
all_once erode op W H ms g = through (once erode (around op) W H) ms g

-- the last grid: by dilation, by erosion, for opening by erosion and then through all of them again by dilation, for closing the other way round
unfoldable pub last_grid : Operation → ℕ → ℕ → List ℕ → List ℕ → List ℕ
last_grid Dilation W H ms g = all_once false Dilation W H ms g
last_grid Erosion W H ms g = all_once true Erosion W H ms g
last_grid Opening W H ms g = all_once false Opening W H ms (all_once true Opening W H ms g)
last_grid Closing W H ms g = all_once true Closing W H ms (all_once false Closing W H ms g)

-- where the result's cell p is read in the last grid: (x − dx, y − dy) for dilation, (x + dx, y + dy) for erosion, (x, y) for opening and closing
abbrev pub read_at : Operation → Point → Point → Point
read_at Dilation d p = p -ᵖ d
read_at Erosion d p = p +ᵖ d
read_at Opening d p = p
read_at Closing d p = p

-- what the single stages ms give in turn with the offset d, as W × H cells: the frame, as the operation reads it, is put into a grid, the grid is taken
-- through the stages, and the result is read there; outside the grid it reads as plane cells there do
unfoldable pub in_turn : Operation → ℕ → ℕ → List ℕ → Point → List ℕ → List ℕ
in_turn op W H f d ms = cells W H (λ p. grid (around op) W H (last_grid op W H ms (laid (around op) W H (as_read op W H f))) (read_at op d p))
