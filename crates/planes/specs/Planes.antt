-- Bit planes: a picture of zeros and ones, eight rows of cells to a byte. A plane of C columns and R rows has C + 2 bytes a row of bytes, of which the
-- first two are pads, a row of bytes more above and below, and two bytes at its end; what is no cell of the picture holds the value outside it. So a cell
-- up to two columns or eight rows away is always a cell of the plane, and no flat distance that a stage reads at wraps into another row's cells.
use Rattle.std.specs.Prelude.{◌≡◌, Bool, true, false, ◌&&◌, List, map, ℕ, ◌+◌, ◌*◌, ◌/◌, ◌%◌, ◌<◌, ◌≤◌, leb, ℤ, pos, negsuc, ◌-ℤ◌, length, get_or, drop}
use Rattle.plane.specs.Point.{Point, ◌-ᵖ◌}
use Rattle.masks.specs.Mask.{mask_points}
use Rattle.grids.specs.declared.Around.{Around}
use Rattle.grids.specs.declared.Around.TheVariants.{Free, Occupied}
use Rattle.grids.specs.Image.{view, cells}
use Rattle.rows.specs.Cells.{bit}
use Rattle.ranges.specs.Ranges.{Fitted, Written}
use Rattle.cuts.specs.Cuts.{cut_out, sides_fit}
use Rattle.planes.specs.Bits.{bits_over, level_bit, of_levels}

-- rows of bytes that R rows of cells take
abbrev pub byte_rows : ℕ → ℕ
byte_rows R = (R + 7) / 8

-- rows of cells that the last of them has
abbrev pub last_rows : ℕ → ℕ
last_rows R = (R + 7) % 8 + 1

-- bytes that a plane of C columns and R rows takes
abbrev pub plane_size : ℕ → ℕ → ℕ
plane_size C R = (byte_rows R + 2) * (C + 2) + 2

-- where a second plane starts: where the first ends; with the first where one plane is both
abbrev pub second_at : Bool → ℕ → ℕ → ℕ
second_at false C R = 0
second_at true C R = plane_size C R

-- column x of row y of the bytes p, s bytes a row of bytes, counted from the plane's first byte and its lowest bit
unfoldable pub bit_seen : ℕ → List ℕ → ℕ → ℕ → ℕ
bit_seen s p x y = bit (get_or p (y / 8 * s + x) 0) (y % 8)

-- p is a plane of C columns and R rows that shows the picture f, in every bit: the cell (0, 0) is column 2 of row 8
pub record Shows (C R : ℕ) (f : Point → ℕ) (p : List ℕ) : Type 0 where
  pub size : plane_size C R ≤ length p
  pub at : (x y : ℕ) → x < C + 4 → y < byte_rows R * 8 + 16 → bit_seen (C + 2) p x y ≡ f (pos x -ℤ pos 2, pos y -ℤ pos 8)

-- bytes past the plane, and how many there are, are as they were
pub record PlaneOnly (C R : ℕ) (d d' : List ℕ) : Type 0 where
  pub len : length d' ≡ length d
  pub past : (k : ℕ) → plane_size C R ≤ k → get_or d' k 0 ≡ get_or d k 0

-- columns and rows of which planes are made, and the value v outside
abbrev pub plane_sides : ℕ → ℕ → ℕ → Bool
plane_sides v C R = leb 1 R && leb C 65535 && leb R 65535 && leb v 1

-- ---- packing

-- what a plane has room for: one level of each cell
abbrev pub level_bits : Bool → List ℕ → List ℕ
level_bits some f = map (level_bit some) f

-- where a frame's cell (0, 0) stands in the plane: at its own, or at (15, 15)
abbrev pub place_of : Bool → ℕ
place_of false = 0
place_of true = 15

-- the kind of grid whose frame stands there
abbrev pub far_of : Around → Bool
far_of Free = false
far_of Occupied = true

-- W columns and H rows in n bytes go into a plane of C columns and R rows in k bytes
abbrev pub pack_fits : ℕ → Bool → ℕ → ℕ → ℕ → ℕ → ℕ → ℕ → Bool
pack_fits v far W H C R n k = plane_sides v C R && leb (W + place_of far) C && leb (H + place_of far) R && leb (W * H) n && leb (plane_size C R) k

-- one level of a frame f of W columns and H rows, with v around it, was packed into d, which then is d'
pub record FramePacked (some : Bool) (v : ℕ) (far : Bool) (W H C R : ℕ) (f d d' : List ℕ) : Type 0 where
  pub kept : PlaneOnly C R d d'
  pub shown : Shows C R (λ p. view v W H (level_bits some f) (p -ᵖ (pos (place_of far), pos (place_of far)))) d'

abbrev pub Packed : Bool → ℕ → Bool → ℕ → ℕ → ℕ → ℕ → List ℕ → List ℕ → Bool → List ℕ → Type 0
Packed some v far W H C R f d r d' = Fitted (pack_fits v far W H C R (length f) (length d)) (FramePacked some v far W H C R f d d') d r d'

-- ---- the stage

-- the picture f after the stage of the mask m, by erosion or by dilation, cut to C columns and R rows, with v outside them
unfoldable pub after_stage : Bool → ℕ → ℕ → ℕ → ℕ → (Point → ℕ) → Point → ℕ
after_stage erode v C R m f = view v C R (cells C R (bits_over erode (mask_points m) f))

-- a plane of C columns and R rows is read in n bytes and written in k
abbrev pub stage_fits : ℕ → ℕ → ℕ → ℕ → ℕ → Bool
stage_fits v C R n k = plane_sides v C R && leb (plane_size C R) n && leb (plane_size C R) k

-- a plane p was taken through the stage of the mask m, with v outside, into d, which then is d': whatever p shows, d' shows after the stage
pub record PlaneTaken (erode : Bool) (v C R m : ℕ) (p d d' : List ℕ) : Type 0 where
  pub kept : PlaneOnly C R d d'
  pub shown : (f : Point → ℕ) → Shows C R f p → Shows C R (after_stage erode v C R m f) d'

abbrev pub PlaneStaged : Bool → ℕ → ℕ → ℕ → ℕ → List ℕ → List ℕ → Bool → List ℕ → Type 0
PlaneStaged erode v C R m p d r d' = Fitted (stage_fits v C R (length p) (length d)) (PlaneTaken erode v C R m p d d') d r d'

-- ---- unpacking

-- the cell of a plane p of C columns that stands at (x, y)
unfoldable pub held_at : ℕ → List ℕ → ℤ → ℤ → ℕ
held_at C p (pos x) (pos y) = bit_seen (C + 2) p (x + 2) (y + 8)
held_at C p (pos x) (negsuc y) = 0
held_at C p (negsuc x) y = 0

-- the cells whose levels are in the plane at the start of p and in the one from its byte o on, of C columns and R rows, row 0 first; where o is 0 they are in
-- one plane, and no cell is 2
abbrev pub plane_cells : ℕ → ℕ → ℕ → List ℕ → List ℕ
plane_cells o C R p = cells C R (λ q. of_levels (held_at C p q.0 q.1) (held_at C (drop o p) q.0 q.1))

-- W columns and H rows are cut out of planes in n bytes, of which the second starts at o, into k bytes, at the distances a − 15 and b − 15
abbrev pub unpack_fits : ℕ → ℕ → ℕ → ℕ → ℕ → ℕ → ℕ → ℕ → ℕ → Bool
unpack_fits o W H C R a b n k = sides_fit W H C R a b && leb o 65535 && leb (o + plane_size C R) n && leb (W * H) k

-- the cut of the planes' cells was written to d, which then is d'
abbrev pub Unpacked : ℕ → ℕ → ℕ → ℕ → ℕ → ℕ → ℕ → ℕ → List ℕ → List ℕ → Bool → List ℕ → Type 0
Unpacked o v W H C R a b p d r d' = Written (unpack_fits o W H C R a b (length p) (length d)) (W * H) (cut_out v W H C R a b (plane_cells o C R p)) d r d'
