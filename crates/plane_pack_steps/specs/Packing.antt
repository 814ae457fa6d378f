-- One level of a frame packed group by group, of eight rows each.
use Rattle.std.specs.Prelude.{◌≡◌, Bool, true, false, cond, List, ℕ, ◌+◌, ◌-◌, ◌*◌, min, ◌<◌, ◌≤◌, ltb, pos, ◌-ℤ◌, length, get_or}
use Rattle.rows.specs.Cells.{bit}
use Rattle.grids.specs.Image.{view}
use Rattle.planes.specs.Bits.{level_bit}
use Rattle.planes.specs.Planes.{byte_rows, plane_size, bit_seen, level_bits, place_of}

-- the next rows of f from q on, w cells a row and at most 8 of the a that are left, were put into the bytes of d from p on, with the bits of v above them
pub record GroupPut (some : Bool) (w a p q v : ℕ) (f d d' : List ℕ) : Type 0 where
  pub len : length d' ≡ length d
  pub at : (k i : ℕ) → k < w → i < 8 → bit (get_or d' (p + k) 0) i ≡ cond (ltb i (min a 8)) (level_bit some (get_or f (q + (i * w + k)) 0)) (bit v (i - min a 8))
  pub below : (k : ℕ) → k < p → get_or d' k 0 ≡ get_or d k 0
  pub above : (k : ℕ) → p + w ≤ k → get_or d' k 0 ≡ get_or d k 0

-- the first row of f, w cells, was put into bit 7 of the bytes of d from p on, with the bits of v below it
pub record LeadPut (some : Bool) (w p v : ℕ) (f d d' : List ℕ) : Type 0 where
  pub len : length d' ≡ length d
  pub at : (k i : ℕ) → k < w → i < 8 → bit (get_or d' (p + k) 0) i ≡ cond (ltb i 7) v (level_bit some (get_or f k 0))
  pub below : (k : ℕ) → k < p → get_or d' k 0 ≡ get_or d k 0
  pub above : (k : ℕ) → p + w ≤ k → get_or d' k 0 ≡ get_or d k 0

-- the rows of a frame that stand before the first that begins a row of bytes
abbrev pub lead_of : Bool → ℕ
lead_of false = 0
lead_of true = 1

-- the frame f of W columns and H rows, one level of each cell, its cell (0, 0) at (s, s) of the plane, where the plane counts (x, z)
abbrev pub framed : Bool → ℕ → ℕ → ℕ → ℕ → List ℕ → ℕ → ℕ → ℕ
framed some v s W H f x z = view v W H (level_bits some f) (pos x -ℤ pos (2 + s), pos z -ℤ pos (8 + s))

-- the plane d shows the frame in its rows below y, and v from there on
pub record Until (some : Bool) (v s W H C R y : ℕ) (f d : List ℕ) : Type 0 where
  pub at : (x z : ℕ) → x < C + 4 → z < byte_rows R * 8 + 16 → bit_seen (C + 2) d x z ≡ cond (ltb z (y + (8 + s))) (framed some v s W H f x z) v

-- a frame f of W columns and H rows goes into a plane of C columns and R rows in d, with v around it
pub record Packable (v : ℕ) (far : Bool) (W H C R : ℕ) (f d : List ℕ) : Type 0 where
  pub wide : W + place_of far ≤ C
  pub high : H + place_of far ≤ R
  pub columns : C ≤ 65535
  pub rows : R ≤ 65535
  pub around : v ≤ 1
  pub cells : W * H ≤ length f
  pub room : plane_size C R ≤ length d
