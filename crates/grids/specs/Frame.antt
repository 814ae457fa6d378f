-- Document 01, "Frames": the values of cells, frames, grounds 11 to 14, and the load.
use Rattle.std.specs.Prelude.{◌≡◌, Bool, true, false, not, ◌||◌, List, [], ◌∷◌, ℕ, zero, suc, ◌+◌, ◌*◌, min, max, ltb, eqb, length}
use Rattle.plane.specs.Lists.{any, keep}
use Rattle.plane.specs.Point.{Point, PointSet}
use Rattle.words.specs.Ground.{Test, stated, result, Answered}
use Rattle.words.specs.Ground.{Answer}
use Rattle.grids.specs.Image.{view, taken}

-- one byte a cell: 0 free, 1 occupied, 2 not measured (document 02, W5). In order they are 0, 2, 1: free is the least value and full the greatest
abbrev pub free : ℕ
free = 0

abbrev pub full : ℕ
full = 1

abbrev pub unmeasured : ℕ
unmeasured = 2

-- the highest byte that a cell may be
abbrev pub highest : ℕ
highest = 2

-- the greater of two values: 1 if either is 1, else 2 if either is 2, else 0, which is the smaller number of those that are not 0
abbrev pub greater : ℕ → ℕ → ℕ
greater zero b = b
greater (suc a) zero = suc a
greater (suc a) (suc b) = suc (min a b)

-- the lesser of two values: 0 if either is 0, else 2 if either is 2, else 1, which is the larger number
abbrev pub lesser : ℕ → ℕ → ℕ
lesser zero b = zero
lesser (suc a) zero = zero
lesser (suc a) (suc b) = suc (max a b)

-- the lesser of two values for erosion, the greater for dilation, and what each begins with
abbrev pub pick_of : Bool → ℕ → ℕ → ℕ
pick_of true = lesser
pick_of false = greater

abbrev pub seed_of : Bool → ℕ
seed_of true = full
seed_of false = free

-- a picture of cells taken through a list of points, by erosion or by dilation
abbrev pub over : Bool → List Point → (Point → ℕ) → Point → ℕ
over erode P f = taken erode (pick_of erode) (seed_of erode) P f

-- W columns and H rows of cells on the plane, row 0 first, with the value v outside
abbrev pub frame : ℕ → ℕ → ℕ → List ℕ → Point → ℕ
frame v W H f = view v W H f

-- the points whose cell, inside the frame or outside it, reads as occupied
abbrev pub occupied : (Point → ℕ) → PointSet
occupied f p = f p ≡ full

-- ---- grounds

-- ground 11: W or H isn't 1 to 240
abbrev pub bad_side : ℕ → Bool
bad_side n = eqb n 0 || ltb 240 n

abbrev pub bad_size : ℕ → ℕ → Bool
bad_size W H = bad_side W || bad_side H

-- ground 12: the frame's length isn't W × H
abbrev pub wrong_length : ℕ → ℕ → List ℕ → Bool
wrong_length W H f = not (eqb (length f) (W * H))

-- ground 13: a cell is above 2
abbrev pub bad_cell : List ℕ → Bool
bad_cell f = any (ltb highest) f

-- ground 14: a work image is shorter than (W + 15) × (H + 15)
abbrev pub grid_size : ℕ → ℕ → ℕ
grid_size W H = (W + 15) * (H + 15)

abbrev pub short_image : ℕ → ℕ → List ℕ → Bool
short_image W H i = ltb (length i) (grid_size W H)

-- a frame: grounds 11 to 13
unfoldable pub frame_tests : ℕ → ℕ → List ℕ → List Test
frame_tests W H f = (11, bad_size W H) ∷ (12, wrong_length W H f) ∷ (13, bad_cell f) ∷ []

-- ---- the load: the number of occupied cells in a frame

unfoldable pub load : List ℕ → ℕ
load f = length (keep (λ v. eqb v full) f)

abbrev pub LoadCounted : ℕ → ℕ → List ℕ → Answer → Type 0
LoadCounted W H f r = Answered (frame_tests W H f) r (Unit {0}) (stated r ≡ result (load f))
