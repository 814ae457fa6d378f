-- Document 01, "Frames": columns and rows cut out of a source at a distance, on flat slices of bytes, row 0 first. A frame is put into a grid so: the frame is
-- the source, and the distance is none. And the result is taken out of a grid so.
-- Sizes are any that fit, and the value of cells that the source does not have is given by the caller. Which sizes, values and images a call refuses by
-- number is said where the calls of document 01 are.
use Rattle.std.specs.Prelude.{Bool, cond, ◌&&◌, List, ℕ, ◌+◌, ◌-◌, ◌*◌, ◌<◌, ◌≤◌, leb, ltb, pos, ◌-ℤ◌, length}
use Rattle.plane.specs.Point.{◌+ᵖ◌}
use Rattle.grids.specs.Image.{view, cells}
use Rattle.ranges.specs.Ranges.{Written}

-- W columns and H rows read from the source g of C columns and R rows: cell (x, y) is the source's cell (x + a − 15, y + b − 15), v where that is outside
-- the source
unfoldable pub cut_out : ℕ → ℕ → ℕ → ℕ → ℕ → ℕ → ℕ → List ℕ → List ℕ
cut_out v W H C R a b g = cells W H (λ p. view v C R g (p +ᵖ (pos a -ℤ pos 15, pos b -ℤ pos 15)))

-- columns, rows and distances for which the cut is made
abbrev pub sides_fit : ℕ → ℕ → ℕ → ℕ → ℕ → ℕ → Bool
sides_fit W H C R a b = leb W 65535 && leb H 65535 && leb C 65535 && leb R 65535 && leb a 65535 && leb b 65535

-- and the cells in the images' n and k bytes
abbrev pub cut_fits : ℕ → ℕ → ℕ → ℕ → ℕ → ℕ → ℕ → ℕ → Bool
cut_fits W H C R a b n k = sides_fit W H C R a b && leb (C * R) n && leb (W * H) k

-- a cut from the image g into the image d, which then is d'
abbrev pub Cut : ℕ → ℕ → ℕ → ℕ → ℕ → ℕ → ℕ → List ℕ → List ℕ → Bool → List ℕ → Type 0
Cut v W H C R a b g d r d' = Written (cut_fits W H C R a b (length g) (length d)) (W * H) (cut_out v W H C R a b g) d r d'

-- ---- row by row

-- e of the first w cells, counted from 0, stand before n when a is added to their numbers
pub record Edge (w a n e : ℕ) : Type 0 where
  pub all : e ≤ w
  pub last : 0 < e → e + a ≤ n
  pub next : e < w → n ≤ e + a

-- the cell s − 15 of a row of n cells, which c gives by their numbers; v left and right of the row
unfoldable pub shifted : ℕ → ℕ → (ℕ → ℕ) → ℕ → ℕ
shifted v n c s = cond (leb 15 s) (cond (ltb (s - 15) n) (c (s - 15)) v) v

-- the cell (s − 15, t − 15) of the source g of C columns and R rows; v outside it
unfoldable pub seen : ℕ → ℕ → ℕ → List ℕ → ℕ → ℕ → ℕ
seen v C R g s t = view v C R g (pos s -ℤ pos 15, pos t -ℤ pos 15)
