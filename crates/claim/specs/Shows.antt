-- What the owner's demand 2 speaks of, in the documents' own words: what lists, masks and loads show, by points of the plane. Of the crates below it names the
-- layouts, frames with a value outside them, and the plane's definitions.
use Rattle.std.specs.Prelude.{◌≡◌, not, List, ℕ, ◌+◌, ◌*◌, ◌<◌, eqb, ℤ, pos, length, take, drop, Ok}
use Rattle.plane.specs.Lists.{In, keep}
use Rattle.plane.specs.Point.{Point, PointSet, ◌≐◌, moved}
use Rattle.words.specs.Ground.{stated}
use Rattle.words.specs.Ground.{Answer}
use Rattle.masks.specs.Mask.{mask_points}
use Rattle.shapes.specs.Listed.{listed}
use Rattle.shapes.specs.Shape.{shape_points}
use Rattle.planning.specs.Planning.{ShapeSet}
use Rattle.grids.specs.Share.{ShareAnswer}
use Rattle.grids.specs.Frame.{free, full, frame}
use Rattle.grids.specs.Image.{cells}

-- ---- lists

-- the words written to out, which then is out', are as many as the number answered; they stand for the set S, and are laid out as the list of their points
-- is, with the least anchor; the words past them stay
pub record ListShows (S : PointSet) (out : List ℕ) (r : Answer) (out' : List ℕ) : Type 0 where
  pub stands : ShapeSet (take (stated r).1 out') ≐ S
  pub laid : take (stated r).1 out' ≡ listed (shape_points (take (stated r).1 out'))
  pub past : drop (stated r).1 out' ≡ drop (stated r).1 out

-- ---- normal position (document 02, W4)

-- the mask n is m, of which nine bits are cells, shifted down by rows until row 0 has a cell, then by columns until column 0 has one; 0 where m has no cell
pub record PositionShows (m n : ℕ) : Type 0 where
  pub mask : n < 512
  pub columns : ℕ
  pub rows : ℕ
  pub move : In (mask_points m) ≐ moved (pos columns, pos rows) (In (mask_points n))
  pub row_0 : (p : Point) → In (mask_points m) p → (x : ℤ) × In (mask_points n) (x, pos 0)
  pub column_0 : (p : Point) → In (mask_points m) p → (y : ℤ) × In (mask_points n) (pos 0, y)
  pub none : ((p : Point) → ¬ In (mask_points m) p) → n ≡ 0

-- ---- the load

-- the number of the frame's points that are occupied
abbrev pub occupied_points : ℕ → ℕ → List ℕ → ℕ
occupied_points W H f = length (keep (λ p. eqb (frame free W H f p) full) (cells W H (λ p. p)))

-- and of those that were measured (document 02, W5)
abbrev pub measured_points : ℕ → ℕ → List ℕ → ℕ
measured_points W H f = length (keep (λ p. not (eqb (frame free W H f p) 2)) (cells W H (λ p. p)))

-- n of m cells in ten-thousandths, as document 02 has it: a quotient and a remainder are answered, quotient × m + remainder = 10,000 × n, and the remainder is
-- below m
pub record ShareShows (n m : ℕ) (a : ShareAnswer) : Type 0 where
  pub quotient : ℕ
  pub remainder : ℕ
  pub answer : a ≡ Ok (record { quotient = quotient; remainder = remainder })
  pub whole : quotient * m + remainder ≡ 10000 * n
  pub below : remainder < m
