-- Document 01, "Stages and plans" and "Words": the list of a set of points, with the least anchor.
use Rattle.std.specs.Prelude.{Bool, false, ◌&&◌, List, ◌∷◌, map, ℕ, ◌+◌, eqb, ℤ, pos, negsuc}
use Rattle.plane.specs.Extent.{least, corner}
use Rattle.plane.specs.Lists.{any, keep, up_to, packed}
use Rattle.plane.specs.Point.{Point, Cell, point, ◌-ᵖ◌}
use Rattle.words.specs.Word.{anchor_word, row_word}

-- the same integer
abbrev pub eq_z : ℤ → ℤ → Bool
eq_z (pos a) (pos b) = eqb a b
eq_z (pos a) (negsuc b) = false
eq_z (negsuc a) (pos b) = false
eq_z (negsuc a) (negsuc b) = eqb a b

-- p is one of the points
abbrev pub has : List Point → Point → Bool
has A p = any (λ q. eq_z p.0 q.0 && eq_z p.1 q.1) A

-- 0 or −z, the greater
abbrev pub below : ℤ → ℕ
below (pos n) = 0
below (negsuc n) = n + 1

-- the least anchor: ax = 0 or −dx, the greater, for dx the least x, and ay likewise
unfoldable pub least_anchor : List Point → Cell
unfolding least
least_anchor A = (below (corner A).0, below (corner A).1)

-- column x of row y is set, where the anchor is a
abbrev pub column_set : List Point → Cell → ℕ → ℕ → Bool
column_set A a y x = has A (point (x, y) -ᵖ point a)

-- row y, and whether it has a column
abbrev pub row_of : List Point → Cell → ℕ → ℕ
row_of A a y = row_word y (packed (column_set A a y) 0 16)

abbrev pub has_cells : List Point → Cell → ℕ → Bool
has_cells A a y = any (column_set A a y) (up_to 16)

-- one anchor and then the non-empty rows, y rising
unfoldable pub listed : List Point → List ℕ
unfolding least_anchor packed
listed A = let a = least_anchor A in anchor_word a.0 a.1 ∷ map (row_of A a) (keep (has_cells A a) (up_to 16))
