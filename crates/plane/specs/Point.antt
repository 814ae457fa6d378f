-- Document 01, "Points, sums and differences": points of the plane, sets of points, ⊕ and ⊖, opening and closing.
-- The definitions are those of source document 003, section 2.1, where X_y is the translation of X by y, X ⊕ Y the union of X_y and X ⊖ Y the
-- intersection of X_−y for y in Y; opening and closing are those of source document 002, definitions 3.6 and 3.7. Any set of points will do, finite or not.
use Rattle.std.specs.Prelude.{◌≡◌, ◌↔◌, ℕ, ℤ, pos, ◌+ℤ◌, neg_ℤ}

-- a point is a pair (x, y) of integers
abbrev pub Point : Type 0
Point = ℤ × ℤ

infixl 6 ◌+ᵖ◌ ◌-ᵖ◌
-- coordinate by coordinate
unfoldable pub ◌+ᵖ◌ : Point → Point → Point
p +ᵖ q = (p.0 +ℤ q.0, p.1 +ℤ q.1)

unfoldable pub negᵖ : Point → Point
negᵖ p = (neg_ℤ p.0, neg_ℤ p.1)

abbrev pub ◌-ᵖ◌ : Point → Point → Point
p -ᵖ q = p +ᵖ negᵖ q

abbrev pub origin : Point
origin = (pos 0, pos 0)

-- a cell (x, y) of a window or a grid, counted from 0, and the point that it is
abbrev pub Cell : Type 0
Cell = ℕ × ℕ

abbrev pub point : Cell → Point
point c = (pos c.0, pos c.1)

-- a set of points is what it says of each point
abbrev pub PointSet : Type 1
PointSet = Point → Type 0

-- the same points
infix 4 ◌≐◌
abbrev pub ◌≐◌ : PointSet → PointSet → Type 0
X ≐ Y = (p : Point) → X p ↔ Y p

infixl 6 ◌⊕◌ ◌⊖◌
-- the set of all sums of a point of X and a point of Y
abbrev pub ◌⊕◌ : PointSet → PointSet → PointSet
(X ⊕ Y) p = (a : Point) × (b : Point) × X a × Y b × (a +ᵖ b ≡ p)

-- the set of points p for which p + b lies in X for every b in Y
abbrev pub ◌⊖◌ : PointSet → PointSet → PointSet
(X ⊖ Y) p = (b : Point) → Y b → X (p +ᵖ b)

-- X with d added to each of its points: the translation of X by d
abbrev pub moved : Point → PointSet → PointSet
moved d X p = X (p -ᵖ d)

-- one point
abbrev pub only : Point → PointSet
only d p = p ≡ d

-- dilation by A
abbrev pub dilation : PointSet → PointSet → PointSet
dilation X A = X ⊕ A

-- erosion by A
abbrev pub erosion : PointSet → PointSet → PointSet
erosion X A = X ⊖ A

-- erosion, then dilation
abbrev pub opening : PointSet → PointSet → PointSet
opening X A = dilation (erosion X A) A

-- dilation, then erosion
abbrev pub closing : PointSet → PointSet → PointSet
closing X A = erosion (dilation X A) A
