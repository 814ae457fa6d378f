-- Document 01, "Stages and plans" and "Shortest plan": sums of lists of masks, chains, plans, and the order that picks the plan that is written.
-- The permitted masks are a parameter: any subset of the square for chains, the stages for plans.
use Rattle.std.specs.Prelude.{Bool, false, not, ◌&&◌, ◌||◌, List, [], ◌∷◌, map, ℕ, T, ltb, eqb, length}
use Rattle.plane.specs.Lists.{In, all, any_next, flat}
use Rattle.plane.specs.Point.{Point, ◌+ᵖ◌, origin, PointSet, ◌≐◌, moved}
use Rattle.masks.specs.Mask.{mask_cells, mask_points}

-- A ⊕ B as a list: all sums of a point of A and a point of B
abbrev pub sums : List Point → List Point → List Point
sums A B = flat (λ a. map (λ b. a +ᵖ b) B) A

-- the sum of a list of masks; with none that is one point
unfoldable pub sum_of : List ℕ → List Point
unfolding mask_cells
sum_of [] = origin ∷ []
sum_of (m ∷ ms) = sums (mask_points m) (sum_of ms)

-- a subset of the 3×3 square: empty, of one cell or more, in any position
abbrev pub subset : ℕ → Bool
subset m = ltb m 512

-- a chain of S: a list of permitted masks whose sum, with some offset, is exactly S
pub record Chain (permitted : ℕ → Bool) (S : PointSet) : Type 0 where
  pub members : List ℕ
  pub offset : Point
  pub masks : T (all permitted members)
  pub sum : S ≐ moved offset (In (sum_of members))

-- some mask is below the mask before
abbrev pub falling : List ℕ → Bool
falling ms = any_next (λ a b. ltb b a) ms

-- a plan of S: permitted stages, never falling, whose sum moved by the offset d is S
pub record PlanOf (permitted : ℕ → Bool) (S : PointSet) (d : Point) (ms : List ℕ) : Type 0 where
  pub stages : T (all permitted ms)
  pub sorted : T (not (falling ms))
  pub sum : S ≐ moved d (In (sum_of ms))

-- compared in order, smaller at the first difference
abbrev pub smaller : List ℕ → List ℕ → Bool
smaller [] ns = false
smaller (a ∷ ms) [] = false
smaller (a ∷ ms) (b ∷ ns) = ltb a b || eqb a b && smaller ms ns

-- ms comes before ns: it has fewer stages, or as many and is smaller at the first difference
abbrev pub before : List ℕ → List ℕ → Bool
before ms ns = ltb (length ms) (length ns) || eqb (length ms) (length ns) && smaller ms ns

-- the plan that is written: among all plans of S none comes before it
pub record Picked (permitted : ℕ → Bool) (S : PointSet) (d : Point) (ms : List ℕ) : Type 0 where
  pub plan : PlanOf permitted S d ms
  pub first : (e : Point) (ns : List ℕ) → PlanOf permitted S e ns → T (not (before ns ms))
