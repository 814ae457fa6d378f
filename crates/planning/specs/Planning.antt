-- Document 01, "Stages and plans" and "Shortest plan": what planning promises.
use Rattle.std.specs.Prelude.{◌≡◌, ◌⊎◌, Bool, List, [], ◌∷◌, ◌++◌, ℕ, ◌+◌, ◌≤◌, length, drop}
use Rattle.plane.specs.Lists.{In}
use Rattle.plane.specs.Point.{Point, PointSet}
use Rattle.words.specs.Ground.{Test, stated, result, refusal, Answered}
use Rattle.words.specs.Ground.{Answer}
use Rattle.masks.specs.Mask.{stage}
use Rattle.masks.specs.Chain.{Chain, subset, Picked}
use Rattle.shapes.specs.Shape.{shape_points, shape_tests}
use Rattle.shapes.specs.Plan.{plan_words}
use Rattle.shapes.specs.Calls.{short_output}

-- the points of a shape list, as a set
abbrev pub ShapeSet : List ℕ → PointSet
ShapeSet ws = In (shape_points ws)

-- the masks that a chain's members are taken from: all subsets of the square; and those that a plan's stages are taken from: the 399 stages
abbrev pub member : ℕ → Bool
member = subset

abbrev pub permitted : ℕ → Bool
permitted = stage

-- planning's grounds but 10: 1 to 4 and 9, the lent output list has fewer than 32 words for a plan
abbrev pub planning_tests : List ℕ → List ℕ → List Test
planning_tests ws out = shape_tests ws ++ (9, short_output 32 out) ∷ []

-- ground 10: no chain exists. The refusal changes nothing lent
pub record Unplannable (ws out : List ℕ) (r : Answer) (out' : List ℕ) : Type 0 where
  pub none : ¬ Chain member (ShapeSet ws)
  pub answer : stated r ≡ refusal 10
  pub kept : out' ≡ out

-- the plan was written to out, which then is out': it is the one that is picked, no chain has fewer members, words past the list are unchanged, and the
-- list's length is returned
pub record PlanWritten (ws out : List ℕ) (r : Answer) (out' : List ℕ) : Type 0 where
  pub offset : Point
  pub stages : List ℕ
  pub picked : Picked permitted (ShapeSet ws) offset stages
  pub fewest : (c : Chain member (ShapeSet ws)) → length stages ≤ length c.members
  pub answer : stated r ≡ result (length stages + 2)
  pub words : out' ≡ plan_words offset stages ++ drop (length stages + 2) out

-- what planning does with the shape list ws and the output list out
abbrev pub Planned : List ℕ → List ℕ → Answer → List ℕ → Type 0
Planned ws out r out' = Answered (planning_tests ws out) r (out' ≡ out) (Unplannable ws out r out' ⊎ PlanWritten ws out r out')
