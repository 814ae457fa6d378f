-- The owner's demand 3: "no chain" exactly when there is none, else the plan that document 01 picks, and on every accepted frame the four operations run
-- it and agree with the declared shape.
use Rattle.std.specs.Prelude.{◌≡◌, ◌⊎◌, ◌↔◌, List, ◌++◌, ℕ, ◌+◌, ◌≤◌, length, take, drop}
use Rattle.plane.specs.Lists.{In}
use Rattle.plane.specs.Point.{Point, ◌≐◌, moved}
use Rattle.words.specs.Ground.{first_of, stated, result, refusal}
use Rattle.words.specs.Ground.{Answer}
use Rattle.masks.specs.Chain.{Chain, Picked, sum_of}
use Rattle.shapes.specs.Plan.{plan_words}
use Rattle.planning.specs.Planning.{ShapeSet, member, permitted, planning_tests, Planned}
use Rattle.cleaning.specs.Operation.{Direct, in_turn}
use Rattle.grids.specs.Grid.{work_tests}
use Rattle.cleaning.specs.Cleaning.{stages_run, part, Cleaned}
use Rattle.cleaning.specs.declared.Operation.{Operation}

-- an operation that was given the plan of the stages ms with the offset d: it doesn't refuse, it answers the number of stages run, and the part handed
-- back for that number is, cell for cell, both what the single stages give in turn and what the shape list ws gives directly
pub record Agrees (op : Operation) (ws : List ℕ) (d : Point) (ms : List ℕ) (W H : ℕ) (f : List ℕ) (s : Answer) (i' j' : List ℕ) : Type 0 where
  pub answer : stated s ≡ result (stages_run op (length ms))
  pub turns : part (stated s).1 W H i' j' ≡ in_turn op W H f d ms
  pub direct : Direct op W H f (ShapeSet ws) (part (stated s).1 W H i' j')

-- planning wrote a plan: the one that is picked; its stages, moved by its offset, sum to the shape; every list of subsets of the square that sums to it,
-- with whatever offset, has at least as many members; and on every accepted frame, whatever the work images held, each operation that is given the words
-- written, as many as the length returned, agrees
pub record Served (ws out : List ℕ) (r : Answer) (out' : List ℕ) : Type 0 where
  pub offset : Point
  pub stages : List ℕ
  pub answer : stated r ≡ result (length stages + 2)
  pub words : out' ≡ plan_words offset stages ++ drop (length stages + 2) out
  pub picked : Picked permitted (ShapeSet ws) offset stages
  pub sum : ShapeSet ws ≐ moved offset (In (sum_of stages))
  pub fewest : (c : Chain member (ShapeSet ws)) → length stages ≤ length c.members
  pub frames : (op : Operation) (W H : ℕ) (f i j : List ℕ) (s : Answer) (i' j' : List ℕ)
      → first_of (work_tests W H f i j) ≡ 0
      → Cleaned op (take (stated r).1 out') W H f i j s i' j'
      → Agrees op ws offset stages W H f s i' j'

-- planning's answer for an accepted shape: "no chain" exactly when no list of subsets of the square, of any length and with any offset, has the shape as
-- its sum; otherwise a plan
pub record Decided (ws out : List ℕ) (r : Answer) (out' : List ℕ) : Type 0 where
  pub none : (stated r ≡ refusal 10) ↔ (¬ Chain member (ShapeSet ws))
  pub plan : (stated r ≡ refusal 10) ⊎ Served ws out r out'

-- demand 3: for every accepted shape
abbrev pub Demand3 : Type 0
Demand3 = (ws out : List ℕ) (r : Answer) (out' : List ℕ) → Planned ws out r out' → first_of (planning_tests ws out) ≡ 0 → Decided ws out r out'
