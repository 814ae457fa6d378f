-- Demand 3 as the promise of one function that plans the shape list ws and runs an operation on a frame with the words that planning wrote; p is the part that
-- is handed back for its answer: a single claim from the shape list to the result. What it answers is s: the number of a refusal and that of stages run, one 0.
use Rattle.std.specs.Prelude.{◌≡◌, ◌⊎◌, ◌≢◌, cond, List, [], ℕ, ◌≤◌, eqb, length, take, drop}
use Rattle.plane.specs.Lists.{In}
use Rattle.plane.specs.Point.{Point, ◌≐◌, moved}
use Rattle.words.specs.Ground.{first_of, stated, result, refusal}
use Rattle.words.specs.Ground.{Answer}
use Rattle.masks.specs.Chain.{Chain, Picked, sum_of}
use Rattle.shapes.specs.Shape.{shape_tests}
use Rattle.planning.specs.Planning.{ShapeSet, member, permitted, Planned}
use Rattle.grids.specs.Frame.{grid_size}
use Rattle.grids.specs.Grid.{work_tests}
use Rattle.cleaning.specs.Operation.{Direct, in_turn}
use Rattle.cleaning.specs.Cleaning.{stages_run, part, Cleaned}
use Rattle.cleaning.specs.declared.Operation.{Operation}

-- ---- the claim

-- planning answers "no chain", and no list of subsets of the square, of any length and with any offset, has the shape as its sum
pub record NoPlan (ws : List ℕ) (s : ℕ × ℕ) : Type 0 where
  pub none : ¬ Chain member (ShapeSet ws)
  pub answer : s ≡ refusal 10

-- the operation ran the plan with the offset d and the stages ms: it answers the number of stages run, and the part is, cell for cell, both what the single
-- stages give in turn and what the shape gives directly
pub record Handed (op : Operation) (ws : List ℕ) (W H : ℕ) (f : List ℕ) (d : Point) (ms : List ℕ) (s : ℕ × ℕ) (p : List ℕ) : Type 0 where
  pub answer : s ≡ result (stages_run op (length ms))
  pub turns : p ≡ in_turn op W H f d ms
  pub direct : Direct op W H f (ShapeSet ws) p

-- planning writes the plan that document 01 picks; its stages, moved by its offset, sum to the shape, and every other list of subsets of the square that
-- sums to it, with whatever offset, has at least as many members; on an accepted frame, whatever the work images held, the operation runs it, and any other
-- frame is refused by the first ground that holds
pub record Run (op : Operation) (ws : List ℕ) (W H : ℕ) (f i j : List ℕ) (s : ℕ × ℕ) (p : List ℕ) : Type 0 where
  pub offset : Point
  pub stages : List ℕ
  pub picked : Picked permitted (ShapeSet ws) offset stages
  pub sum : ShapeSet ws ≐ moved offset (In (sum_of stages))
  pub fewest : (c : Chain member (ShapeSet ws)) → length stages ≤ length c.members
  pub accepted : first_of (work_tests W H f i j) ≡ 0 → Handed op ws W H f offset stages s p
  pub refused : first_of (work_tests W H f i j) ≢ 0 → s ≡ refusal (first_of (work_tests W H f i j))

-- a shape list that is not accepted is refused by the first ground that holds; for every accepted one there is no chain, or the plan is run; a refusal
-- hands back nothing
pub record Claim (op : Operation) (ws : List ℕ) (W H : ℕ) (f i j : List ℕ) (s : ℕ × ℕ) (p : List ℕ) : Type 0 where
  pub refused : first_of (shape_tests ws) ≢ 0 → s ≡ refusal (first_of (shape_tests ws))
  pub accepted : first_of (shape_tests ws) ≡ 0 → NoPlan ws s ⊎ Run op ws W H f i j s p
  pub empty : s.0 ≢ 0 → p ≡ []

-- ---- the work images

-- what is handed back of the images i and j: the part for the number of stages run, and nothing with a refusal
abbrev pub handed_for : ℕ × ℕ → ℕ → ℕ → List ℕ → List ℕ → List ℕ
handed_for s W H i j = cond (eqb s.0 0) (part s.1 W H i j) []

-- the images i and j are i' and j' then: a refusal leaves them alone, and bytes past the first (W + 15) × (H + 15) of each are unchanged
pub record Lent (W H : ℕ) (i j : List ℕ) (s : ℕ × ℕ) (i' j' : List ℕ) : Type 0 where
  pub kept : s.0 ≢ 0 → (i' ≡ i) × (j' ≡ j)
  pub first_size : length i' ≡ length i
  pub first_past : drop (grid_size W H) i' ≡ drop (grid_size W H) i
  pub second_size : length j' ≡ length j
  pub second_past : drop (grid_size W H) j' ≡ drop (grid_size W H) j

-- ---- call by call

-- planning writes to the list own; a refusal of it is the answer; else the operation is given the words written, as many as the length returned
pub record Steps (op : Operation) (ws : List ℕ) (W H : ℕ) (f i j own : List ℕ) (s : Answer) (i' j' : List ℕ) : Type 0 where
  pub answer : Answer
  pub own' : List ℕ
  pub plans : Planned ws own answer own'
  pub stops : (stated answer).0 ≢ 0 → (stated s ≡ stated answer) × (i' ≡ i) × (j' ≡ j)
  pub cleans : (stated answer).0 ≡ 0 → Cleaned op (take (stated answer).1 own') W H f i j s i' j'
