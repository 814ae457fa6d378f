-- Document 01: what the calls promise that write a shape list: moving, joining and summing shapes, and turning a plan back into a shape.
-- Moving, joining and summing meet grounds 1 to 4, 8 and 9; turning back meets 1 to 3 and 5 to 9. The lists ws and vs are lent for reading alone.
use Rattle.std.specs.Prelude.{◌≡◌, Bool, List, [], ◌∷◌, ◌++◌, map, ℕ, ltb, length, drop}
use Rattle.plane.specs.Point.{Point, ◌+ᵖ◌}
use Rattle.words.specs.Ground.{Test, both, stated, result, Answered}
use Rattle.words.specs.Ground.{Answer}
use Rattle.masks.specs.Chain.{sums}
use Rattle.shapes.specs.Shape.{shape_points, shape_tests, out_of_range}
use Rattle.shapes.specs.Plan.{plan_points, plan_tests}
use Rattle.shapes.specs.Listed.{listed}

-- ground 9: the lent output list has fewer than n words: 17 for a shape, 32 for a plan
abbrev pub short_output : ℕ → List ℕ → Bool
short_output n out = ltb (length out) n

-- grounds 8 and 9, for the points of a new shape and the output list
abbrev pub new_tests : List Point → List ℕ → List Test
new_tests A out = (8, out_of_range A) ∷ (9, short_output 17 out) ∷ []

-- the list of the points A was written to out, which then is out': words past the list are unchanged, and the list's length is returned
pub record ListWritten (A : List Point) (out : List ℕ) (r : Answer) (out' : List ℕ) : Type 0 where
  pub answer : stated r ≡ result (length (listed A))
  pub words : out' ≡ listed A ++ drop (length (listed A)) out

-- a call with these tests that writes the list of these points
abbrev pub ListAnswered : List Test → List Point → List ℕ → Answer → List ℕ → Type 0
ListAnswered tests A out r out' = Answered tests r (out' ≡ out) (ListWritten A out r out')

-- ---- moving: the numbers of d, in the call two signed 32-bit numbers, are added to x and y of each point

abbrev pub moved_points : List ℕ → Point → List Point
moved_points ws d = map (λ p. p +ᵖ d) (shape_points ws)

abbrev pub moving_tests : List ℕ → Point → List ℕ → List Test
moving_tests ws d out = shape_tests ws ++ new_tests (moved_points ws d) out

abbrev pub Moved : List ℕ → Point → List ℕ → Answer → List ℕ → Type 0
Moved ws d out r out' = ListAnswered (moving_tests ws d out) (moved_points ws d) out r out'

-- ---- joining: the union of the points. Each ground is tried over both lists before the next

abbrev pub joined_points : List ℕ → List ℕ → List Point
joined_points ws vs = shape_points ws ++ shape_points vs

abbrev pub joining_tests : List ℕ → List ℕ → List ℕ → List Test
joining_tests ws vs out = both (shape_tests ws) (shape_tests vs) ++ new_tests (joined_points ws vs) out

abbrev pub Joined : List ℕ → List ℕ → List ℕ → Answer → List ℕ → Type 0
Joined ws vs out r out' = ListAnswered (joining_tests ws vs out) (joined_points ws vs) out r out'

-- ---- summing: ⊕. Each ground is tried over both lists before the next

abbrev pub summed_points : List ℕ → List ℕ → List Point
summed_points ws vs = sums (shape_points ws) (shape_points vs)

abbrev pub summing_tests : List ℕ → List ℕ → List ℕ → List Test
summing_tests ws vs out = both (shape_tests ws) (shape_tests vs) ++ new_tests (summed_points ws vs) out

abbrev pub Summed : List ℕ → List ℕ → List ℕ → Answer → List ℕ → Type 0
Summed ws vs out r out' = ListAnswered (summing_tests ws vs out) (summed_points ws vs) out r out'

-- ---- a plan turned back into the shape list of its points

abbrev pub turning_tests : List ℕ → List ℕ → List Test
turning_tests ws out = plan_tests ws ++ (9, short_output 17 out) ∷ []

abbrev pub TurnedBack : List ℕ → List ℕ → Answer → List ℕ → Type 0
TurnedBack ws out r out' = ListAnswered (turning_tests ws out) (plan_points ws) out r out'
