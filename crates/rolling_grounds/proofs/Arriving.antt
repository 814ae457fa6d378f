-- What refuses an arriving row: what refuses the plan, and then the frames' grounds and the row's.
use mathlib.Core.Path.{◌≡◌}
use mathlib.Core.Bool.{cond, ◌||◌}
use mathlib.Core.List.{List, [], ◌∷◌}
use Prim.Native.Nat.{ℕ}
use lib.Dec.{eqb}
use Rattle.words.specs.Ground.{Test, first_of}
use Rattle.shapes.specs.Plan.{plan_tests}
use Rattle.grids.specs.Frame.{bad_size, wrong_length, bad_cell}
use Rattle.rolling.specs.Rolling.{wrong_row, arrival_tests}
use Rattle.frame_grounds.proofs.Behind.{first_behind}

abbrev pub behind : ℕ → ℕ → List ℕ → List ℕ → List ℕ → List Test
behind w h row live kept =
    (11, bad_size w h)
    ∷ (12, wrong_length w h live || wrong_length w h kept)
    ∷ (15, wrong_row w row)
    ∷ (13, bad_cell live || bad_cell kept || bad_cell row)
    ∷ []

pub arrival_first : (plan : List ℕ) (w h : ℕ) (row live kept : List ℕ) → first_of (arrival_tests plan w h row live kept)
    ≡ cond (eqb (first_of (plan_tests plan)) 0) (first_of (behind w h row live kept)) (first_of (plan_tests plan))
unfolding arrival_tests plan_tests
arrival_first plan w h row live kept = first_behind (plan_tests plan) (behind w h row live kept) tt
