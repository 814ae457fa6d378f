-- Document 02, W1: after every list of arrivals under one plan, W and H, both frames all free at first and written by nobody else, refused ones changing
-- nothing, the kept frame equals the dilation of the rows now present.
use Rattle.std.specs.Prelude.{◌≡◌, Bool, List, [], ◌∷◌, ◌++◌, ℕ, ◌*◌, eqb, length, take, drop, replicate}
use Rattle.plane.specs.Lists.{In, keep, flat}
use Rattle.plane.specs.Point.{PointSet}
use Rattle.words.specs.Ground.{first_of, stated}
use Rattle.words.specs.Ground.{Answer}
use Rattle.shapes.specs.Plan.{plan_points, plan_tests}
use Rattle.planning.specs.Planning.{ShapeSet, planning_tests, PlanWritten}
use Rattle.grids.specs.Frame.{free, bad_size, bad_cell}
use Rattle.cleaning.specs.Operation.{Direct}
use Rattle.cleaning.specs.declared.Operation.TheVariants.{Dilation}
use Rattle.rolling.specs.Rolling.{wrong_row, Arrived}

-- a frame of W × H free cells
abbrev pub all_free : ℕ → ℕ → List ℕ
all_free W H = replicate (W * H) free

-- the rows arrive one after the other, each by a call with whatever answer and frames its promise allows
abbrev pub Arrivals : List ℕ → ℕ → ℕ → List (List ℕ) → List ℕ → List ℕ → List ℕ → List ℕ → Type 0
Arrivals plan W H [] live kept live' kept' = (live' ≡ live) × (kept' ≡ kept)
Arrivals plan W H (row ∷ rows) live kept live' kept' =
    (r : Answer) × (l : List ℕ) × (k : List ℕ) × Arrived plan W H row live kept r l k × Arrivals plan W H rows l k live' kept'

-- the kept frame is what the points A give directly of the live one by dilation
abbrev pub Right : ℕ → ℕ → PointSet → List ℕ → List ℕ → Type 0
Right W H A live kept = Direct Dilation W H live A kept

-- the step: a kept frame that is right before a call is right after it
abbrev pub Step : Type 0
Step =
    (plan : List ℕ) (W H : ℕ) (row live kept : List ℕ) (r : Answer) (live' kept' : List ℕ) → Arrived plan W H row live kept r live' kept'
    → Right W H (In (plan_points plan)) live kept
    → Right W H (In (plan_points plan)) live' kept'

-- the claim: for any plan words, W and H, those included with which every arrival is refused
abbrev pub Rolling : Type 0
Rolling =
    (plan : List ℕ) (W H : ℕ) (rows : List (List ℕ)) (live kept : List ℕ) → Arrivals plan W H rows (all_free W H) (all_free W H) live kept
    → Right W H (In (plan_points plan)) live kept

-- with the words that planning wrote for an accepted shape, it is what the shape gives
abbrev pub ShapeRolling : Type 0
ShapeRolling =
    (ws out : List ℕ) (r : Answer) (out' : List ℕ) → first_of (planning_tests ws out) ≡ 0 → PlanWritten ws out r out'
    → (W H : ℕ) (rows : List (List ℕ)) (live kept : List ℕ) → Arrivals (take (stated r).1 out') W H rows (all_free W H) (all_free W H) live kept
    → Right W H (ShapeSet ws) live kept

-- ---- the rows now present

-- a row is taken: neither the plan, W or H, nor its own length or cells refuse it
unfoldable pub takes_row : List ℕ → ℕ → ℕ → List ℕ → Bool
unfolding plan_tests
takes_row plan W H row = eqb (first_of (plan_tests plan ++ (11, bad_size W H) ∷ (15, wrong_row W row) ∷ (13, bad_cell row) ∷ [])) 0

-- the free rows of the start and then the rows that were taken; of all these the first have left, as many as were taken
abbrev pub present : List ℕ → ℕ → ℕ → List (List ℕ) → List ℕ
present plan W H rows = let t = keep (takes_row plan W H) rows in drop (W * length t) (all_free W H ++ flat (λ row. row) t)

-- after every list of arrivals the live frame is these rows: no refusal is owed to what a call before has left
abbrev pub Present : Type 0
Present =
    (plan : List ℕ) (W H : ℕ) (rows : List (List ℕ)) (live kept : List ℕ) → Arrivals plan W H rows (all_free W H) (all_free W H) live kept
    → live ≡ present plan W H rows

-- no promise is empty: on every input, accepted or refused, there is an answer with both frames as it says
abbrev pub Possible : Type 0
Possible =
    (plan : List ℕ) (W H : ℕ) (row live kept : List ℕ)
    → (r : Answer) × (live' : List ℕ) × (kept' : List ℕ) × Arrived plan W H row live kept r live' kept'
