-- Document 01, "Frames": what the four operations promise, and the part that is handed back.
use Rattle.std.specs.Prelude.{◌≡◌, cond, ◌||◌, List, [], ◌++◌, ℕ, ◌*◌, ◌%◌, ltb, eqb, length, take, drop}
use Rattle.plane.specs.Lists.{In}
use Rattle.words.specs.Ground.{Test, stated, result, Answered}
use Rattle.words.specs.Ground.{Answer}
use Rattle.shapes.specs.Plan.{plan_tests, plan_masks, plan_offset, plan_points}
use Rattle.grids.specs.Frame.{bad_size, grid_size}
use Rattle.grids.specs.Grid.{work_tests}
use Rattle.cleaning.specs.Operation.{Direct, in_turn}
use Rattle.cleaning.specs.declared.Operation.{Operation}
use Rattle.cleaning.specs.declared.Operation.TheVariants.{Dilation, Erosion, Opening, Closing}

-- how many stages an operation runs with a plan of n stages: opening and closing run 2n
abbrev pub stages_run : Operation → ℕ → ℕ
stages_run Dilation n = n
stages_run Erosion n = n
stages_run Opening n = 2 * n
stages_run Closing n = 2 * n

-- ---- the part

-- the work image that holds the result: the second if the number of stages run is even, the first if odd
abbrev pub result_image : ℕ → List ℕ → List ℕ → List ℕ
result_image n first second = cond (eqb (n % 2) 0) second first

-- what the further call hands back: the first W × H bytes of that image; nothing if W or H isn't 1 to 240 or the image holds fewer bytes
unfoldable pub part : ℕ → ℕ → ℕ → List ℕ → List ℕ → List ℕ
part n W H first second = cond (bad_size W H || ltb (length (result_image n first second)) (W * H)) [] (take (W * H) (result_image n first second))

-- ---- the four operations

-- grounds 1 to 3, 5 to 8 and 11 to 14
abbrev pub operation_tests : List ℕ → ℕ → ℕ → List ℕ → List ℕ → List ℕ → List Test
operation_tests plan W H f i j = plan_tests plan ++ work_tests W H f i j

-- an operation ran on the images i and j, which then are i' and j': it answers the number of stages run, the part that will be handed back is what the
-- single stages give in turn and what the plan's points give directly, and bytes past the first (W + 15) × (H + 15) of each image are unchanged
pub record Ran (op : Operation) (plan : List ℕ) (W H : ℕ) (f i j : List ℕ) (r : Answer) (i' j' : List ℕ) : Type 0 where
  pub answer : stated r ≡ result (stages_run op (length (plan_masks plan)))
  pub handed : part (stages_run op (length (plan_masks plan))) W H i' j' ≡ in_turn op W H f (plan_offset plan) (plan_masks plan)
  pub direct : Direct op W H f (In (plan_points plan)) (part (stages_run op (length (plan_masks plan))) W H i' j')
  pub first_size : length i' ≡ length i
  pub first_past : drop (grid_size W H) i' ≡ drop (grid_size W H) i
  pub second_size : length j' ≡ length j
  pub second_past : drop (grid_size W H) j' ≡ drop (grid_size W H) j

abbrev pub Cleaned : Operation → List ℕ → ℕ → ℕ → List ℕ → List ℕ → List ℕ → Answer → List ℕ → List ℕ → Type 0
Cleaned op plan W H f i j r i' j' = Answered (operation_tests plan W H f i j) r ((i' ≡ i) × (j' ≡ j)) (Ran op plan W H f i j r i' j')
