-- What an accepted plan list says of an operation: how many stages it runs.
use mathlib.Core.Path.{◌≡◌}
use mathlib.Core.List.{List}
use Prim.Native.Nat.{ℕ, ◌*◌, ◌≤◌}
use native.Mathlib.Omega.{arith}
use lib.ListN.{length, drop, length-map, length-drop}
use Rattle.words.specs.Ground.{first_of}
use Rattle.words.specs.Word.{stage_mask}
use Rattle.shapes.specs.Plan.{plan_masks, plan_tests}
use Rattle.plan_grounds.proofs.Accepted.{plan_length}
use Rattle.cleaning.specs.declared.Operation.{Operation}
use Rattle.cleaning.specs.declared.Operation.TheVariants.{Dilation, Erosion, Opening, Closing}
use Rattle.cleaning.specs.Cleaning.{stages_run, operation_tests}
use Rattle.grids.specs.Grid.{work_tests}
use Rattle.frame_grounds.proofs.Behind.{first_behind}
use mathlib.Core.Bool.{cond}
use lib.Dec.{eqb}

module _ (plan : List ℕ) (z : first_of (plan_tests plan) ≡ 0) where
  pub few_stages : (op : Operation) {n : ℕ} → n ≡ stages_run op (length (plan_masks plan)) → n ≤ 60
  few_stages op {n} e = go op e
    where
      m : length (plan_masks plan) ≤ 30
      m = omega (arith, length-map (drop 2 plan) stage_mask, length-drop 2 plan, (plan_length plan z).1)

      go : (op : Operation) → n ≡ stages_run op (length (plan_masks plan)) → n ≤ 60
      go Dilation e = let q : n ≡ length (plan_masks plan) = e in omega (arith, m)
      go Erosion e = let q : n ≡ length (plan_masks plan) = e in omega (arith, m)
      go Opening e = let q : n ≡ 2 * length (plan_masks plan) = e in omega (arith, m)
      go Closing e = let q : n ≡ 2 * length (plan_masks plan) = e in omega (arith, m)

-- what refuses an operation: what refuses the plan, and then what refuses the frame or the images
pub operation_first : (plan : List ℕ) (W H : ℕ) (f i j : List ℕ) → first_of (operation_tests plan W H f i j)
    ≡ cond (eqb (first_of (plan_tests plan)) 0) (first_of (work_tests W H f i j)) (first_of (plan_tests plan))
unfolding plan_tests
operation_first plan W H f i j = first_behind (plan_tests plan) (work_tests W H f i j) tt
