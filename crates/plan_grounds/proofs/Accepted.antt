-- What an accepted plan list says of its words: how many there are, that its masks are stages, and that the place is within its range, with the stages too.
use mathlib.Core.Path.{◌≡◌, subst}
use mathlib.Core.Bool.{true, false, not, ◌||◌}
use mathlib.Core.List.{List}
use Prim.Native.Nat.{ℕ, ◌+◌, ◌≤◌}
use lib.Dec.{T, ltb, nltb→le}
use lib.ListN.{length, get_or, drop}
use Rattle.plane.proofs.Tests.{T_false, not_or}
use Rattle.words.specs.Ground.{first_of}
use Rattle.words.specs.Word.{place_x, place_y}
use Rattle.words.proofs.Refusals.{Clear, clear}
use Rattle.shapes.specs.Plan.{plan_masks, plan_tests, wrong_plan_length, wrong_masks}
use Rattle.word_grounds.proofs.Lengths.{within}
use Rattle.plan_steps.specs.Extent.{extent_of}
use Rattle.plan_grounds.proofs.Stages.{range_tried}

module _ (plan : List ℕ) (z : first_of (plan_tests plan) ≡ 0) where
  pub plan_clear : Clear (plan_tests plan)
  unfolding plan_tests
  plan_clear = clear (plan_tests plan) tt z

  pub plan_length : (2 ≤ length plan) × (length plan ≤ 32)
  unfolding plan_tests
  plan_length = within 2 32 plan (T_false (wrong_plan_length plan) plan_clear.0)

  pub masks_pass : T (not (wrong_masks (plan_masks plan)))
  unfolding plan_tests
  masks_pass = plan_clear.1.1.1.1.1.0

  abbrev x : ℕ
  x = place_x (get_or plan 1 0)

  abbrev y : ℕ
  y = place_y (get_or plan 1 0)

  pub place_small : (x ≤ 30) × (y ≤ 30)
  unfolding plan_tests
  place_small =
      let u = (not_or (ltb 30 (place_x (get_or plan 1 0))) (ltb 30 (place_y (get_or plan 1 0)))).0 plan_clear.1.1.1.1.0 in
      (nltb→le 30 (place_x (get_or plan 1 0)) u.0, nltb→le 30 (place_y (get_or plan 1 0)) u.1)

  -- no point is out of range
  pub lowest_small : y + extent_of true (drop 2 plan) ≤ 30
  unfolding plan_tests
  lowest_small =
      let w = extent_of false (drop 2 plan) in
      let h = extent_of true (drop 2 plan) in
      let t = subst (λ b. T (not b)) (range_tried plan (T_false (wrong_masks (plan_masks plan)) masks_pass)) plan_clear.1.1.1.1.1.1.0 in
      let u = ((not_or (ltb 15 w || ltb 15 h) (ltb 30 (x + w) || ltb 30 (y + h))).0 t).1 in
      nltb→le 30 (y + h) ((not_or (ltb 30 (x + w)) (ltb 30 (y + h))).0 u).1
