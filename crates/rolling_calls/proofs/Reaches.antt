-- How far the points of an accepted plan list reach, up or down: as it is worked out from the place and the stages' heights.
use mathlib.Core.Path.{◌≡◌, sym, ◌∙◌, ap, ap₂}
use mathlib.Core.Logic.{◌⊎◌, inl, inr}
use mathlib.Core.Bool.{true}
use mathlib.Core.List.{List}
use Prim.Native.Nat.{ℕ, ◌+◌, ◌≤◌, ◌<◌, max}
use native.Mathlib.Omega.{arith}
use lib.IntN.{pos, neg_ℤ, ◌+ℤ◌, ◌-ℤ◌, nat_abs, +ℤ_assoc, +ℤ_comm}
use lib.ListN.{get_or, drop}
use Rattle.plane.proofs.Integer.{diff_ge, diff_lt}
use Rattle.plane.proofs.Tests.{lt_or_le}
use Rattle.words.specs.Ground.{first_of}
use Rattle.words.specs.Word.{place_y}
use Rattle.shapes.specs.Plan.{plan_points, plan_tests}
use Rattle.shapes.proofs.Written.{plan_itself}
use Rattle.plan_steps.specs.Extent.{extent_of, from15, reach_of}
use Rattle.plan_grounds.proofs.Accepted.{masks_pass, place_small, lowest_small}
use Rattle.plan_grounds.proofs.Stages.{extent_is}
use Rattle.rolling.specs.Rolling.{greatest_y}
use Rattle.rolling.proofs.Reach.{plan_y}

biased : (a : ℕ) → nat_abs (pos a -ℤ pos 15) ≡ from15 a
biased a = go (lt_or_le a 15)
  where
    go : (a < 15) ⊎ (15 ≤ a) → nat_abs (pos a -ℤ pos 15) ≡ from15 a
    go (inl h) = ap nat_abs (diff_lt a 15 h) ∙ omega arith
    go (inr h) = ap nat_abs (diff_ge a 15 h) ∙ omega arith

shifted_by : (y h : ℕ) → (pos y -ℤ pos 15) +ℤ pos h ≡ pos (y + h) -ℤ pos 15
shifted_by y h =
    +ℤ_assoc (pos y) (neg_ℤ (pos 15)) (pos h) ∙ ap (λ z. pos y +ℤ z) (+ℤ_comm (neg_ℤ (pos 15)) (pos h)) ∙ sym (+ℤ_assoc (pos y) (pos h) (neg_ℤ (pos 15)))

module _ (ws : List ℕ) (z : first_of (plan_tests ws) ≡ 0) where
  abbrev y : ℕ
  y = place_y (get_or ws 1 0)

  abbrev h : ℕ
  h = extent_of true (drop 2 ws)

  -- the greater of |dy| and |dy + h|
  pub reach_is : greatest_y (plan_points ws) ≡ reach_of ws
  reach_is =
      let e = (extent_is (drop 2 ws) (plan_itself ws (masks_pass ws z)).stages).1 in
      plan_y ws (masks_pass ws z) ∙ ap (λ n. max (nat_abs (pos y -ℤ pos 15)) (nat_abs ((pos y -ℤ pos 15) +ℤ pos n))) (sym e)
      ∙ ap₂ max (biased y) (ap nat_abs (shifted_by y h) ∙ biased (y + h))

  -- no point is out of range
  pub reach_small : greatest_y (plan_points ws) ≤ 15
  reach_small = let l = lowest_small ws z in omega (arith, reach_is, place_small ws z)
