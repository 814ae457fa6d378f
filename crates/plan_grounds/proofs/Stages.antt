-- Ground 7 is tried word by word, and ground 8 of a plan is decided from the sums of the stages' extents and the place fields.
use mathlib.Core.Path.{◌≡◌, refl, sym, ◌∙◌, ap₂, subst}
use mathlib.Core.Bool.{Bool, true, false, not, ◌||◌}
use mathlib.Core.List.{List, [], ◌∷◌, map}
use Prim.Native.Nat.{ℕ, ◌+◌}
use lib.Dec.{T, ltb}
use lib.ListN.{get_or, drop}
use Rattle.plane.specs.Extent.{x_of, y_of}
use Rattle.plane.specs.Lists.{all, any, any_next, In}
use Rattle.plane.proofs.Extents.{x_adds, y_adds}
use Rattle.plane.proofs.Member.{not_all_map, next_map}
use Rattle.plane.proofs.Tests.{T_and}
use Rattle.words.specs.Word.{place_x, place_y, stage_mask}
use Rattle.masks.specs.Chain.{PlanOf}
use Rattle.masks.specs.Mask.{stage}
use Rattle.masks.proofs.Bounds.{along, total, plan_extent, forced}
use Rattle.stage_steps.proofs.Stages.{reach_is}
use Rattle.shapes.specs.Plan.{plan_masks, plan_offset, plan_points, wrong_masks}
use Rattle.shapes.specs.Shape.{out_of_range}
use Rattle.shapes.proofs.Range.{range_is, biased_offside}
use Rattle.shapes.proofs.Written.{plan_itself}
use Rattle.plan_steps.specs.Extent.{extent_of}
use Rattle.plan_grounds.specs.Leaves.{falls}
use Rattle.plane.specs.Point.{Point}

-- ---- ground 7

-- word by word: some mask is no stage, or some mask is below the one before
pub masks_tried : (ws : List ℕ) → wrong_masks (plan_masks ws) ≡ (any (λ w. not (stage (stage_mask w))) (drop 2 ws) || any_next falls (drop 2 ws))
masks_tried ws = ap₂ (λ a b. a || b) (not_all_map stage_mask stage (drop 2 ws)) (next_map stage_mask (λ a b. ltb b a) (drop 2 ws))

-- ---- the sums of the extents

-- of stages, they are the sums of the masks' extents
pub extent_is : (ws : List ℕ) → T (all stage (map stage_mask ws))
    → (extent_of false ws ≡ total (along x_of) (map stage_mask ws)) × (extent_of true ws ≡ total (along y_of) (map stage_mask ws))
extent_is [] t = (refl, refl)
extent_is (w ∷ ws) t =
    let u = (T_and (stage (stage_mask w)) (all stage (map stage_mask ws))).0 t in
    let a = reach_is (stage_mask w) u.0 in
    let b = extent_is ws u.1 in
    (ap₂ (λ m n. m + n) a.0 b.0, ap₂ (λ m n. m + n) a.1 b.1)

-- ---- ground 8

-- an extent is above 15, or the place and the extent are above 30 together
abbrev pub far : ℕ → ℕ → ℕ → ℕ → Bool
far w h x y = ltb 15 w || ltb 15 h || (ltb 30 (x + w) || ltb 30 (y + h))

pub range_tried : (ws : List ℕ) → wrong_masks (plan_masks ws) ≡ false
    → out_of_range (plan_points ws) ≡ far (extent_of false (drop 2 ws)) (extent_of true (drop 2 ws)) (place_x (get_or ws 1 0)) (place_y (get_or ws 1 0))
range_tried ws t =
    range_is A d w h (sym (forced A d ms P)) (plan_extent x_of x_adds refl _ d ms P) (plan_extent y_of y_adds refl _ d ms P)
    ∙ ap₂ (λ a b. ltb 15 w || ltb 15 h || (a || b)) (biased_offside x w) (biased_offside y h) ∙ ap₂ (λ m n. far m n x y) (sym e.0) (sym e.1)
  where
    A : List Point
    A = plan_points ws

    d : Point
    d = plan_offset ws

    ms : List ℕ
    ms = plan_masks ws

    x : ℕ
    x = place_x (get_or ws 1 0)

    y : ℕ
    y = place_y (get_or ws 1 0)

    w : ℕ
    w = total (along x_of) ms

    h : ℕ
    h = total (along y_of) ms

    P : PlanOf stage (In A) d ms
    P = plan_itself ws (subst (λ b. T (not b)) (sym t) tt)

    e : (extent_of false (drop 2 ws) ≡ w) × (extent_of true (drop 2 ws) ≡ h)
    e = extent_is (drop 2 ws) P.stages
