-- Where every cell was measured, the rules are Minkowski's: a picture of 0 and 1 has the occupied points that ⊕ and ⊖ give.
use mathlib.Core.Path.{◌≡◌, subst}
use mathlib.Core.Logic.{◌≢◌}
use mathlib.Core.Bool.{Bool, true, false, not}
use mathlib.Core.List.{List}
use Prim.Native.Nat.{ℕ, ◌+◌, ◌*◌, ◌≤◌, ◌<◌, zero-le}
use native.Mathlib.Omega.{arith}
use native.Mathlib.Nat.{mul_comm}
use lib.Dec.{T, eqb, eqb→eq, nltb→le}
use lib.ListN.{length, get_or, take}
use lib.Seq.{get_or-take}
use Rattle.plane.specs.Lists.{In}
use Rattle.plane.specs.Point.{Point, ◌+ᵖ◌, ◌≐◌}
use Rattle.plane.proofs.Tests.{un_not, not_or}
use Rattle.words.specs.Ground.{first_of, stated}
use Rattle.words.specs.Word.{stage_mask}
use Rattle.words.proofs.Refusals.{clear, clear_last}
use Rattle.masks.specs.Mask.{mask_points}
use Rattle.shapes.specs.Plan.{plan_tests, plan_points}
use Rattle.grids.specs.Frame.{over, frame, occupied, bad_cell, grid_size, short_image, frame_tests}
use Rattle.grids.specs.Grid.{outside_of, corner, grid, put_tests, stage_tests, work_tests}
use Rattle.grids.specs.declared.Around.{Around}
use Rattle.grids.proofs.Putting.{frame_upto}
use Rattle.grids.proofs.Rules.{over_makes, dilation_set, erosion_set}
use Rattle.grids.proofs.Stage.{bytes_upto, view_upto, over_upto, outside_low}
use Rattle.grids.proofs.Values.{Upto}
use Rattle.cleaning.specs.Cleaning.{operation_tests, part}
use Rattle.cleaning.proofs.Plans.{passing}
use Rattle.cleaning.proofs.Sets.{says, direct_set}
use Rattle.claim.specs.Frames.{beyond, grid_plane}
use Rattle.claim.specs.Minkowski.{AllMeasured, InSet, stage_made, Minkowski}
use Rattle.claim.proofs.Cells.{outside_is, put_as, grid_plane_lem, stage_as}
use Rattle.claim.proofs.Demand2.{part_direct}
use Rattle.claim.proofs.Outside.{read_same, direct_shows}

-- a cell that passes ground 13 and is not 2
low : (f : List ℕ) → T (not (bad_cell f)) → AllMeasured f → (i : ℕ) → get_or f i 0 ≤ 1
low f t m i = let b = passing f t i in let n = m i in omega arith

-- an accepted frame has all its cells, and they pass
frame_passes : (plan : List ℕ) (W H : ℕ) (f i j : List ℕ) → first_of (operation_tests plan W H f i j) ≡ 0 → (W * H ≤ length f) × T (not (bad_cell f))
unfolding plan_tests work_tests
frame_passes plan W H f i j e =
    let c = clear_last (plan_tests plan) (work_tests W H f i j) (clear (operation_tests plan W H f i j) tt e) in
    let l = eqb→eq (length f) (W * H) (un_not (eqb (length f) (W * H)) c.1.0) in
    (omega arith, c.1.1.0)

put_passes : (W H : ℕ) (f i : List ℕ) → first_of (put_tests W H f i) ≡ 0 → T (not (bad_cell f))
unfolding frame_tests put_tests
put_passes W H f i e = (clear (put_tests W H f i) tt e).1.1.0

-- a grid that is read has all its bytes, and they pass
grid_passes : (w W H : ℕ) (g i : List ℕ) → first_of (stage_tests w W H g i) ≡ 0 → T (not (bad_cell (take (grid_size W H) g))) × (grid_size W H ≤ length g)
unfolding stage_tests
grid_passes w W H g i e =
    let c = (clear (stage_tests w W H g i) tt e).1.1.1.1 in
    (c.0, nltb→le (length g) (grid_size W H) ((not_or (short_image W H g) (short_image W H i)).0 c.1.0).0)

grid_low : (k : Around) (W H : ℕ) (g : List ℕ) → T (not (bad_cell (take (grid_size W H) g))) → grid_size W H ≤ length g
    → ((n : ℕ) → n < grid_size W H → get_or g n 0 ≢ 2) → Upto 1 (grid k W H g)
grid_low k W H g t long m p = view_upto 1 (outside_of k) (W + 15) (H + 15) g (outside_low k) (λ i h.
    let l : i < grid_size W H = omega (arith, h, mul_comm (H + 15) (W + 15)) in
    let b = bytes_upto 0 zero-le (take (grid_size W H) g) t i in
    let e = get_or-take (grid_size W H) g i 0 l in
    let n = m i l in
    let r = read_same g i (outside_of k) 0 (omega arith) in
    omega arith) (p +ᵖ corner k)

-- what a stage makes of a picture of 0 and 1
stage_set : (erode : Bool) (P : List Point) (f : Point → ℕ) → Upto 1 f → occupied (over erode P f) ≐ stage_made erode (occupied f) (In P)
stage_set true P f b = erosion_set (In P) f (over true P f) b (over_makes true P f (λ p. let l = b p in omega arith))
stage_set false P f b = dilation_set (In P) f (over false P f) b (over_makes false P f (λ p. let l = b p in omega arith))

pub minkowski : Minkowski
minkowski = record {
  cleaning = λ op plan W H f i j s i' j' c e m.
      let u = frame_passes plan W H f i j e in
      let A = In (plan_points plan) in
      let r = part (stated s).1 W H i' j' in
      direct_shows W H f u.0 op A r (direct_set op W H f A r (low f u.1 m) (part_direct op plan W H f i j s i' j' c e));
  putting = λ k W H f i r i' p e m.
      let F = frame (outside_of k) W H f in
      let b = frame_upto 1 (omega arith) k W H f (low f (put_passes W H f i e) m) in
      put_as k W H f i r i' p e (InSet (occupied (frame (beyond k) W H f))) (λ q.
      subst (λ v. InSet (occupied (frame v W H f)) q (F q)) (outside_is k) (says (F q) (occupied F q) (b q) (λ h. h, λ h. h)));
  staging = λ erode k w W H g i r i' p e m.
      let u = grid_passes w W H g i e in
      let P = mask_points (stage_mask w) in
      let F = grid k W H g in
      let b = grid_low k W H g u.0 u.1 m in
      stage_as erode k w W H g i r i' p e (InSet (stage_made erode (occupied (grid_plane k W H g)) (In P))) (λ q.
      subst (λ f. InSet (stage_made erode (occupied f) (In P)) q (over erode P F q)) (grid_plane_lem k W H g)
      (says (over erode P F q) (stage_made erode (occupied F) (In P) q) (over_upto 1 (omega arith) erode P F b q) (stage_set erode P F b q)));
}
