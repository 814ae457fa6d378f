-- Every promise can be kept: refused, by leaving all as it is; else by doing the work that the promise names.
use mathlib.Core.Path.{◌≡◌, refl}
use mathlib.Core.Logic.{◌⊎◌, inl, inr}
use mathlib.Core.List.{List, ◌++◌}
use Prim.Native.Nat.{ℕ, ◌*◌, ◌/◌, ◌%◌}
use native.Mathlib.Omega.{arith}
use lib.Dec.{T}
use lib.ListN.{length, drop}
use Rattle.words.specs.Ground.{Answer}
use Rattle.std.specs.Prelude.{Ok, Err}
use Rattle.cleaning.specs.declared.Operation.{Operation}
use Rattle.plane.specs.Point.{Point}
use Rattle.words.specs.Ground.{Test, first_of, stated, result, Answered}
use Rattle.words.specs.Word.{stage_mask}
use Rattle.words.proofs.Kept.{known, can_promise, can_keep}
use Rattle.masks.specs.Chain.{Chain, subset, Picked}
use Rattle.masks.specs.Mask.{stage, normal_of}
use Rattle.masks.proofs.Normal.{normal_position}
use Rattle.shapes.specs.Calls.{ListWritten, ListAnswered, moving_tests, moved_points, joining_tests, joined_points, summing_tests, summed_points, turning_tests}
use Rattle.shapes.specs.Listed.{listed}
use Rattle.shapes.specs.Plan.{plan_tests, plan_points}
use Rattle.shapes.specs.Shape.{shape_tests}
use Rattle.planning.specs.Planning.{ShapeSet, planning_tests, Planned, Unplannable, PlanWritten}
use Rattle.planning.proofs.Decided.{can_plan, can_refuse}
use Rattle.grids.specs.Frame.{frame_tests, load}
use Rattle.grids.specs.Grid.{put_tests, stage_tests, put, once, written, GridWritten, work_tests}
use Rattle.grids.specs.Share.{exact, told, measured, share_tests, TenThousandths}
use Rattle.grids.proofs.Shares.{can_share}
use Rattle.cleaning.specs.Cleaning.{operation_tests, Ran, Cleaned}
use Rattle.cleaning.proofs.Kept.{can_clean}
use Rattle.rolling.proofs.Possible.{possible}
use Rattle.claim.specs.Kept.{Kept}

-- ---- calls that write a list, or a grid

list_kept : (ts : List Test) (A : List Point) (out : List ℕ) → T (known ts) → (r : Answer) × (out' : List ℕ) × ListAnswered ts A out r out'
list_kept ts A out k =
    can_keep ts k out (λ out'. out' ≡ out) (λ r out'. ListWritten A out r out') refl
    (λ _. (Ok (length l), l ++ drop (length l) out, record { answer = refl; words = refl }))
  where
    l : List ℕ
    l = listed A

grid_kept : (ts : List Test) (W H : ℕ) (g i : List ℕ) → T (known ts) → (r : Answer) × (i' : List ℕ) × Answered ts r (i' ≡ i) (GridWritten W H g i r i')
grid_kept ts W H g i k =
    can_keep ts k i (λ i'. i' ≡ i) (λ r i'. GridWritten W H g i r i') refl (λ _. (Ok 0, written W H g i, record { answer = refl; image = refl }))

-- ---- planning and cleaning

plan_kept : (ws out : List ℕ)
    → (first_of (planning_tests ws out) ≡ 0 → (¬ Chain subset (ShapeSet ws)) ⊎ ((d : Point) × (ms : List ℕ) × Picked stage (ShapeSet ws) d ms))
    → (r : Answer) × (out' : List ℕ) × Planned ws out r out'
unfolding shape_tests
plan_kept ws out f =
    can_keep (planning_tests ws out) tt out (λ out'. out' ≡ out) (λ r out'. Unplannable ws out r out' ⊎ PlanWritten ws out r out') refl (λ e. go e (f e))
  where
    go : first_of (planning_tests ws out) ≡ 0 → (¬ Chain subset (ShapeSet ws)) ⊎ ((d : Point) × (ms : List ℕ) × Picked stage (ShapeSet ws) d ms)
        → (r : Answer) × (out' : List ℕ) × (Unplannable ws out r out' ⊎ PlanWritten ws out r out')
    go e (inl none) = let q = can_refuse ws out e none in (q.0, q.1, q.2.done e)
    go e (inr p) = let q = can_plan ws out e p.0 p.1 p.2 in (q.0, q.1, q.2.done e)

cleaning_kept : (op : Operation) (plan : List ℕ) (W H : ℕ) (f i j : List ℕ) → (r : Answer) × (i' : List ℕ) × (j' : List ℕ) × Cleaned op plan W H f i j r i' j'
unfolding plan_tests work_tests
cleaning_kept op plan W H f i j =
    let q = can_keep {S = List ℕ × List ℕ} (operation_tests plan W H f i j) tt (i, j) (λ s. (s.0 ≡ i) × (s.1 ≡ j))
    (λ r s. Ran op plan W H f i j r s.0 s.1) (refl, refl)
    (λ e. let c = can_clean op plan W H f i j e in (c.0, (c.1, c.2), c.3.done e)) in
    (q.0, q.1.0, q.1.1, q.2)

pub kept : Kept
unfolding shape_tests plan_tests frame_tests share_tests put_tests stage_tests
kept = record {
  moving = λ ws d out. list_kept (moving_tests ws d out) (moved_points ws d) out tt;
  joining = λ ws vs out. list_kept (joining_tests ws vs out) (joined_points ws vs) out tt;
  summing = λ ws vs out. list_kept (summing_tests ws vs out) (summed_points ws vs) out tt;
  turning = λ ws out. list_kept (turning_tests ws out) (plan_points ws) out tt;
  planning = plan_kept;
  positioning = λ m. (normal_of (m % 512), normal_position (m % 512) (omega arith));
  counting = λ W H f.
      let q = can_keep {S = Unit {0}} (frame_tests W H f) tt tt (λ _. Unit {0}) (λ r _. stated r ≡ result (load f)) tt (λ _. (Ok (load f), tt, refl)) in
      (q.0, q.2);
  sharing = λ W H f.
      let q = can_promise {S = Unit {0}} (λ a k. told a ≡ (k, 0, 0)) Err (λ _. refl) (share_tests W H f) tt tt (λ _. Unit {0})
      (λ a _. TenThousandths f a) tt (λ z. (exact (10000 * load f / measured f) (10000 * load f % measured f), tt, can_share W H f z)) in
      (q.0, q.2);
  putting = λ k W H f i. grid_kept (put_tests W H f i) W H (put k W H f) i tt;
  staging = λ erode k w W H g i. grid_kept (stage_tests w W H g i) W H (once erode k W H (stage_mask w) g) i tt;
  cleaning = cleaning_kept;
  arriving = possible;
}
