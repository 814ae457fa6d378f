-- Demand 1, from what each call promises: a call's tests hold or not, and its promise says what is answered in either case.
use mathlib.Core.Path.{◌≡◌, sym, ◌∙◌, ap}
use mathlib.Core.Logic.{◌⊎◌, inl, inr}
use mathlib.Core.Bool.{not}
use mathlib.Core.List.{List}
use Prim.Native.Nat.{ℕ}
use lib.Dec.{T, eqb, eqb→eq}
use Rattle.words.specs.Ground.{Answer}
use Rattle.plane.proofs.Tests.{T_dec, clash, eq-eqb}
use Rattle.words.specs.Ground.{Test, first_of, stated, result, Answered}
use Rattle.words.proofs.Tested.{promised_number}
use Rattle.words.specs.Word.{stage_mask}
use Rattle.shapes.specs.Calls.{ListWritten, moved_points, moving_tests, joined_points, joining_tests, summed_points, summing_tests, turning_tests}
use Rattle.shapes.specs.Plan.{plan_points}
use Rattle.planning.specs.Planning.{planning_tests, Planned, PlanWritten, Unplannable}
use Rattle.grids.specs.Frame.{frame_tests, load}
use Rattle.grids.specs.Share.{told, share_tests}
use Rattle.grids.specs.Grid.{put_tests, stage_tests, GridWritten, put, once}
use Rattle.cleaning.specs.Cleaning.{operation_tests, Ran}
use Rattle.rolling.specs.Rolling.{arrival_tests, Rolled}
use Rattle.claim.proofs.Positions.{below_512}
use Rattle.claim.specs.Demand1.{First, NoChain, Demand1}

-- the number in what an answer says
ground : {a b : ℕ × ℕ} → a ≡ b → a.0 ≡ b.0
ground e = ap (λ a. a.0) e

first : (tests : List Test) (r : Answer) (U W : Type 0) → Answered tests r U W → (W → (stated r).0 ≡ 0) → First tests r U
first tests r U W a w = promised_number tests (stated r).0 (λ _ e. ground e) w a

-- planning: another ground, 10, or a plan
plan_first : (ws out : List ℕ) (r : Answer) (out' : List ℕ) → Planned ws out r out'
    → First (planning_tests ws out) r (out' ≡ out) ⊎ NoChain ws out r out'
plan_first ws out r out' a = go (T_dec (eqb n 0))
  where
    n : ℕ
    n = first_of (planning_tests ws out)

    Says : Type 0
    Says = First (planning_tests ws out) r (out' ≡ out) ⊎ NoChain ws out r out'

    written : n ≡ 0 → Unplannable ws out r out' ⊎ PlanWritten ws out r out' → Says
    written e (inl u) = inr (record { first = e; none = u.none; answer = u.answer; kept = u.kept })
    written e (inr w) = let z = ground w.answer in inl (z ∙ sym e, λ k. absurd (k z))

    go : T (eqb n 0) ⊎ T (not (eqb n 0)) → Says
    go (inl t) = let e = eqb→eq n 0 t in written e (a.done e)
    go (inr k) = let q = a.refused (λ e. clash (eqb n 0) k (eq-eqb e)) in inl (ground q.0, λ _. q.1)

pub demand1 : Demand1
demand1 = record {
  moving = λ ws d out r out' a. first (moving_tests ws d out) r (out' ≡ out) (ListWritten (moved_points ws d) out r out') a (λ w. ground w.answer);
  joining = λ ws vs out r out' a. first (joining_tests ws vs out) r (out' ≡ out) (ListWritten (joined_points ws vs) out r out') a (λ w. ground w.answer);
  summing = λ ws vs out r out' a. first (summing_tests ws vs out) r (out' ≡ out) (ListWritten (summed_points ws vs) out r out') a (λ w. ground w.answer);
  turning = λ ws out r out' a. first (turning_tests ws out) r (out' ≡ out) (ListWritten (plan_points ws) out r out') a (λ w. ground w.answer);
  planning = plan_first;
  positioning = below_512;
  putting = λ k W H f i r i' a. first (put_tests W H f i) r (i' ≡ i) (GridWritten W H (put k W H f) i r i') a (λ w. ground w.answer);
  staging = λ erode k w W H g i r i' a. first (stage_tests w W H g i) r (i' ≡ i) (GridWritten W H (once erode k W H (stage_mask w) g) i r i') a
      (λ q. ground q.answer);
  counting = λ W H f r a. (first (frame_tests W H f) r (Unit {0}) (stated r ≡ result (load f)) a (λ e. ground e)).0;
  sharing = λ W H f a p. (promised_number (share_tests W H f) (told a).0 (λ _ e. ap (λ t. t.0) e) (λ w. w.answer) p).0;
  cleaning = λ op plan W H f i j r i' j' a. first (operation_tests plan W H f i j) r ((i' ≡ i) × (j' ≡ j)) (Ran op plan W H f i j r i' j') a
      (λ w. ground w.answer);
  arriving = λ plan W H row live kept r live' kept' a. first (arrival_tests plan W H row live kept) r ((live' ≡ live) × (kept' ≡ kept))
      ((stated r ≡ result 0) × Rolled (plan_points plan) W H row live kept live' kept') a (λ w. ground w.0);
}
