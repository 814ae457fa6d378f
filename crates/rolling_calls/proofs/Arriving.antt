-- A row that no ground refuses: what each step asks for, and that together they are what the call promises.
use mathlib.Core.Path.{◌≡◌, sym, ◌∙◌, ap, subst}
use mathlib.Core.Bool.{not}
use mathlib.Core.List.{List}
use Prim.Native.Nat.{ℕ, zero, suc, ◌*◌, ◌≤◌, suc-le-suc, zero-le}
use native.Mathlib.Omega.{arith}
use native.Mathlib.Nat.{mul_comm, mul-le-mul_right}
use lib.Dec.{T, ltb, eqb}
use lib.ListN.{length}
use Rattle.plane.proofs.Tests.{T_false, not_or}
use Rattle.words.specs.Ground.{first_of}
use Rattle.words.proofs.Refusals.{clear, unclear}
use Rattle.shapes.specs.Plan.{plan_points, plan_tests}
use Rattle.grids.specs.Frame.{bad_side, bad_size, bad_cell}
use Rattle.plan_steps.specs.Extent.{reach_of}
use Rattle.plan_grounds.proofs.Accepted.{plan_length}
use Rattle.frame_grounds.proofs.Sides.{sides}
use Rattle.rolling.specs.Rolling.{rolled, greatest_y, arrival_tests, Rolled}
use Rattle.rolling.proofs.Ends.{by_ends}
use Rattle.rolling.proofs.Present.{live_good}
use Rattle.rolling.proofs.Rolls.{Accepted, call_accepted}
use Rattle.rolling_calls.specs.Rows.{Reworked, BothPut}
use Rattle.rolling_calls.proofs.Reaches.{reach_is, reach_small}

some : (n : ℕ) → T (not (bad_side n)) → 1 ≤ n
some n t = go n ((not_or (eqb n 0) (ltb 240 n)).0 t).0
  where
    go : (n : ℕ) → T (not (eqb n 0)) → 1 ≤ n
    go zero u = absurd u
    go (suc n) u = suc-le-suc zero-le

module _ (plan : List ℕ) (W H : ℕ) (row live kept : List ℕ) (z : first_of (arrival_tests plan W H row live kept) ≡ 0) where
  A : Accepted W H row live kept
  A = call_accepted plan W H row live kept z

  pub plan_passes : first_of (plan_tests plan) ≡ 0
  unfolding arrival_tests plan_tests
  plan_passes =
      let c = clear (arrival_tests plan W H row live kept) tt z in
      unclear (plan_tests plan) (c.0, (c.1.0, (c.1.1.0, (c.1.1.1.0, (c.1.1.1.1.0, (c.1.1.1.1.1.0, (c.1.1.1.1.1.1.0, tt)))))))

  most : (W ≤ 240) × (H ≤ 240)
  most = sides W H (T_false (bad_size W H) A.sides)

  least : (1 ≤ W) × (1 ≤ H)
  least = let u = (not_or (bad_side W) (bad_side H)).0 A.sides in (some W u.0, some H u.1)

  -- the row is as long as the frames' rows are
  pub live_room : length row ≤ length live
  live_room = let m = mul-le-mul_right {m = 1} {n = H} W least.1 in omega (arith, m, A.row_size, A.live_size, mul_comm W H)

  pub kept_room : length row ≤ length kept
  kept_room = omega (arith, live_room, A.live_size, A.kept_size)

  -- the number that was worked out from the words is the greatest |y|
  pub reached : (y : ℕ) → (2 ≤ length plan → length plan ≤ 32 → y ≡ reach_of plan) → y ≡ greatest_y (plan_points plan)
  reached y e = let l = plan_length plan plan_passes in e l.0 l.1 ∙ sym (reach_is plan plan_passes)

  module _ (y : ℕ) (q : y ≡ greatest_y (plan_points plan)) {live' k₁ : List ℕ} (s : live' ≡ rolled (length row) live row)
      (m : k₁ ≡ rolled (length row) kept row) where
    shows : live' ≡ rolled W live row
    shows = s ∙ ap (λ n. rolled n live row) A.row_size

    moved : k₁ ≡ rolled W kept row
    moved = m ∙ ap (λ n. rolled n kept row) A.row_size

    clean : T (not (bad_cell live'))
    clean = subst (λ f. T (not (bad_cell f))) (sym shows) (live_good W H row live kept A).clean

    -- the kept frame is moved as a live one is
    kept_size : length (rolled W kept row) ≡ W * H
    kept_size = (live_good W H row kept live (record {
      sides = A.sides;
      live_size = A.kept_size;
      kept_size = A.live_size;
      row_size = A.row_size;
      live_clean = A.kept_clean;
      kept_clean = A.live_clean;
      row_clean = A.row_clean;
    })).size

    pub anew_ready : Reworked plan W H y live' k₁
    anew_ready = record {
      accepted = plan_passes;
      columns = (least.0, most.0);
      rows = (least.1, most.1);
      reach = omega (arith, q, reach_small plan plan_passes);
      live_size = ap length shows ∙ (live_good W H row live kept A).size;
      kept_size = ap length moved ∙ kept_size;
      clean = clean;
    }

    pub arrived : {k₂ : List ℕ} → BothPut plan W H y live' k₁ k₂ → Rolled (plan_points plan) W H row live kept live' k₂
    arrived {k₂} n = go (subst (λ k. BothPut plan W H (greatest_y (plan_points plan)) live' k k₂) moved (subst (λ i. BothPut plan W H i live' k₁ k₂) q n))
      where
        go : BothPut plan W H (greatest_y (plan_points plan)) live' (rolled W kept row) k₂ → Rolled (plan_points plan) W H row live kept live' k₂
        go b = by_ends plan plan_passes W H live' clean row live kept shows A.row_size A.kept_size kept_size b.first b.last
