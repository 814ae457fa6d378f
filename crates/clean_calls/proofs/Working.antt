-- An operation that no ground refuses: from the frame that is packed to the part that will be handed back.
use mathlib.Core.Path.{◌≡◌, refl, sym, ◌∙◌, ap, subst}
use mathlib.Core.Bool.{Bool, true, false, cond}
use mathlib.Core.List.{List, ◌++◌}
use Prim.Native.Nat.{ℕ, ◌+◌, ◌*◌, ◌%◌, ◌≤◌}
use native.Mathlib.Omega.{arith}
use lib.Dec.{eqb, ltb, nltb→le}
use lib.ListN.{length, get_or, drop}
use borrow.Author.Tests.{eqb-true, ltb-false}
use Rattle.plane.specs.Lists.{In}
use Rattle.plane.proofs.Tests.{T_false, T_true, not_or, un_not}
use Rattle.words.specs.Ground.{first_of, stated, result}
use Rattle.words.specs.Word.{place_x, place_y}
use Rattle.words.specs.Ground.{Answer}
use Rattle.words.proofs.Refusals.{Clear, clear, unclear, clear_first, clear_last}
use Rattle.shapes.specs.Plan.{plan_masks, plan_tests, plan_offset, plan_points}
use Rattle.grids.specs.Frame.{highest, bad_size, wrong_length, grid_size, short_image}
use Rattle.grids.specs.Grid.{outside_of, grid_bytes, put, work_tests}
use Rattle.grids.proofs.Values.{Upto}
use Rattle.frame_grounds.specs.Looking.{greatest_cell}
use Rattle.frame_grounds.proofs.Looked.{cell_below}
use Rattle.planes.specs.Bits.{level}
use Rattle.planes.specs.Planes.{Shows, second_at}
use Rattle.planes.proofs.OnGrids.{shown_cut}
use Rattle.cleaning.specs.declared.Operation.{Operation}
use Rattle.cleaning.specs.Operation.{Direct, around, last_grid, in_turn}
use Rattle.cleaning.specs.Cleaning.{stages_run, result_image, part, operation_tests, Cleaned}
use Rattle.cleaning.proofs.Kept.{turn_length}
use Rattle.cleaning.proofs.Plans.{passing, accepted_direct}
use Rattle.cleaning.proofs.Starts.{over_length, over_past, frame_in_grid, hand, hand_start}
use Rattle.cleaning.proofs.Upto.{last_upto}
use Rattle.turn_steps.specs.Turns.{standing_image}
use Rattle.turn_steps.proofs.Alternating.{either, same_either, same_of}
use Rattle.result_steps.specs.Cutting.{distance, CutAway}
use Rattle.result_steps.specs.Levels.{LevelsEnded}
use Rattle.result_steps.specs.Running.{Runnable}
use Rattle.result_steps.proofs.Reading.{cut_turn}
use Rattle.plan_grounds.proofs.Accepted.{plan_length, place_small}
use Rattle.clean_calls.specs.Packing.{FramePackable, LevelsPacked}
use Rattle.grids.proofs.Putting.{put_upto}

drop_either : (b : Bool) (o : ℕ) (i j : List ℕ) → drop o (cond b i j) ≡ cond b (drop o i) (drop o j)
drop_either true o i j = refl
drop_either false o i j = refl

module _ (plan : List ℕ) (W H : ℕ) (f i j : List ℕ) (z : first_of (operation_tests plan W H f i j) ≡ 0) where
  all_clear : Clear (operation_tests plan W H f i j)
  unfolding plan_tests work_tests
  all_clear = clear (operation_tests plan W H f i j) tt z

  pub plan_accepted : first_of (plan_tests plan) ≡ 0
  plan_accepted = unclear (plan_tests plan) (clear_first (plan_tests plan) (work_tests W H f i j) all_clear)

  work_clear : Clear (work_tests W H f i j)
  work_clear = clear_last (plan_tests plan) (work_tests W H f i j) all_clear

  pub sides_pass : bad_size W H ≡ false
  unfolding work_tests
  sides_pass = T_false (bad_size W H) work_clear.0

  -- both images are long enough
  room : (grid_size W H ≤ length i) × (grid_size W H ≤ length j)
  unfolding work_tests
  room =
      let u = (not_or (short_image W H i) (short_image W H j)).0 work_clear.1.1.1.0 in
      (nltb→le (length i) (grid_size W H) u.0, nltb→le (length j) (grid_size W H) u.1)

  -- the frame has all its cells, and none is above 2
  right_length : wrong_length W H f ≡ false
  unfolding work_tests
  right_length = T_false (wrong_length W H f) work_clear.1.0

  cells_all : W * H ≤ length f
  unfolding work_tests
  cells_all = let e = eqb-true (length f) (W * H) (T_true (eqb (length f) (W * H)) (un_not (eqb (length f) (W * H)) work_clear.1.0)) in omega arith

  cells_upto : (n : ℕ) → get_or f n 0 ≤ highest
  unfolding work_tests
  cells_upto = passing f work_clear.1.1.0

  -- so it is packed: into one plane where its greatest number is not above 1
  pub packable : {g : ℕ} → g ≡ greatest_cell W H f → FramePackable (ltb 1 g) W H f i
  packable {g} e = record {
    sides = sides_pass;
    cells = cells_all;
    upto = cells_upto;
    alone = λ b n. let l = ltb-false 1 g b in omega (arith, e, cell_below W H f sides_pass right_length n);
    room = room.0;
  }

  -- the planes show both levels of the grid that the frame is put into
  module _ (two : Bool) (op : Operation) {i₁ : List ℕ} (p : LevelsPacked two (around op) W H f i i₁) where
    -- so the stages can be run
    pub runs : Runnable plan W H i₁ j
    runs =
        let s = place_small plan plan_accepted in record {
          words = plan_length plan plan_accepted;
          across = s.0;
          down = s.1;
          room = record { sides = sides_pass; first = omega (arith, room.0, p.size); second = room.1 };
        }

    -- the stages were run: the last planes show both levels of the last grid, and both images keep their lengths and what is past the grid
    module _ {n : ℕ} {i₂ j₂ : List ℕ} (e : LevelsEnded two op plan W H i₁ j n i₂ j₂) where
      abbrev last : List ℕ
      last = last_grid op W H (plan_masks plan) (put (around op) W H f)

      last_low : Upto highest (grid_bytes (around op) W H last)
      last_low = last_upto highest (omega arith) op W H (plan_masks plan) (put (around op) W H f) (put_upto highest (omega arith) (around op) W H f cells_upto)

      abbrev even : Bool
      even = eqb (n % 2) 0

      abbrev second : ℕ
      second = second_at two (W + 15) (H + 15)

      sizes : (length i₂ ≡ length i) × (length j₂ ≡ length j)
      sizes = (e.first_size ∙ p.size, e.second_size)

      pasts : (drop (grid_size W H) i₂ ≡ drop (grid_size W H) i) × (drop (grid_size W H) j₂ ≡ drop (grid_size W H) j)
      pasts = (e.first_past ∙ p.past, e.second_past)

      result_long : grid_size W H ≤ length (result_image n i₂ j₂)
      result_long = either even (grid_size W H) j₂ i₂ (omega (arith, room.1, sizes.1)) (omega (arith, room.0, sizes.0))

      -- the levels of the last grid, in the planes that stand
      last_one : Shows (W + 15) (H + 15) (λ q. level false (grid_bytes (around op) W H last q)) (standing_image n i₂ j₂)
      last_one = e.one false (put (around op) W H f) p.one

      last_some : Shows (W + 15) (H + 15) (λ q. level true (grid_bytes (around op) W H last q)) (drop second (standing_image n i₂ j₂))
      last_some =
          subst (λ (x : List ℕ). Shows (W + 15) (H + 15) (λ q. level true (grid_bytes (around op) W H last q)) x) (sym (drop_either even second i₂ j₂))
          (e.some true (put (around op) W H f) p.some)

      -- the result was cut
      module _ {i₃ j₃ : List ℕ} (c : CutAway two op (get_or plan 1 0) W H n i₂ j₂ i₃ j₃) where
        abbrev turned : List ℕ
        turned = in_turn op W H f (plan_offset plan) (plan_masks plan)

        small : (place_x (get_or plan 1 0) ≤ 30) × (place_y (get_or plan 1 0) ≤ 30)
        small = place_small plan plan_accepted

        cut_is : result_image n i₃ j₃ ≡ turned ++ drop (W * H) (result_image n i₂ j₂)
        cut_is =
            c.to
            ∙ ap (λ l. l ++ drop (W * H) (result_image n i₂ j₂))
            (shown_cut (outside_of (around op)) second (W + 15) (H + 15) last (standing_image n i₂ j₂) last_one last_some last_low W H
            (distance op (place_x (get_or plan 1 0))) (distance op (place_y (get_or plan 1 0)))
            ∙ cut_turn op plan W H f last (get_or plan 1 0) refl small.0 small.1 refl)

        size : length turned ≡ W * H
        size = turn_length op W H f (plan_offset plan) (plan_masks plan)

        handed : part n W H i₃ j₃ ≡ turned
        unfolding part
        handed = ap (hand W H) cut_is ∙ hand_start W H turned (result_image n i₂ j₂) sides_pass size result_long

        -- lengths, and bytes past the grid
        ends_sizes : (length i₃ ≡ length i) × (length j₃ ≡ length j)
        ends_sizes = same_either length even i j i₃ j₃
            (ap length c.from ∙ same_of length even i j i₂ j₂ sizes.0 sizes.1)
            (ap length cut_is ∙ over_length turned (result_image n i₂ j₂) (W * H) (grid_size W H) size (frame_in_grid W H) result_long
            ∙ same_of length even j i j₂ i₂ sizes.1 sizes.0)

        ends_pasts : (drop (grid_size W H) i₃ ≡ drop (grid_size W H) i) × (drop (grid_size W H) j₃ ≡ drop (grid_size W H) j)
        ends_pasts = same_either (drop (grid_size W H)) even i j i₃ j₃
            (ap (drop (grid_size W H)) c.from ∙ same_of (drop (grid_size W H)) even i j i₂ j₂ pasts.0 pasts.1)
            (ap (drop (grid_size W H)) cut_is ∙ over_past turned (result_image n i₂ j₂) (W * H) (grid_size W H) size (frame_in_grid W H) result_long
            ∙ same_of (drop (grid_size W H)) even j i j₂ i₂ pasts.1 pasts.0)

        -- the part for the number of stages that the plan says
        counted : part (stages_run op (length (plan_masks plan))) W H i₃ j₃ ≡ turned
        counted = ap (λ k. part k W H i₃ j₃) (sym e.count) ∙ handed

        pub ran : (s : Answer) → stated s ≡ result n → Cleaned op plan W H f i j s i₃ j₃
        ran s a = record {
          refused = λ q. absurd (q z);
          done = λ _. record {
            answer = a ∙ ap result e.count;
            handed = counted;
            direct = subst (Direct op W H f (In (plan_points plan))) (sym counted) (accepted_direct op plan W H f i j z);
            first_size = ends_sizes.0;
            first_past = ends_pasts.0;
            second_size = ends_sizes.1;
            second_past = ends_pasts.1;
          };
        }
