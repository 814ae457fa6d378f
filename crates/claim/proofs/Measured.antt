-- The statement `Measured`, case by case: the plans and the absence of chains are those of masks, found by the computed search; the frames are computed.
use mathlib.Core.Path.{◌≡◌, refl, sym, ◌∙◌, ap, ap₂, subst}
use mathlib.Core.Bool.{not}
use mathlib.Core.List.{List, [], ◌∷◌, ◌++◌}
use Prim.Native.Nat.{ℕ, ◌+◌, ◌*◌, ◌≤◌}
use native.Mathlib.Omega.{arith}
use lib.Dec.{T, eqb}
use lib.IntN.{pos, negsuc}
use lib.ListN.{length, length-map, drop, replicate}
use Rattle.cleaning.specs.declared.Operation.{Operation}
use Rattle.cleaning.specs.declared.Operation.TheVariants.{Erosion, Opening, Closing}
use Rattle.plane.specs.Extent.{span}
use Rattle.plane.specs.Point.{◌+ᵖ◌, negᵖ, origin, Point, Cell}
use Rattle.plane.proofs.Tests.{not_ltb, not_not, not_or, eq-eqb}
use Rattle.words.specs.Ground.{first_of, result}
use Rattle.words.specs.Word.{stage_word}
use Rattle.words.proofs.Refusals.{clear, unclear, clear_append}
use Rattle.masks.specs.Chain.{Picked, Chain, subset}
use Rattle.masks.specs.Mask.{stage, mask_cells}
use Rattle.masks.proofs.Cells.{sum_cells, cell_sums}
use Rattle.masks.proofs.Measured.{one, four, four_order, four_other, apart, gap, eight}
use Rattle.masks.proofs.Placed.{picked, placed}
use Rattle.masks.proofs.Search.{search, same}
use Rattle.shapes.specs.Calls.{short_output}
use Rattle.shapes.specs.Plan.{plan_words}
use Rattle.shapes.specs.Shape.{shape_tests, shape_points}
use Rattle.shapes.proofs.Accepted.{accepted_shape}
use Rattle.shapes.proofs.Written.{sum_small}
use Rattle.planning.specs.Planning.{ShapeSet, planning_tests}
use Rattle.planning.specs.Printer.{word_lines, PrintedFor, shown}
use Rattle.planning.proofs.Decided.{can_plan, can_refuse, planned, unplanned}
use Rattle.planning.proofs.Once.{reads_once}
use Rattle.planning.proofs.Printed.{printed_plan}
use Rattle.grids.specs.Frame.{bad_size, bad_cell, grid_size, short_image}
use Rattle.grids.specs.Grid.{once, work_tests}
use Rattle.grids.specs.Image.{cells, value_at}
use Rattle.cleaning.specs.Cleaning.{stages_run}
use Rattle.cleaning.specs.Operation.{in_turn, last_grid, Direct}
use Rattle.cleaning.proofs.Kept.{can_clean}
use Rattle.cleaning.proofs.Plans.{passing}
use Rattle.cleaning.proofs.Turn.{turn_direct}
use Rattle.claim.specs.Measured.{PlannedAs, RefusedTen, CleanedAs, Measured, four_words, four_input, four_output, three_words, two_words}
use Rattle.claim.specs.Measured.{right_words, eight_words}
use Rattle.claim.proofs.Demand3.{runs, agrees}

-- ---- planning

-- a shape list that passes its grounds is accepted with any output list of 32 words or more
pub accepts : (ws : List ℕ) → first_of (shape_tests ws) ≡ 0 → (out : List ℕ) → 32 ≤ length out → first_of (planning_tests ws out) ≡ 0
unfolding shape_tests
accepts ws e out h =
    unclear (planning_tests ws out) (clear_append (shape_tests ws) ((9, short_output 32 out) ∷ []) (clear (shape_tests ws) tt e) (not_ltb (length out) 32 h, tt))

module _ (ws : List ℕ) (d : Point) (ms : List ℕ) (e : first_of (shape_tests ws) ≡ 0) (P : Picked stage (ShapeSet ws) d ms) where
  count : length ms + 2 ≡ length (plan_words d ms)
  count = let l = length-map ms stage_word in omega arith

  -- a shape list that passes its grounds and has a picked plan is planned as that
  plans_as : PlannedAs ws (plan_words d ms)
  plans_as = record {
    accepted = accepts ws e;
    possible = λ out h. can_plan ws out (accepts ws e out h) d ms P;
    answer = λ out h r out' p. (planned ws out (accepts ws e out h) r out' p d ms P).0 ∙ ap result count;
    words = λ out h r out' p. (planned ws out (accepts ws e out h) r out' p d ms P).1 ∙ ap (λ n. plan_words d ms ++ drop n out) count;
  }

-- a shape list that passes its grounds and has no chain is refused by 10
refused_ten : (ws : List ℕ) → first_of (shape_tests ws) ≡ 0 → ¬ Chain subset (ShapeSet ws) → RefusedTen ws
refused_ten ws e none = record {
  accepted = accepts ws e;
  possible = λ out h. can_refuse ws out (accepts ws e out h) none;
  answer = λ out h r out' p. unplanned ws out (accepts ws e out h) r out' p none;
}

-- ---- frames of one row

-- a row of free and occupied cells with two images that are long enough is accepted
row_accepted : (f i j : List ℕ) → T (not (bad_size (length f) 1)) → T (not (bad_cell f)) → grid_size (length f) 1 ≤ length i → grid_size (length f) 1 ≤ length j
    → first_of (work_tests (length f) 1 f i j) ≡ 0
unfolding work_tests
row_accepted f i j b c h k =
    let size = not_not (eqb W (W * 1)) (eq-eqb (times_one W)) in
    let images = (not_or (short_image W 1 i) (short_image W 1 j)).1 (not_ltb (length i) (grid_size W 1) h, not_ltb (length j) (grid_size W 1) k) in
    unclear (work_tests W 1 f i j) (b, (size, (c, (images, tt))))
  where
    W : ℕ
    W = length f

    times_one : (n : ℕ) → n ≡ n * 1
    times_one n = omega arith

-- an accepted shape with a picked plan, and a row: what the stages give in turn is what is handed back
cleans_as : (op : Operation) (ws : List ℕ) (d : Point) (ms f : List ℕ) (n : ℕ) (r : List ℕ) → first_of (shape_tests ws) ≡ 0 → Picked stage (ShapeSet ws) d ms
    → T (not (bad_size (length f) 1)) → T (not (bad_cell f)) → stages_run op (length ms) ≡ n → in_turn op (length f) 1 f d ms ≡ r
    → CleanedAs op ws (plan_words d ms) f n r
unfolding shape_tests
cleans_as op ws d ms f n r e P b c k t =
    let S = accepted_shape ws (clear (shape_tests ws) tt e) in
    let Q = P.plan in
    let W = length f in
    record {
      plans = plans_as ws d ms e P;
      direct = subst (Direct op W 1 f (ShapeSet ws)) t (turn_direct op W 1 f d ms (ShapeSet ws) Q.stages (sum_small ws S d ms Q) (passing f c) Q.sum);
      possible = λ i j h l. can_clean op (plan_words d ms) W 1 f i j (runs ws S d ms Q W 1 f i j (row_accepted f i j b c h l));
      answer = λ i j h l s i' j' q. (agrees ws S d ms Q op W 1 f i j s i' j' (row_accepted f i j b c h l) q).answer ∙ ap result k;
      handed = λ i j h l s i' j' q. (agrees ws S d ms Q op W 1 f i j s i' j' (row_accepted f i j b c h l) q).turns ∙ t;
    }

-- ---- the shapes of one row that the frames are cleaned with

three_picked : Picked stage (ShapeSet three_words) origin (7 ∷ [])
unfolding shape_points ◌+ᵖ◌ negᵖ search same stage sum_cells cell_sums
three_picked = picked (ShapeSet three_words) A origin (7 ∷ []) (placed (shape_points three_words) A origin refl tt tt) tt tt tt tt refl
  where
    A : List Cell
    A = (0, 0) ∷ (1, 0) ∷ (2, 0) ∷ []

two_picked : Picked stage (ShapeSet two_words) origin (3 ∷ [])
unfolding shape_points ◌+ᵖ◌ negᵖ search same stage sum_cells cell_sums
two_picked = picked (ShapeSet two_words) A origin (3 ∷ []) (placed (shape_points two_words) A origin refl tt tt) tt tt tt tt refl
  where
    A : List Cell
    A = (0, 0) ∷ (1, 0) ∷ []

abbrev right : Point
right = (pos 1, pos 0)

right_picked : Picked stage (ShapeSet right_words) right []
unfolding shape_points ◌+ᵖ◌ negᵖ
right_picked = one right (shape_points right_words) refl

-- ---- one cell, with the anchors (0, 0) and (15, 15)

abbrev cell_words : List ℕ
cell_words = 0x10000000 ∷ 0x20000001 ∷ []

abbrev corner_words : List ℕ
corner_words = 0x100000ff ∷ 0x20000001 ∷ []

abbrev corner : Point
corner = (negsuc 14, negsuc 14)

-- what the program prints for the row of four cells, with an output list of 32 zero words
four_run : PrintedFor four_words four_output
unfolding shape_points shape_tests ◌+ᵖ◌ negᵖ word_lines
four_run =
    let p = can_plan four_words (replicate 32 0) refl origin (3 ∷ 5 ∷ []) four in
    let q = planned four_words (replicate 32 0) refl p.0 p.1 p.2 origin (3 ∷ 5 ∷ []) four in
    record { out = replicate 32 0; room = refl; answer = p.0; out' = p.1; plans = p.2; prints = sym (ap₂ shown q.0 q.1) }

-- ---- the statement

pub measured : Measured
unfolding shape_points shape_tests ◌+ᵖ◌ negᵖ span word_lines in_turn last_grid once cells value_at mask_cells
measured = record {
  four = plans_as four_words origin (3 ∷ 5 ∷ []) refl four;
  four_printed = λ output P.
      printed_plan four_input output four_words (record { words = tt; lines = refl }) P (λ out h. accepts four_words refl out (omega arith)) origin
      (3 ∷ 5 ∷ []) four;
  four_prints = record {
    unreadable = λ none. absurd (none four_words (record { words = tt; lines = refl }));
    readable = λ ws r. subst (λ w. PrintedFor w four_output) (reads_once four_input four_words ws (record { words = tt; lines = refl }) r) four_run;
  };
  four_before = four_order;
  four_other = four_other;
  cell = plans_as cell_words origin [] refl (one origin (shape_points cell_words) refl);
  corner = plans_as corner_words corner [] refl (one corner (shape_points corner_words) refl);
  apart = refused_ten (0x10000000 ∷ 0x20000009 ∷ []) refl apart;
  gap = refused_ten (0x10000000 ∷ 0x2000000b ∷ []) refl gap;
  eight = plans_as eight_words origin (17 ∷ 33 ∷ 129 ∷ []) refl eight;
  eight_points = refl;
  eight_allowed = refl;
  closed = cleans_as Closing three_words origin (7 ∷ []) (1 ∷ 0 ∷ 1 ∷ []) 2 (1 ∷ 1 ∷ 1 ∷ []) refl three_picked tt tt refl refl;
  eroded = cleans_as Erosion two_words origin (3 ∷ []) (1 ∷ 1 ∷ []) 1 (1 ∷ 1 ∷ []) refl two_picked tt tt refl refl;
  eroded_three = cleans_as Erosion two_words origin (3 ∷ []) (1 ∷ 1 ∷ 0 ∷ []) 1 (1 ∷ 0 ∷ 0 ∷ []) refl two_picked tt tt refl refl;
  eroded_point = cleans_as Erosion right_words right [] (1 ∷ 0 ∷ 0 ∷ []) 0 (0 ∷ 0 ∷ 1 ∷ []) refl right_picked tt tt refl refl;
  opened_point = cleans_as Opening right_words right [] (1 ∷ 0 ∷ 0 ∷ []) 0 (1 ∷ 0 ∷ 0 ∷ []) refl right_picked tt tt refl refl;
}
