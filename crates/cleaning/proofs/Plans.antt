-- Every accepted plan list, whoever wrote it, gives in turn what its points give directly: its masks are stages, and its points' extents, which are
-- those of the sum of its stages, are at most 15, so no cell of the sum is farther than that.
use mathlib.Core.Path.{◌≡◌, refl, sym, ◌∙◌, ap, subst}
use mathlib.Core.Bool.{not, ◌||◌}
use mathlib.Core.List.{List, map}
use Prim.Native.Nat.{ℕ, ◌≤◌, zero-le}
use lib.Dec.{T, ltb, nltb→le}
use lib.IntN.{ℤ, pos, ◌+ℤ◌, ◌-ℤ◌, +ℤ_idr}
use lib.ListN.{get_or}
use lib.Signed.{lt_z}
use Rattle.cleaning.specs.declared.Operation.{Operation}
use Rattle.plane.specs.Extent.{x_of, y_of, span, width, height}
use Rattle.plane.specs.Lists.{In, any, all}
use Rattle.plane.specs.Point.{Point, ◌+ᵖ◌, Cell, point}
use Rattle.plane.proofs.Extents.{Adds, x_adds, y_adds, span_far}
use Rattle.plane.proofs.Integer.{+ℤ_less}
use Rattle.plane.proofs.Member.{In-map}
use Rattle.plane.proofs.Tests.{not_or}
use Rattle.words.specs.Ground.{first_of}
use Rattle.words.proofs.Refusals.{clear, clear_first, clear_last}
use Rattle.masks.specs.Chain.{sum_of}
use Rattle.masks.specs.Mask.{stage}
use Rattle.masks.proofs.Cells.{sum_cells, sum_cells_lem, sum_low, Low}
use Rattle.shapes.specs.Plan.{plan_masks, plan_offset, plan_points, plan_tests}
use Rattle.shapes.specs.Shape.{too_far, out_of_range}
use Rattle.shapes.proofs.Written.{plan_itself}
use Rattle.grids.specs.Frame.{highest, bad_cell}
use Rattle.grids.proofs.Stage.{bytes_upto}
use Rattle.grids.specs.Grid.{work_tests}
use Rattle.cleaning.specs.Cleaning.{operation_tests}
use Rattle.cleaning.specs.Operation.{Direct, in_turn}
use Rattle.cleaning.proofs.Turn.{turn_direct}
use Rattle.cleaning.proofs.Within.{Small}

-- ground 8: the sum of stages has a cell at 0 along each axis, and no two points are farther apart than 15
pub small_plan : (ws : List ℕ) → T (all stage (plan_masks ws)) → T (not (out_of_range (plan_points ws))) → Small (plan_masks ws)
unfolding out_of_range plan_points
small_plan ws t o c h = (
  near x_of x_adds (λ a. a.0) (λ a. refl) l.x l.x_in l.x_zero (nltb→le 15 (width A) v.0),
  near y_of y_adds (λ a. a.1) (λ a. refl) l.y l.y_in l.y_zero (nltb→le 15 (height A) v.1),
)
  where
    ms : List ℕ
    ms = plan_masks ws

    d : Point
    d = plan_offset ws

    A : List Point
    A = plan_points ws

    l : Low (sum_cells ms)
    l = sum_low ms t

    v : T (not (ltb 15 (width A))) × T (not (ltb 15 (height A)))
    v = (not_or (ltb 15 (width A)) (ltb 15 (height A))).0 ((not_or (ltb 15 (width A) || ltb 15 (height A)) (any (λ p. too_far p.0 || too_far p.1) A)).0 o).0

    -- the point of the plan that a cell of the sum is moved to
    to : Cell → Point
    to a = d +ᵖ point a

    has : (a : Cell) → In (sum_cells ms) a → In A (to a)
    has a g =
        let e = subst (λ P. In P (point a)) (sym (sum_cells_lem ms)) ((In-map point (sum_cells ms) (point a)).1 (a, g, refl)) in
        (In-map (λ q. d +ᵖ q) (sum_of ms) (to a)).1 (point a, e, refl)

    -- along one axis: b is at 0, so c is as far from it as its number says
    near : (axis : Point → ℤ) → Adds axis → (number : Cell → ℕ) → ((a : Cell) → axis (point a) ≡ pos (number a))
        → (b : Cell) → In (sum_cells ms) b → number b ≡ 0 → span (map axis A) ≤ 15 → number c ≤ 15
    near axis adds number is b k z s =
        nltb→le 15 (number c) (subst (λ n. T (not (lt_z (pos 15) n))) apart (span_far (map axis A) (axis (to c)) (axis (to b)) 15 (on c h) (on b k) s))
      where
        at : (a : Cell) → axis (to a) ≡ axis d +ℤ pos (number a)
        at a = adds d (point a) ∙ ap (λ n. axis d +ℤ n) (is a)

        on : (a : Cell) → In (sum_cells ms) a → In (map axis A) (axis (to a))
        on a g = (In-map axis A (axis (to a))).1 (to a, has a g, refl)

        apart : axis (to c) -ℤ axis (to b) ≡ pos (number c)
        apart =
            ap (λ n. axis (to c) -ℤ n) (at b ∙ ap (λ n. axis d +ℤ pos n) z ∙ +ℤ_idr (axis d)) ∙ ap (λ n. n -ℤ axis d) (at c)
            ∙ +ℤ_less (axis d) (pos (number c))

-- ground 13
pub passing : (f : List ℕ) → T (not (bad_cell f)) → (i : ℕ) → get_or f i 0 ≤ highest
passing f t i = bytes_upto 0 zero-le f t i

pub accepted_direct : (op : Operation) (plan : List ℕ) (W H : ℕ) (f i j : List ℕ) → first_of (operation_tests plan W H f i j) ≡ 0
    → Direct op W H f (In (plan_points plan)) (in_turn op W H f (plan_offset plan) (plan_masks plan))
unfolding plan_tests work_tests
accepted_direct op plan W H f i j e =
    let c = clear (operation_tests plan W H f i j) tt e in
    let p = (clear_first (plan_tests plan) (work_tests W H f i j) c).1.1.1.1.1 in
    let w = clear_last (plan_tests plan) (work_tests W H f i j) c in
    let P = plan_itself plan p.0 in
    let small = small_plan plan P.stages p.1.0 in
    turn_direct op W H f (plan_offset plan) (plan_masks plan) (In (plan_points plan)) P.stages small (passing f w.1.1.0) P.sum
