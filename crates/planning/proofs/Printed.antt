-- What is printed for the lines of a shape list whose plan is known, that has no chain, or that another ground refuses.
use mathlib.Core.Path.{◌≡◌, refl, sym, ◌∙◌, ap}
use mathlib.Core.List.{List, []}
use Prim.Native.Nat.{ℕ, suc}
use native.Mathlib.Omega.{arith}
use lib.ListN.{length}
use Rattle.plane.specs.Point.{Point}
use Rattle.words.specs.Ground.{first_of, refusal}
use Rattle.masks.specs.Chain.{Chain, subset, Picked}
use Rattle.masks.specs.Mask.{stage}
use Rattle.shapes.specs.Plan.{plan_words}
use Rattle.shapes.specs.Shape.{shape_tests}
use Rattle.planning.specs.Planning.{planning_tests, ShapeSet}
use Rattle.planning.specs.Printer.{word_lines, Reads, Printed, PrintedFor, shown, refused_line}
use Rattle.planning.proofs.Decided.{planned, unplanned, written_words, accepted}

module _ (input output ws : List ℕ) (R : Reads input ws) (P : Printed input output)
    (ok : (out : List ℕ) → length out ≡ 32 → first_of (planning_tests ws out) ≡ 0) where
  printing : PrintedFor ws output
  printing = P.readable ws R

  -- the plan, a line a word
  pub printed_plan : (d : Point) (ms : List ℕ) → Picked stage (ShapeSet ws) d ms → output ≡ word_lines (plan_words d ms)
  printed_plan d ms k =
      let q = printing in
      let e = ok q.out q.room in
      let r = planned ws q.out e q.answer q.out' q.plans d ms k in
      q.prints ∙ ap (λ s. shown s q.out') r.0 ∙ ap word_lines (written_words ws q.out q.out' (accepted ws q.out e) d ms k.plan r.1)

  -- the refusal
  pub printed_none : ¬ Chain subset (ShapeSet ws) → output ≡ refused_line 10
  printed_none none =
      let q = printing in
      let r = unplanned ws q.out (ok q.out q.room) q.answer q.out' q.plans none in
      q.prints ∙ ap (λ s. shown s q.out') r.0

-- a list that another ground refuses
pub printed_refused : (input output ws : List ℕ) → Reads input ws → Printed input output
    → (g : ℕ) → ((out : List ℕ) → length out ≡ 32 → first_of (planning_tests ws out) ≡ suc g) → output ≡ refused_line (suc g)
printed_refused input output ws R P g wrong =
    let q = P.readable ws R in
    let e = wrong q.out q.room in
    let r = (q.plans.refused (λ z. let n : suc g ≡ 0 = sym e ∙ z in omega arith)).0 in
    q.prints ∙ ap (λ s. shown s q.out') (r ∙ ap refusal e)

-- input without lines prints "refused 1"
pub printed_nothing : (output : List ℕ) → Printed [] output → output ≡ refused_line 1
unfolding word_lines shape_tests
printed_nothing output P = printed_refused [] output [] (record { words = tt; lines = refl }) P 0 (λ out h. refl)
