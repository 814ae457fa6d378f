-- Demand 3, from what planning and the operations promise: the words of an accepted shape's plan pass every ground of a plan list, so on an accepted
-- frame the operation runs them, and what the stages give in turn is what their sum, the shape, gives directly.
use mathlib.Core.Path.{◌≡◌, sym, ◌∙◌, ap, ap₂, subst}
use mathlib.Core.Logic.{◌⊎◌, inl, inr}
use mathlib.Core.List.{List}
use Prim.Native.Nat.{ℕ, ◌+◌}
use native.Mathlib.Omega.{arith}
use lib.ListN.{length, take}
use Rattle.words.specs.Ground.{Answer}
use Rattle.cleaning.specs.declared.Operation.{Operation}
use Rattle.plane.specs.Lists.{In}
use Rattle.plane.specs.Point.{Point}
use Rattle.words.specs.Ground.{first_of, stated, result, refusal}
use Rattle.words.proofs.Refusals.{Clear, clear, unclear, clear_append, result_no_refusal}
use Rattle.masks.specs.Chain.{PlanOf}
use Rattle.masks.specs.Mask.{stage}
use Rattle.shapes.specs.Plan.{plan_points, plan_words, plan_tests}
use Rattle.shapes.proofs.Accepted.{Shaped}
use Rattle.shapes.proofs.Written.{plan_clear, masks_are, offset_is, plan_stands}
use Rattle.planning.specs.Planning.{ShapeSet, PlanWritten, Unplannable}
use Rattle.planning.proofs.Decided.{chain_of, accepted, written_words}
use Rattle.grids.specs.Grid.{work_tests}
use Rattle.cleaning.specs.Cleaning.{part, operation_tests, stages_run, Cleaned}
use Rattle.cleaning.specs.Operation.{in_turn}
use Rattle.cleaning.proofs.Fixed.{same_direct}
use Rattle.claim.specs.Demand3.{Demand3, Agrees, Served, Decided}
use Rattle.claim.proofs.Demand2.{part_direct}

-- the grounds of an accepted frame and its images
work_clear : (W H : ℕ) (f i j : List ℕ) → first_of (work_tests W H f i j) ≡ 0 → Clear (work_tests W H f i j)
unfolding work_tests
work_clear W H f i j e = clear (work_tests W H f i j) tt e

module _ (ws : List ℕ) (S : Shaped ws) (d : Point) (ms : List ℕ) (P : PlanOf stage (ShapeSet ws) d ms) where
  -- none of the four operations refuses the plan's words on an accepted frame
  pub runs : (W H : ℕ) (f i j : List ℕ) → first_of (work_tests W H f i j) ≡ 0 → first_of (operation_tests (plan_words d ms) W H f i j) ≡ 0
  runs W H f i j e =
      let c = clear_append (plan_tests (plan_words d ms)) (work_tests W H f i j) (plan_clear ws S d ms P) (work_clear W H f i j e) in
      unclear (operation_tests (plan_words d ms) W H f i j) c

  -- and each agrees
  pub agrees : (op : Operation) (W H : ℕ) (f i j : List ℕ) (s : Answer) (i' j' : List ℕ) → first_of (work_tests W H f i j) ≡ 0
      → Cleaned op (plan_words d ms) W H f i j s i' j' → Agrees op ws d ms W H f s i' j'
  agrees op W H f i j s i' j' e c =
      let run = runs W H f i j e in
      let ran = c.done run in
      let plan = plan_words d ms in
      let masks = masks_are ws S d ms P in
      let given = part_direct op plan W H f i j s i' j' c run in
      record {
        answer = ran.answer ∙ ap (λ l. result (stages_run op (length l))) masks;
        turns = ap (λ a. part a.1 W H i' j') ran.answer ∙ ran.handed ∙ ap₂ (λ p l. in_turn op W H f p l) (offset_is ws S d ms P) masks;
        direct = same_direct op W H f (In (plan_points plan)) (ShapeSet ws) (part (stated s).1 W H i' j') (plan_stands ws S d ms P) given;
      }

-- the plan that was written, and what each operation makes of the words that were written
served : (ws out : List ℕ) (r : Answer) (out' : List ℕ) → Shaped ws → PlanWritten ws out r out' → Served ws out r out'
served ws out r out' S w =
    let d = w.offset in
    let ms = w.stages in
    let P = w.picked.plan in
    let head : take (stated r).1 out' ≡ plan_words d ms = ap (λ a. take a.1 out') w.answer ∙ written_words ws out out' S d ms P w.words in
    record {
      offset = d;
      stages = ms;
      answer = w.answer;
      words = w.words;
      picked = w.picked;
      sum = P.sum;
      fewest = w.fewest;
      frames = λ op W H f i j s i' j' e.
          subst (λ p. Cleaned op p W H f i j s i' j' → Agrees op ws d ms W H f s i' j') (sym head) (agrees ws S d ms P op W H f i j s i' j' e);
    }

-- a result is not refusal 10
pub not_ten : (r : Answer) (n : ℕ) → stated r ≡ result n → stated r ≡ refusal 10 → ⊥
not_ten r n p q = let z = result_no_refusal r n 10 p q in omega arith

pub demand3 : Demand3
demand3 ws out r out' p e = go (p.done e)
  where
    go : Unplannable ws out r out' ⊎ PlanWritten ws out r out' → Decided ws out r out'
    go (inl u) = record { none = (λ _. u.none, λ _. u.answer); plan = inl u.answer }
    go (inr w) =
        let chain = chain_of (ShapeSet ws) w.offset w.stages w.picked.plan in
        record {
          none = (λ q. absurd (not_ten r (length w.stages + 2) w.answer q), λ f. absurd (f chain));
          plan = inr (served ws out r out' (accepted ws out e) w);
        }
