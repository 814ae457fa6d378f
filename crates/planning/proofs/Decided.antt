-- What planning's promise decides: for an accepted shape with a picked plan the answer and the words are known, and so they are for one with no chain. The
-- picked plan is the only one, and a plan is a chain, so the promise leaves no choice.
use mathlib.Core.Path.{◌≡◌, refl, sym, ◌∙◌, ap, ap₂, subst}
use mathlib.Core.Logic.{◌⊎◌, inl, inr}
use mathlib.Core.List.{List, [], ◌∷◌, ◌++◌, map}
use Prim.Native.Nat.{ℕ, ◌+◌, ◌≤◌}
use native.Mathlib.Nat.{le_trans}
use lib.Dec.{lt→ltb}
use lib.ListN.{length, take, drop}
use lib.Seq.{take-append_seam}
use Rattle.words.specs.Ground.{Answer}
use Rattle.std.specs.Prelude.{Ok, Err}
use Rattle.words.specs.declared.Ground.TheVariants.{NoChain}
use Rattle.plane.specs.Lists.{In}
use Rattle.plane.specs.Point.{Point, PointSet, point, ◌+ᵖ◌, ◌-ᵖ◌}
use Rattle.plane.proofs.Algebra.{+ᵖ_cancel}
use Rattle.plane.proofs.Member.{In-map, In-all, all_In}
use Rattle.words.specs.Ground.{first_of, stated, result, refusal}
use Rattle.words.proofs.Refusals.{clear, clear_first}
use Rattle.masks.specs.Chain.{Chain, subset, PlanOf, Picked}
use Rattle.masks.specs.Mask.{stage}
use Rattle.masks.proofs.Bounds.{forced}
use Rattle.masks.proofs.Cells.{stage_below}
use Rattle.masks.proofs.Order.{no_fewer, picked_once}
use Rattle.masks.proofs.Reduce.{shorten}
use Rattle.shapes.specs.Calls.{short_output}
use Rattle.shapes.specs.Plan.{plan_words}
use Rattle.shapes.specs.Shape.{shape_tests, shape_points, anchor}
use Rattle.shapes.proofs.Accepted.{Shaped, accepted_shape}
use Rattle.shapes.proofs.Written.{plan_length}
use Rattle.planning.specs.Planning.{planning_tests, Planned, PlanWritten, Unplannable, ShapeSet}

-- ---- plans and chains

-- a plan is a chain
pub chain_of : (S : PointSet) (d : Point) (ms : List ℕ) → PlanOf stage S d ms → Chain subset S
chain_of S d ms P = record {
  members = ms;
  offset = d;
  masks = all_In subset ms (λ m h. lt→ltb m 512 (stage_below m (In-all stage ms P.stages m h)));
  sum = P.sum;
}

-- the picked plan of a set that has a point has no more stages than any chain has members
pub picked_fewest : (S : PointSet) (p : Point) → S p → (d : Point) (ms : List ℕ) → Picked stage S d ms → (c : Chain subset S) → length ms ≤ length c.members
picked_fewest S p s d ms P c =
    let q = shorten S p s c in
    le_trans (no_fewer ms q.stages (P.first q.offset q.stages q.plan)) q.count

-- two plans of a list of points have one offset
offset_once : (A : List Point) (d e : Point) (ms ns : List ℕ) → PlanOf stage (In A) d ms → PlanOf stage (In A) e ns → d ≡ e
offset_once A d e ms ns p q = forced A d ms p ∙ sym (forced A e ns q)

-- ---- accepted shapes

pub accepted : (ws out : List ℕ) → first_of (planning_tests ws out) ≡ 0 → Shaped ws
unfolding shape_tests
accepted ws out e = accepted_shape ws (clear_first (shape_tests ws) ((9, short_output 32 out) ∷ []) (clear (planning_tests ws out) tt e))

-- an accepted shape has a point
pub some_point : (ws : List ℕ) → Shaped ws → (p : Point) × ShapeSet ws p
some_point ws S =
    let c = S.placed.low.x in
    let d = point S.corner -ᵖ point (anchor ws) in
    let p = point c +ᵖ d in
    let c-in = (In-map point S.cells (point c)).1 (c, S.placed.low.x_in, refl) in
    (p, (S.placed.set p).1 (subst (In (map point S.cells)) (sym (+ᵖ_cancel (point c) d)) c-in))

module _ (ws out : List ℕ) (e : first_of (planning_tests ws out) ≡ 0) (r : Answer) (out' : List ℕ) (p : Planned ws out r out') where
  -- with a picked plan: its words, and their number
  pub planned : (d : Point) (ms : List ℕ) → Picked stage (ShapeSet ws) d ms
      → (stated r ≡ result (length ms + 2)) × (out' ≡ plan_words d ms ++ drop (length ms + 2) out)
  planned d ms P = go (p.done e)
    where
      go : Unplannable ws out r out' ⊎ PlanWritten ws out r out' → (stated r ≡ result (length ms + 2)) × (out' ≡ plan_words d ms ++ drop (length ms + 2) out)
      go (inl u) = absurd (u.none (chain_of (ShapeSet ws) d ms P.plan))
      go (inr w) =
          let s : w.stages ≡ ms = picked_once stage (ShapeSet ws) w.offset d w.stages ms w.picked P in
          let o : w.offset ≡ d = offset_once (shape_points ws) w.offset d w.stages ms w.picked.plan P.plan in
          (w.answer ∙ ap (λ l. result (length l + 2)) s, w.words ∙ ap₂ (λ x l. plan_words x l ++ drop (length l + 2) out) o s)

  -- with no chain: refused 10, and nothing is written
  pub unplanned : ¬ Chain subset (ShapeSet ws) → (stated r ≡ refusal 10) × (out' ≡ out)
  unplanned none = go (p.done e)
    where
      go : Unplannable ws out r out' ⊎ PlanWritten ws out r out' → (stated r ≡ refusal 10) × (out' ≡ out)
      go (inl u) = (u.answer, u.kept)
      go (inr w) = absurd (none (chain_of (ShapeSet ws) w.offset w.stages w.picked.plan))

-- the words that were written, as many as the length returned
pub written_words : (ws out out' : List ℕ) (S : Shaped ws) (d : Point) (ms : List ℕ) → PlanOf stage (ShapeSet ws) d ms
    → out' ≡ plan_words d ms ++ drop (length ms + 2) out → take (length ms + 2) out' ≡ plan_words d ms
written_words ws out out' S d ms P w =
    let n = length ms + 2 in
    let rest = drop n out in
    ap (take n) w ∙ ap (λ k. take k (plan_words d ms ++ rest)) (sym (plan_length ws S d ms P)) ∙ take-append_seam (plan_words d ms) rest

-- ---- the promise can be kept wherever there is a picked plan, or no chain

module _ (ws out : List ℕ) (e : first_of (planning_tests ws out) ≡ 0) where
  pub can_plan : (d : Point) (ms : List ℕ) → Picked stage (ShapeSet ws) d ms → (r : Answer) × (out' : List ℕ) × Planned ws out r out'
  can_plan d ms P =
      let q = some_point ws (accepted ws out e) in (
        Ok (length ms + 2),
        plan_words d ms ++ drop (length ms + 2) out,
        record {
          refused = λ n. absurd (n e);
          done = λ _. inr
              (record { offset = d; stages = ms; picked = P; fewest = picked_fewest (ShapeSet ws) q.0 q.1 d ms P; answer = refl; words = refl });
        },
      )

  pub can_refuse : ¬ Chain subset (ShapeSet ws) → (r : Answer) × (out' : List ℕ) × Planned ws out r out'
  can_refuse none = (Err NoChain, out, record { refused = λ n. absurd (n e); done = λ _. inl (record { none = none; answer = refl; kept = refl }) })
