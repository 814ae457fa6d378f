-- The claim of the one function that plans and cleans, from what it does call by call: demand 1 for its refusals, demand 3 for its results.
use mathlib.Core.Path.{◌≡◌, sym, ◌∙◌, ap, subst}
use mathlib.Core.Logic.{◌⊎◌, inl, inr, ◌≢◌}
use mathlib.Core.Bool.{not, cond}
use mathlib.Core.List.{List, [], ◌∷◌}
use Prim.Native.Nat.{ℕ, ◌+◌}
use native.Mathlib.Omega.{arith}
use lib.Dec.{T, eqb, eqb→eq}
use lib.ListN.{length, take, drop}
use borrow.Author.Tests.{ne_eqb}
use Rattle.plane.proofs.Tests.{T_dec, clash, eq-eqb, not_ltb}
use Rattle.words.specs.Ground.{first_of, stated, refusal}
use Rattle.words.specs.Ground.{Answer}
use Rattle.words.proofs.Refusals.{clear, unclear, clear_append, first_append, rest_append}
use Rattle.shapes.specs.Calls.{short_output}
use Rattle.shapes.specs.Plan.{plan_words, plan_tests}
use Rattle.shapes.specs.Shape.{shape_tests}
use Rattle.shapes.proofs.Written.{plan_clear}
use Rattle.planning.specs.Planning.{ShapeSet, planning_tests, PlanWritten, Unplannable}
use Rattle.planning.proofs.Decided.{accepted, written_words}
use Rattle.grids.specs.Frame.{grid_size}
use Rattle.grids.specs.Grid.{work_tests}
use Rattle.cleaning.specs.Operation.{Direct}
use Rattle.cleaning.specs.Cleaning.{part, Cleaned}
use Rattle.cleaning.specs.declared.Operation.{Operation}
use Rattle.claim.specs.Demand3.{Served}
use Rattle.claim.specs.Whole.{Claim, NoPlan, Handed, Run, handed_for, Lent, Steps}
use Rattle.claim.proofs.Demand1.{demand1}
use Rattle.claim.proofs.Demand3.{demand3, not_ten}

module _ (op : Operation) (ws : List ℕ) (W H : ℕ) (f i j own : List ℕ) (room : length own ≡ 32) (s : Answer) (i' j' : List ℕ)
    (S : Steps op ws W H f i j own s i' j') where
  -- planning refused, and nothing was written; or the operation was called
  abbrev Stopped : Type 0
  Stopped = (stated s ≡ stated S.answer) × (i' ≡ i) × (j' ≡ j)

  called : Stopped ⊎ Cleaned op (take (stated S.answer).1 S.own') W H f i j s i' j'
  called = go (T_dec (eqb (stated S.answer).0 0))
    where
      go : T (eqb (stated S.answer).0 0) ⊎ T (not (eqb (stated S.answer).0 0))
          → Stopped ⊎ Cleaned op (take (stated S.answer).1 S.own') W H f i j s i' j'
      go (inl t) = inr (S.cleans (eqb→eq (stated S.answer).0 0 t))
      go (inr m) = inl (S.stops (λ e. clash (eqb (stated S.answer).0 0) m (eq-eqb e)))

  -- ---- the images

  pub lent : Lent W H i j (stated s) i' j'
  lent = go called
    where
      same : (i' ≡ i) × (j' ≡ j) → Lent W H i j (stated s) i' j'
      same k = record {
        kept = λ _. k;
        first_size = ap length k.0;
        first_past = ap (drop (grid_size W H)) k.0;
        second_size = ap length k.1;
        second_past = ap (drop (grid_size W H)) k.1;
      }

      ran : Cleaned op (take (stated S.answer).1 S.own') W H f i j s i' j' → T (eqb (stated s).0 0) ⊎ T (not (eqb (stated s).0 0))
          → Lent W H i j (stated s) i' j'
      ran c (inl t) =
          let d = demand1.cleaning op _ W H f i j s i' j' c in
          let r = c.done (sym d.0 ∙ eqb→eq (stated s).0 0 t) in
          record {
            kept = d.1;
            first_size = r.first_size;
            first_past = r.first_past;
            second_size = r.second_size;
            second_past = r.second_past;
          }
      ran c (inr m) = same ((demand1.cleaning op _ W H f i j s i' j' c).1 (λ e. clash (eqb (stated s).0 0) m (eq-eqb e)))

      go : Stopped ⊎ Cleaned op (take (stated S.answer).1 S.own') W H f i j s i' j' → Lent W H i j (stated s) i' j'
      go (inl k) = same (k.1, k.2)
      go (inr c) = ran c (T_dec (eqb (stated s).0 0))

  -- ---- the answer and the part

  accepts : first_of (shape_tests ws) ≡ 0 → first_of (planning_tests ws own) ≡ 0
  unfolding shape_tests
  accepts e =
      let long = not_ltb (length own) 32 (omega arith) in
      unclear (planning_tests ws own) (clear_append (shape_tests ws) ((9, short_output 32 own) ∷ []) (clear (shape_tests ws) tt e) (long, tt))

  refuses : first_of (shape_tests ws) ≢ 0 → stated s ≡ refusal (first_of (shape_tests ws))
  refuses n =
      let same = first_append (shape_tests ws) ((9, short_output 32 own) ∷ []) n in
      let some : first_of (planning_tests ws own) ≢ 0 = λ z. n (sym same ∙ z) in
      let a = (S.plans.refused some).0 in
      (S.stops (λ z. some (sym (ap (λ q. q.0) a) ∙ z))).0 ∙ a ∙ ap refusal same

  ten : stated S.answer ≡ refusal 10 → (stated S.answer).0 ≢ 0
  ten q z = let n : ◌≡◌ {A = ℕ} 10 0 = sym (ap (λ a. a.0) q) ∙ z in omega arith

  module _ (e : first_of (shape_tests ws) ≡ 0) (w : PlanWritten ws own S.answer S.own') where
    -- the words that the operation is given
    given : take (stated S.answer).1 S.own' ≡ plan_words w.offset w.stages
    given =
        ap (λ a. take a.1 S.own') w.answer
        ∙ written_words ws own S.own' (accepted ws own (accepts e)) w.offset w.stages w.picked.plan w.words

    cleaned : Cleaned op (plan_words w.offset w.stages) W H f i j s i' j'
    cleaned = subst (λ p. Cleaned op p W H f i j s i' j') given (S.cleans (ap (λ a. a.0) w.answer))

    -- a frame that is not accepted is refused by its own grounds, since the plan's words pass theirs
    frame_refused : first_of (work_tests W H f i j) ≢ 0 → stated s ≡ refusal (first_of (work_tests W H f i j))
    frame_refused n =
        let same = rest_append (plan_tests (plan_words w.offset w.stages)) (work_tests W H f i j)
        (plan_clear ws (accepted ws own (accepts e)) w.offset w.stages w.picked.plan) in
        (cleaned.refused (λ z. n (sym same ∙ z))).0 ∙ ap refusal same

    handed : (t : Served ws own S.answer S.own') → first_of (work_tests W H f i j) ≡ 0
        → Handed op ws W H f t.offset t.stages (stated s) (handed_for (stated s) W H i' j')
    handed t v =
        let c = t.frames op W H f i j s i' j' v (S.cleans (ap (λ a. a.0) t.answer)) in
        let h : handed_for (stated s) W H i' j' ≡ part (stated s).1 W H i' j' = ap (λ a. cond (eqb a.0 0) (part (stated s).1 W H i' j') []) c.answer in
        record {
          answer = c.answer;
          turns = h ∙ c.turns;
          direct = subst (Direct op W H f (ShapeSet ws)) (sym h) c.direct;
        }

  pub claimed : Claim op ws W H f i j (stated s) (handed_for (stated s) W H i' j')
  claimed = record {
    refused = refuses;
    accepted = λ e. go e (S.plans.done (accepts e)) (demand3 ws own S.answer S.own' S.plans (accepts e)).plan;
    empty = λ n. ap (λ b. cond b (part (stated s).1 W H i' j') []) (ne_eqb (stated s).0 0 n);
  }
    where
      go : first_of (shape_tests ws) ≡ 0 → Unplannable ws own S.answer S.own' ⊎ PlanWritten ws own S.answer S.own'
          → (stated S.answer ≡ refusal 10) ⊎ Served ws own S.answer S.own'
          → NoPlan ws (stated s) ⊎ Run op ws W H f i j (stated s) (handed_for (stated s) W H i' j')
      go e (inl u) d = inl (record { none = u.none; answer = (S.stops (ten u.answer)).0 ∙ u.answer })
      go e (inr w) (inl q) = absurd (not_ten S.answer (length w.stages + 2) w.answer q)
      go e (inr w) (inr t) = inr (record {
        offset = t.offset;
        stages = t.stages;
        picked = t.picked;
        sum = t.sum;
        fewest = t.fewest;
        accepted = handed e w t;
        refused = frame_refused e w;
      })
