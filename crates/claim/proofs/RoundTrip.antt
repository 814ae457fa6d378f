-- The words of the plan pass every ground of a plan list, stand for the shape's points, and equal points have equal lists.
use mathlib.Core.Path.{◌≡◌, ◌∙◌, ap, subst}
use mathlib.Core.List.{[], ◌∷◌, ◌++◌}
use lib.ListN.{length, take, drop}
use Rattle.words.specs.Ground.{stated, result}
use Rattle.words.proofs.Refusals.{unclear, clear_append}
use Rattle.plane.proofs.Tests.{not_ltb}
use Rattle.shapes.specs.Calls.{TurnedBack, short_output}
use Rattle.shapes.specs.Plan.{plan_words, plan_tests}
use Rattle.shapes.proofs.Written.{plan_clear, plan_listed}
use Rattle.planning.proofs.Decided.{accepted, written_words}
use Rattle.claim.specs.RoundTrip.{RoundTrip}

pub round_trip : RoundTrip
round_trip ws out r out' e w back s back' long t =
    let S = accepted ws out e in
    let d = w.offset in
    let ms = w.stages in
    let P = w.picked.plan in
    let given : take (stated r).1 out' ≡ plan_words d ms = ap (λ a. take a.1 out') w.answer ∙ written_words ws out out' S d ms P w.words in
    let turned = subst (λ l. TurnedBack l back s back') given t in
    let passes = unclear (plan_tests (plan_words d ms) ++ (9, short_output 17 back) ∷ [])
    (clear_append (plan_tests (plan_words d ms)) ((9, short_output 17 back) ∷ []) (plan_clear ws S d ms P) (not_ltb (length back) 17 long, tt)) in
    let l = turned.done passes in
    let same = plan_listed ws S d ms P in
    record {
      answer = l.answer ∙ ap (λ vs. result (length vs)) same;
      words = subst (λ vs. back' ≡ vs ++ drop (length vs) back) same l.words;
    }
