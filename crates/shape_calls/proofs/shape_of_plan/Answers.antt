-- A refused plan is refused; else the shape of its points is written.
use mathlib.Core.Logic.{inl}
use mathlib.Core.Path.{refl, sym}
use Rattle.std.proofs.lemmas.Result.{err_from_is_err_and}
use Rattle.words.proofs.Passing.{left_first}
use Rattle.words.proofs.Refusals.{promised_rest}
use Rattle.shape_calls.proofs.Calls.{plan_clear, list_stands}
use Rattle.shapes.specs.Plan.{plan_tests, plan_points}
use Rattle.shape_calls.proofs.shape_of_plan.Goals as goal

pub returns-in_err-plan_refusal : goal.returns-in_err-plan_refusal
returns-in_err-plan_refusal c =
    let p = err_from_is_err_and c.from_residual.result c.from_residual.ensures.1 in
    left_first (plan_tests c.args.ws.now) _ _ p.0 c.from_residual.result c.in_err-plan_refusal.ensures p.1 p.2 refl

pub read_plan-requires : goal.read_plan-requires
read_plan-requires c =
    sym c.in_ok-plan_refusal.ensures

pub write_shape-requires : goal.write_shape-requires
write_shape-requires c = inl c.read_plan.ensures.sound

pub returns : goal.returns
returns c =
    let s = c.read_plan in
    let a = c.args in
    let ws = a.ws.now in
    let z = sym c.in_ok-plan_refusal.ensures in
    let w = c.write_shape in
    promised_rest (plan_tests ws) _ (plan_clear ws z)
    (list_stands s.result (plan_points ws) a.out.now w.result _ s.ensures.sound.fits s.ensures.points w.ensures)
