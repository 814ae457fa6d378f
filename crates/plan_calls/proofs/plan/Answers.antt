-- A refused list is refused, then a short output; else the shape's cells are searched, and the plan is written or there is no chain.
use mathlib.Core.Logic.{inl, inr}
use mathlib.Core.Path.{refl, sym, ap, ◌∙◌}
use Rattle.rows.proofs.Known.{rows16}
use Rattle.shapes.specs.Shape.{shape_points, shape_tests}
use Rattle.shape_calls.proofs.Reading.{shape_read}
use Rattle.std.proofs.lemmas.Result.{err_from_is_err_and}
use Rattle.words.proofs.Passing.{left_first}
use Rattle.plan_calls.proofs.Outputs.{too_short, long_enough}
use Rattle.words.specs.Ground.{number_of, stated}
use Rattle.rows.specs.Cells.{At}
use Rattle.plan_calls.proofs.Points.{fields, few, unplannable, written, answer_found, answer_none}
use Rattle.plan_calls.proofs.plan.Goals as goal

pub returns-in_err-shape_refusal : goal.returns-in_err-shape_refusal
returns-in_err-shape_refusal c =
    let p = err_from_is_err_and c.from_residual.result c.from_residual.ensures.1 in
    left_first (shape_tests c.args.ws.now) _ _ p.0 c.from_residual.result c.in_err-shape_refusal.ensures p.1 p.2 refl

pub returns-then-out-lt32 : goal.returns-then-out-lt32
returns-then-out-lt32 c =
    let a = c.args in
    let z = sym c.in_ok-shape_refusal.ensures in
    too_short a.ws.now a.out.now z c.if-out-lt32.true refl refl

pub returns-in_err-chosen : goal.returns-in_err-chosen
returns-in_err-chosen c =
    let a = c.args in
    let z = sym c.in_ok-shape_refusal.ensures in
    let s = c.read_shape-s in
    let F = shape_read a.ws.now z s.result s.ensures in
    let W = rows16 s.result.rows _ s.type_inv.1.1.1.1.1.0 in
    let p = err_from_is_err_and c.from_residual-in_err-chosen.result c.from_residual-in_err-chosen.ensures.1 in
    let n = answer_none (At s.result.rows) c.shortest.result _ _ (sym c.in_err-chosen.ensures.value) c.shortest.ensures in
    long_enough a.ws.now a.out.now z c.if-out-lt32.false
    (inl (unplannable a.ws.now a.out.now s.result W F n.0 _ (ap stated p.1 ∙ ap (λ g. (number_of g, 0)) (p.2 ∙ n.1))))

pub write_plan-requires : goal.write_plan-requires
write_plan-requires c =
    let a = c.args in
    let z = sym c.in_ok-shape_refusal.ensures in
    let s = c.read_shape-s in
    let F = shape_read a.ws.now z s.result s.ensures in
    let W = rows16 s.result.rows _ s.type_inv.1.1.1.1.1.0 in
    let k = c.in_ok-chosen.chosen in
    let P = answer_found (At s.result.rows) c.shortest.result _ k (sym c.in_ok-chosen.ensures.value) c.shortest.ensures in
    let f = fields (shape_points a.ws.now) s.result W F in
    (f.0, (f.1, (few a.ws.now a.out.now s.result W F k P, c.if-out-lt32.false)))

pub returns : goal.returns
returns c =
    let a = c.args in
    let z = sym c.in_ok-shape_refusal.ensures in
    let s = c.read_shape-s in
    let F = shape_read a.ws.now z s.result s.ensures in
    let W = rows16 s.result.rows _ s.type_inv.1.1.1.1.1.0 in
    let k = c.in_ok-chosen.chosen in
    let P = answer_found (At s.result.rows) c.shortest.result _ k (sym c.in_ok-chosen.ensures.value) c.shortest.ensures in
    long_enough a.ws.now a.out.now z c.if-out-lt32.false (inr (written a.ws.now a.out.now s.result W F k P _ _ _ refl c.write_plan.ensures))
