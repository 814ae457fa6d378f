-- Lists of which one is refused are refused; else the shapes that they stand for are summed and written.
use mathlib.Core.Path.{refl, sym}
use Rattle.shape_calls.proofs.Reading.{shape_read}
use Rattle.shape_calls.proofs.Calls.{made_returned, shapes_clear, each_accepted, list_made, sum_points}
use Rattle.std.proofs.lemmas.Result.{err_from_is_err_and}
use Rattle.words.proofs.Passing.{left_first}
use Rattle.words.proofs.Refusals.{promised_rest}
use Rattle.elements.specs.Standing.{points_of}
use Rattle.shapes.specs.Shape.{shape_points, shape_tests}
use Rattle.words.specs.Ground.{both}
use Rattle.shapes.specs.Calls.{summed_points}
use Rattle.shape_calls.proofs.sum_shapes.Goals as goal

pub returns-in_err-shapes_refusal : goal.returns-in_err-shapes_refusal
returns-in_err-shapes_refusal c =
    let p = err_from_is_err_and c.from_residual.result c.from_residual.ensures.1 in
    left_first (both (shape_tests c.args.ws.now) (shape_tests c.args.vs.now)) _ _ p.0 c.from_residual.result c.in_err-shapes_refusal.ensures p.1 p.2 refl

pub write_shape-requires : goal.write_shape-requires
write_shape-requires c =
    let a = c.args in
    let s = c.read_shape in
    let t = c.read_shape-2 in
    let e = each_accepted a.ws.now a.vs.now (sym c.in_ok-shapes_refusal.ensures) in
    let S = shape_read a.ws.now e.0 s.result s.ensures in
    let R = shape_read a.vs.now e.1 t.result t.ensures in
    made_returned _ (S.sound, R.sound) _ c.summed.result c.summed.ensures

pub returns : goal.returns
returns c =
    let m = c.summed in
    let t = c.read_shape-2 in
    let s = c.read_shape in
    let a = c.args in
    let ws = a.ws.now in
    let vs = a.vs.now in
    let z = sym c.in_ok-shapes_refusal.ensures in
    let w = c.write_shape in
    let both_read = each_accepted ws vs z in
    let S = shape_read ws both_read.0 s.result s.ensures in
    let R = shape_read vs both_read.1 t.result t.ensures in
    let e = sum_points (points_of s.result) (points_of t.result) (shape_points ws) (shape_points vs) S.points R.points in
    promised_rest (both (shape_tests ws) (shape_tests vs)) _ (shapes_clear ws vs z)
    (list_made _ (S.sound, R.sound) _ m.result m.ensures (summed_points ws vs) a.out.now w.result _ e w.ensures)
