-- A refused list is refused; else the shape that it stands for is moved and written.
use mir.Syntax.{w32}
use mir.ValLaws.{to_z-of_z}
use mathlib.Core.List.{map}
use mathlib.Core.Path.{refl, sym, subst}
use Rattle.shape_calls.proofs.Reading.{shape_read}
use Rattle.shape_calls.proofs.Calls.{made_returned, map_points, shape_clear, list_made}
use Rattle.std.proofs.lemmas.Result.{err_from_is_err_and}
use Rattle.words.proofs.Passing.{left_first}
use Rattle.words.proofs.Refusals.{promised_rest}
use Rattle.elements.specs.Standing.{Made, Sound, points_of}
use Rattle.shapes.specs.Shape.{shape_points, shape_tests}
use Rattle.shapes.specs.Calls.{moved_points}
use Rattle.plane.specs.Point.{Point, ◌+ᵖ◌}
use Rattle.shape_calls.proofs.move_shape.Goals as goal

pub returns-in_err-shape_refusal : goal.returns-in_err-shape_refusal
returns-in_err-shape_refusal c =
    let p = err_from_is_err_and c.from_residual.result c.from_residual.ensures.1 in
    left_first (shape_tests c.args.ws.now) _ _ p.0 c.from_residual.result c.in_err-shape_refusal.ensures p.1 p.2 refl

pub write_shape-requires : goal.write_shape-requires
write_shape-requires c =
    let s = c.read_shape in
    let S = shape_read c.args.ws.now (sym c.in_ok-shape_refusal.ensures) s.result s.ensures in
    made_returned _ S.sound _ c.moved.result c.moved.ensures

pub returns : goal.returns
returns c =
    let m = c.moved in
    let s = c.read_shape in
    let a = c.args in
    let ws = a.ws.now in
    let z = sym c.in_ok-shape_refusal.ensures in
    let w = c.write_shape in
    let S = shape_read ws z s.result s.ensures in
    let M = subst (λ (d : Point). Made (Sound s.result) (map (λ p. p +ᵖ d) (points_of s.result)) m.result)
    (λ i. (to_z-of_z w32 a.dx c.ranges.dx i, to_z-of_z w32 a.dy c.ranges.dy i)) m.ensures in
    let e = map_points (λ p. p +ᵖ (a.dx, a.dy)) (points_of s.result) (shape_points ws) S.points in
    promised_rest (shape_tests ws) _ (shape_clear ws z)
    (list_made (Sound s.result) S.sound _ m.result M (moved_points ws (a.dx, a.dy)) a.out.now w.result _ e w.ensures)
