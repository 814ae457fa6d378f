-- The answer of the call, with dx and dy as they were given.
use mathlib.Core.Path.{subst}
use mir.Syntax.{w32}
use mir.ValLaws.{to_z-of_z}
use borrow.Author.Rules.{rules}
use Rattle.plane.specs.Point.{Point}
use Rattle.shapes.specs.Calls.{Moved}
use Rattle.exports.proofs.musq_move.Goals as goal

pub returns : goal.returns
returns c =
    let st = c in
    let a = st.args in
    let m = c.move_shape in
    let kept = subst (λ (d : Point). Moved a.shape.now d a.out.now m.result m.new.out)
    (λ i. (to_z-of_z w32 a.dx st.ranges.dx i, to_z-of_z w32 a.dy st.ranges.dy i)) m.ensures in
    record { answer = m.result; number = search rules; kept = kept }
