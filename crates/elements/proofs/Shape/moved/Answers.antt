-- The moved place is taken where every cell is in range from there; a value that is no shape, and a place from where a cell is not, give no shape.
use mathlib.Core.Path.{subst}
use mir.Syntax.{w32}
use mir.ValLaws.{to_z-of_z}
use Rattle.elements.proofs.Made.{made_none}
use Rattle.elements.proofs.Moving.{moved_near, moved_far}
use Rattle.rows.proofs.Known.{rows16}
use Rattle.elements.proofs.Stands.{some}
use Rattle.elements.specs.Standing.{Along}
use Rattle.elements.proofs.Shape.moved.Goals as goal
use Rattle.elements.proofs.Shape.moved.Goals.{else-sound-via-then-sound+else-within, else-sound-via-else-sound}

pub returns-then-within : goal.returns-then-within
returns-then-within c =
    let s = c.args.self in
    let w = rows16 s.rows _ c.well_formed.0.1.1.1.1.1.0 in
    let S = c.sound.ensures.yes c.if-sound.true in
    let vx = c.along-x.result in
    let vy = c.along-y.result in
    let X = subst (λ z. Along s.x z vx) (to_z-of_z w32 c.args.dx c.ranges.dx) c.along-x.ensures in
    let Y = subst (λ z. Along s.y z vy) (to_z-of_z w32 c.args.dy c.ranges.dy) c.along-y.ensures in
    moved_near s w S (c.args.dx, c.args.dy) vx vy X Y (c.within.ensures.yes c.if-within.true)

pub returns-else-sound : goal.returns-else-sound
returns-else-sound c =
    let s = c.args.self in
    elim c.else-sound.branch [
      | else-sound-via-then-sound+else-within v ↦
          let w = rows16 s.rows _ c.well_formed.0.1.1.1.1.1.0 in
          let S = c.sound.ensures.yes v.if-sound.true in
          let vx = c.along-x.result in
          let vy = c.along-y.result in
          let X = subst (λ z. Along s.x z vx) (to_z-of_z w32 c.args.dx c.ranges.dx) c.along-x.ensures in
          let Y = subst (λ z. Along s.y z vy) (to_z-of_z w32 c.args.dy c.ranges.dy) c.along-y.ensures in
          moved_far s w S (c.args.dx, c.args.dy) vx vy X Y c.nothing.result (v.within.ensures.no v.if-within.false (some S.top)) c.nothing.ensures
      | else-sound-via-else-sound v ↦ made_none _ _ _ (c.sound.ensures.no v.if-sound.false) c.nothing.ensures
    ]
