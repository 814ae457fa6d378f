-- The first planes, and the second where there are two.
use Rattle.turn_steps.proofs.Alternating.{room_past}
use Rattle.result_steps.proofs.Rooms.{room_planes}
use Rattle.result_steps.proofs.Behind.{one_plane, two_planes}
use Rattle.result_steps.proofs.levels.stages.Goals as goal

pub second_stages-requires : goal.second_stages-requires
second_stages-requires c =
    let e = c.stages-n.ensures.through (record { words = c.requires.0; room = room_planes c.requires.1 }) in
    (c.requires.0, room_past c.requires.1 e.first e.second)

pub returns-then-two : goal.returns-then-two
returns-then-two c =
    let e = c.stages-n.ensures.through (record { words = c.requires.0; room = room_planes c.requires.1 }) in
    two_planes c.if-two.true e c.second_stages.ensures

pub returns-else-two : goal.returns-else-two
returns-else-two c = one_plane c.if-two.false (c.stages-n.ensures.through (record { words = c.requires.0; room = room_planes c.requires.1 }))
