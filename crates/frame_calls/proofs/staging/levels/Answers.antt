-- One level, and the second where there are two planes.
use Rattle.frame_calls.proofs.Stages.{held_one, held_two}
use Rattle.frame_calls.proofs.staging.levels.Goals as goal

pub returns-then-o-ne0 : goal.returns-then-o-ne0
returns-then-o-ne0 c =
    let s = c.args.s in
    held_two s.stage.erode s.around s.w s.h s.stage.mask c.requires.0 c.requires.1 c.if-o-ne0.true c.level.ensures c.second_level.ensures

pub returns-else-o-ne0 : goal.returns-else-o-ne0
returns-else-o-ne0 c =
    let s = c.args.s in
    held_one s.stage.erode s.around s.w s.h s.stage.mask c.requires.0 c.requires.1 c.if-o-ne0.false c.level.ensures
