-- What is written from the planes is the grid after the stage.
use Rattle.frame_calls.proofs.Stages.{unpacks, stage_written}
use Rattle.frame_calls.proofs.staging.by_planes.Goals as goal

pub returns : goal.returns
returns c =
    let s = c.args.s in
    let o = c.outside.ensures in
    let h = c.levels.ensures in
    stage_written s.stage.erode s.around s.w s.h s.stage.mask c.requires.0 h
    ((rw o at c.unpack.ensures).done (unpacks s.stage.erode s.around s.w s.h s.stage.mask c.requires.0 h c.requires.1))
