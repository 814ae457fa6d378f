-- Each step finds that sizes fit; what the second plane shows is that level of the grid after the stage.
use Rattle.frame_calls.proofs.Stages.{packs, stages, level_taken}
use Rattle.frame_calls.proofs.staging.level.Goals as goal

pub returns : goal.returns
returns c =
    let x = c.args in
    let s = x.s in
    let r = c.requires.0 in
    let o = c.outside.ensures in
    let p = (rw o at c.pack.ensures).done
    (packs s.stage.erode s.around s.w s.h s.stage.mask r) in
    level_taken s.stage.erode s.around s.w s.h s.stage.mask r p
    ((rw o at c.stage.ensures).done (stages s.stage.erode s.around s.w s.h s.stage.mask r p x.plane.now c.requires.1))
