-- The stages are run on the last parts of both images.
use Rattle.result_steps.proofs.Rooms.{plane_is}
use Rattle.result_steps.proofs.Behind.{second_starts, second_able, second_ends}
use Rattle.result_steps.proofs.levels.second_stages.Goals as goal

pub slice_bounds-stages-count : goal.slice_bounds-stages-count
slice_bounds-stages-count c =
    let a = c.args in
    (second_starts a.op a.plan.now a.w a.h a.first.now a.second.now c.requires.1 (plane_is c.args.w c.args.h c.requires.1.sides c.plane_bytes-o.ensures)).0

pub slice_bounds-stages-start : goal.slice_bounds-stages-start
slice_bounds-stages-start c =
    let a = c.args in
    (second_starts a.op a.plan.now a.w a.h a.first.now a.second.now c.requires.1 (plane_is c.args.w c.args.h c.requires.1.sides c.plane_bytes-o.ensures)).0

pub slice_bounds-stages-count-2 : goal.slice_bounds-stages-count-2
slice_bounds-stages-count-2 c =
    let a = c.args in
    (second_starts a.op a.plan.now a.w a.h a.first.now a.second.now c.requires.1 (plane_is c.args.w c.args.h c.requires.1.sides c.plane_bytes-o.ensures)).1

pub slice_bounds-stages-start-2 : goal.slice_bounds-stages-start-2
slice_bounds-stages-start-2 c =
    let a = c.args in
    (second_starts a.op a.plan.now a.w a.h a.first.now a.second.now c.requires.1 (plane_is c.args.w c.args.h c.requires.1.sides c.plane_bytes-o.ensures)).1

pub returns : goal.returns
returns c =
    let a = c.args in
    let at = plane_is c.args.w c.args.h c.requires.1.sides c.plane_bytes-o.ensures in
    let e = c.stages.ensures.through (second_able a.op a.plan.now a.w a.h a.first.now a.second.now c.requires.1 at c.requires.0) in
    second_ends a.op a.plan.now a.w a.h a.first.now a.second.now c.requires.1 at e
