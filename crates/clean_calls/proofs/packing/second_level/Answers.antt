-- The second level is packed into the last part of the image.
use Rattle.cleaning.specs.Operation.{around}
use Rattle.result_steps.proofs.Rooms.{plane_is}
use Rattle.clean_calls.proofs.Packed.{tail_packs, second_packed}
use Rattle.clean_calls.proofs.packing.second_level.Goals as goal

pub returns : goal.returns
returns c =
    let a = c.args in
    let k = around a.op in
    let at = plane_is c.args.w c.args.h c.requires.sides c.plane_bytes-o.ensures in
    second_packed k a.w a.h a.frame.now c.requires at (c.level.ensures.done (tail_packs k a.w a.h a.frame.now c.requires at))
