-- One plane, and the second where there are two.
use Rattle.frame_grounds.proofs.Sides.{sides}
use Rattle.cleaning.specs.Operation.{around}
use Rattle.clean_calls.proofs.Packed.{packs, first_long, one_packed, two_packed, still_packable}
use Rattle.clean_calls.proofs.packing.levels.Goals as goal

pub level-requires : goal.level-requires
level-requires c = sides c.args.w c.args.h c.requires.sides

pub second_level-requires : goal.second_level-requires
second_level-requires c =
    let a = c.args in
    let k = around a.op in
    let f = c.level.ensures.done (packs k a.w a.h a.frame.now a.first.now c.requires (first_long k a.w a.h a.frame.now c.requires)) in
    still_packable k a.w a.h a.frame.now c.requires f c.if-two.true

pub returns-then-two : goal.returns-then-two
returns-then-two c =
    let a = c.args in
    let k = around a.op in
    let f = c.level.ensures.done (packs k a.w a.h a.frame.now a.first.now c.requires (first_long k a.w a.h a.frame.now c.requires)) in
    two_packed k a.w a.h a.frame.now c.requires f c.if-two.true c.second_level.ensures

pub returns-else-two : goal.returns-else-two
returns-else-two c =
    let a = c.args in
    let k = around a.op in
    let f = c.level.ensures.done (packs k a.w a.h a.frame.now a.first.now c.requires (first_long k a.w a.h a.frame.now c.requires)) in
    one_packed k a.w a.h a.frame.now c.requires f c.if-two.false
