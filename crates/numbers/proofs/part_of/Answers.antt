-- A refusal's part is empty. Else the slice that is found is not handed on, only its length and the image's number.
use Rattle.std.proofs.Common.{rules, arith, ◌≤◌, length}
use Rattle.numbers.proofs.Parted.{found_here}
use Rattle.numbers.proofs.part_of.Goals as goal

pub returns : goal.returns
returns c =
    let l : length c.part.result.now ≤ 0x7fffffffffffffff = omega arith in
    let a = c.args in
    found_here a.stages a.w a.h a.first.now a.second.now c.image_of.result c.part.result.now c.ranges.stages
    (search rules) c.image_of.ensures c.part.ensures l
