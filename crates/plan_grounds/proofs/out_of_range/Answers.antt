-- `range_tried` has that the four tests make ground 8.
use Rattle.std.proofs.Common.{arith}
use Rattle.std.proofs.lemmas.Bool.Decides.{nat_tests}
use Rattle.plan_grounds.proofs.Stages.{range_tried}
use Rattle.plan_grounds.proofs.out_of_range.Goals as goal

pub returns-then-ws-w-gt30 : goal.returns-then-ws-w-gt30
returns-then-ws-w-gt30 c =
    grind (arith, nat_tests, range_tried c.args.ws.now c.requires.2, c.extent-w.ensures.of_a_plan c.requires.1, c.extent-h.ensures.of_a_plan c.requires.1)

pub returns-else-ws-w-gt30 : goal.returns-else-ws-w-gt30
returns-else-ws-w-gt30 c =
    grind (arith, nat_tests, range_tried c.args.ws.now c.requires.2, c.extent-w.ensures.of_a_plan c.requires.1, c.extent-h.ensures.of_a_plan c.requires.1)
