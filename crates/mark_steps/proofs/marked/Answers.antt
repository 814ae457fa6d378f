use native.Mathlib.Omega.{arith}
use Rattle.masks.specs.Mask.{stage}
use Rattle.search.proofs.Marking.{marked_none, marked_more}
use Rattle.mark_steps.proofs.marked.Goals as goal

pub loop-m-init : goal.loop-m-init
loop-m-init c = marked_none stage _

pub loop-m-preserved : goal.loop-m-preserved
loop-m-preserved c =
    let l = c.loop-m in
    marked_more stage _ l.m l.marks c.mark.result (omega arith) l.invariant c.mark.ensures
