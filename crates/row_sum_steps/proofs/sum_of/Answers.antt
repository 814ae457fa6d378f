use Rattle.std.proofs.Common.{◌+◌, sym, subst}
use Rattle.rows.specs.Leaves.{SumTo}
use Rattle.rows.proofs.Known.{rows16}
use Rattle.rows.proofs.Sums.{sum_more, sum_skip}
use Rattle.row_sum_steps.proofs.sum_of.Goals.{then-row-ne0, else-row-ne0}
use Rattle.row_sum_steps.proofs.sum_of.Goals as goal

pub loop-j-preserved : goal.loop-j-preserved
loop-j-preserved c =
    let h = c.loop-j in
    let a = c.args.a in
    let b = c.args.b in
    let next = SumTo a b (h.j + 1) in
    elim c.if-row-ne0.branch [
      | then-row-ne0 w ↦ subst next (sym w.r-is) (sum_more a b (rows16 b _ c.well_formed.1.0) h.j h.r w.row_sum-next.result h.invariant w.row_sum-next.ensures)
      | else-row-ne0 w ↦ subst next (sym w.r-is) (sum_skip a b h.j h.r w.if-row-ne0.false h.invariant)
    ]
