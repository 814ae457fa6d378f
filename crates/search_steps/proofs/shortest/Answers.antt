-- No cell, a face that no sum has, or the extents of the cells and the search.
use Rattle.masks.specs.Mask.{stage}
use Rattle.rows.proofs.Known.{rows16}
use Rattle.search.proofs.Lengths.{none_empty, wide_in, high_in}
use Rattle.search_steps.proofs.shortest.Goals as goal
use Rattle.search_steps.proofs.shortest.Goals.{then-empty-via-then-empty, then-empty-via-else-empty+then-not-may_be_sum}

pub returns-then-empty : goal.returns-then-empty
returns-then-empty c =
    elim c.then-empty.branch [
      | then-empty-via-then-empty w ↦ none_empty stage (λ m t. t) _ (c.empty.ensures.yes w.if-empty.true)
      | then-empty-via-else-empty+then-not-may_be_sum w ↦ λ ns S. (w.may_be_sum.ensures.no w.if-not-may_be_sum.true).no ns S.sum
    ]

pub returns-in_err-w : goal.returns-in_err-w
returns-in_err-w c = rw c.from_residual.ensures (none_empty stage (λ m t. t) _ c.in_err-w.ensures)

pub deepening-requires : goal.deepening-requires
deepening-requires c =
    let r = rows16 c.args.cells _ c.well_formed.0 in
    let w = c.in_ok-w.ensures in
    let h = c.in_ok-h.ensures in
    (wide_in c.args.cells r _ w, (high_in c.args.cells r _ h, (w, h)))
