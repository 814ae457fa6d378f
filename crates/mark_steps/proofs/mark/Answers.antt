-- No stage, or one that leaves the cells as they are, or not.
use mathlib.Core.Path.{refl, sym, ◌∙◌, subst}
use lib.Dec.{T}
use Rattle.masks.specs.Mask.{stage}
use Rattle.rows.proofs.Known.{rows16}
use Rattle.search.proofs.Marking.{mark_none, mark_by, opens}
use Rattle.mark_steps.proofs.mark.Goals as goal

pub returns-then-not-is_stage : goal.returns-then-not-is_stage
returns-then-not-is_stage c = mark_none stage _ c.args.m _ refl (λ t. absurd (subst T (sym c.is_stage.ensures ∙ c.if-not-is_stage.true) t))

pub returns : goal.returns
returns c =
    let r = c.shrunk-t in
    let u = c.grown-whole in
    mark_by stage _ c.args.m _ (subst T (sym c.if-not-is_stage.false ∙ c.is_stage.ensures) tt) (λ e t ns S h. c.same.ensures.no e
    (opens c.args.cells (rows16 c.args.cells _ c.well_formed.0) c.args.m r.result r.ensures u.result u.ensures stage ns S h))
