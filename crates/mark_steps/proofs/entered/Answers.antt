-- A marked mask is a stage, so that the numbers of its rows are its own.
use mathlib.Core.Path.{refl, sym, subst}
use lib.Dec.{T}
use Rattle.search.proofs.Asked.{tabled_more, tabled_skip, stage_numbers}
use Rattle.mark_steps.proofs.entered.Goals as goal

pub returns-then-marks-m : goal.returns-then-marks-m
returns-then-marks-m c =
    let st = c in
    let g = c.store.ensures in
    let t = st.requires.0.stages st.args.m (subst T (sym c.if-marks-m.true) tt) in
    let n = stage_numbers st.args.m t _ _ c.mask_rows.ensures c.numbers-numbers.ensures in
    (g.long, λ h. tabled_more st.args.marks.now st.args.table.now st.args.m h _ _ g n)

pub returns-else-marks-m : goal.returns-else-marks-m
returns-else-marks-m c =
    let st = c in
    (refl, λ h. tabled_skip st.args.marks.now st.args.table.now st.args.m h (λ t. subst T c.if-marks-m.false t))
