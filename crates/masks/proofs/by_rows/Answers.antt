use native.Mathlib.Omega.{arith}
use mathlib.Core.Path.{refl, sym, ◌∙◌}
use Rattle.masks.proofs.Shifts.{row_step, row_stop}
use Rattle.masks.proofs.by_rows.Goals as goal

pub loop-m-init : goal.loop-m-init
loop-m-init c = (c.requires, refl)

pub loop-m-preserved : goal.loop-m-preserved
loop-m-preserved c =
    let l = c.loop-m in
    (omega (arith, l.invariant.0), row_step l.m l.invariant.0 (omega (arith, c.loop-m-test.true)) ∙ l.invariant.1)

pub returns : goal.returns
returns c =
    let l = c.loop-m in
    (sym (row_stop l.m l.invariant.0 c.loop-m-test.false) ∙ l.invariant.1, l.invariant.0)
