use native.Mathlib.Omega.{arith}
use mathlib.Core.Path.{refl, sym, ap, ◌∙◌}
use Rattle.masks.proofs.Shifts.{columns_down, column_step, column_stop, columns_zero}
use Rattle.masks.proofs.by_columns.Goals as goal

pub loop-mask-init : goal.loop-mask-init
loop-mask-init c = (c.requires, refl)

pub in_column_0-requires : goal.in_column_0-requires
in_column_0-requires c = let l = c.loop-mask in omega (arith, l.invariant.0)

pub returns-then-n-eq0 : goal.returns-then-n-eq0
returns-then-n-eq0 c =
    let l = c.loop-mask in
    sym columns_zero ∙ ap columns_down (sym c.if-n-eq0.true) ∙ l.invariant.1

pub loop-mask-smaller : goal.loop-mask-smaller
loop-mask-smaller c = let n = c.if-n-eq0.false in omega arith

pub loop-mask-preserved : goal.loop-mask-preserved
loop-mask-preserved c =
    let r = c.in_column_0 in
    let l = c.loop-mask in
    (omega (arith, l.invariant.0), column_step l.n l.invariant.0 (sym r.ensures ∙ c.loop-mask-test.true) ∙ l.invariant.1)

pub returns : goal.returns
returns c =
    let r = c.in_column_0 in
    let l = c.loop-mask in
    sym (column_stop l.n l.invariant.0 (sym r.ensures ∙ c.loop-mask-test.false)) ∙ l.invariant.1
