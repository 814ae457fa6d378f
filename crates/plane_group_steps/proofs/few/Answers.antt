use native.Mathlib.Omega.{arith}
use mathlib.Core.Path.{◌≡◌}
use Rattle.plane_group_steps.proofs.Grouping.{few_more, few_all}
use Rattle.plane_group_steps.proofs.few.Goals as goal

pub loop-j-preserved : goal.loop-j-preserved
loop-j-preserved c =
    let a = c.args in
    let l = c.loop-j in
    few_more a.some a.s.now a.w a.r a.outside l.j (omega arith) (omega arith) (omega arith)
    (omega (arith, c.fill.ensures.len)) l.invariant
    c.lay.ensures

pub returns : goal.returns
returns c =
    let a = c.args in
    let e : c.loop-j.j ≡ a.r = omega arith in
    few_all a.some a.s.now a.w a.r a.outside c.fill.ensures (rw e at c.loop-j.invariant)
