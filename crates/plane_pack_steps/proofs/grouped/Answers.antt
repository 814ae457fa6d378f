use Rattle.plane_pack_steps.proofs.PackRows.{group_fits_lem, filling_more, filling_all}
use native.Mathlib.Omega.{arith}
use Rattle.plane_pack_steps.proofs.grouped.Goals as goal

pub next-requires : goal.next-requires
next-requires c =
    let k = c.requires.0 in
    let g = group_fits_lem k c.loop-y.y (omega arith) in
    (omega (arith, k.wide, k.columns), omega arith, omega arith)

pub loop-y-preserved : goal.loop-y-preserved
loop-y-preserved c =
    let l = c.loop-y in
    filling_more c.args.frame.some
    c.requires.0 {p = l.p} {q = l.q} {y = l.y} l.invariant
    c.loop-y-test.true c.next.ensures

pub returns : goal.returns
returns c =
    let l = c.loop-y in
    filling_all c.args.frame.some c.requires.0 {p = l.p} {q = l.q} {y = l.y}
    l.invariant c.loop-y-test.false
