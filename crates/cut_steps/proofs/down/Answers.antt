-- The rows as far as the source goes, and below it the value outside.
use native.Mathlib.Omega.{arith}
use mathlib.Core.Path.{refl}
use Prim.Native.Nat.{◌+◌, ◌*◌}
use native.Mathlib.Nat.{mul_comm, mul-le-mul_right}
use Rattle.ranges.proofs.Ranges.{ranged_part}
use Rattle.cuts.proofs.CutRows.{edge_after, seen_under, laid_rest, cut_is}
use Rattle.cut_steps.proofs.down.Goals as goal

pub returns : goal.returns
returns c =
    let p = c.args.part in
    let s = c.args.source in
    let src = c.args.src.now in
    let n = c.edge-n in
    let u = c.upper.ensures in
    let l = n.ensures.all in
    let e = mul-le-mul_right {m = n.result} {n = p.h} p.w l in
    let r = ranged_part {a = n.result * p.w} {e = p.h * p.w} e (omega (arith, mul_comm p.w p.h, u.len)) c.fill.ensures in
    cut_is s.outside p.w p.h s.columns s.rows p.a p.b src (omega arith)
    (laid_rest l refl refl u r
    (λ x y lo hi. let k = edge_after n.ensures y lo hi in
    seen_under s.outside s.columns s.rows src (x + p.a) (y + p.b) (omega arith) (omega arith)))
