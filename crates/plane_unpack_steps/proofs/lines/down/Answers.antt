use mathlib.Core.Path.{◌≡◌, refl}
use Prim.Native.Nat.{◌+◌, ◌*◌}
use native.Mathlib.Nat.{mul_comm}
use Rattle.ranges.proofs.FlatRows.{rows_apart}
use Rattle.ranges.proofs.Ranges.{ranged_part}
use Rattle.cuts.proofs.CutRows.{laid_more, cut_is}
use Rattle.planes.specs.Planes.{plane_cells}
use native.Mathlib.Omega.{arith}
use Rattle.plane_unpack_steps.proofs.lines.down.Goals as goal

pub loop-y-preserved : goal.loop-y-preserved
loop-y-preserved c =
    let p = c.args.part in
    let l = c.loop-y in
    let z = rows_apart p.w l.y p.h (omega arith) in
    let r = ranged_part {a = l.y * p.w} {e = l.y * p.w + p.w} {xs = l.dst} (omega arith) (omega (arith, mul_comm p.w p.h, l.invariant.len))
    c.across.ensures in
    laid_more refl l.invariant r

pub returns : goal.returns
returns c =
    let a = c.args in
    let p = a.part in
    let v = a.plane in
    let e : c.loop-y.y ≡ p.h = omega arith in
    cut_is v.outside p.w p.h v.columns v.rows p.a p.b (plane_cells a.o v.columns v.rows a.src.now) (omega arith)
    (rw e at c.loop-y.invariant)
