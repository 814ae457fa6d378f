use native.Mathlib.Omega.{arith}
use mathlib.Core.Path.{refl}
use Prim.Native.Nat.{◌+◌, ◌*◌}
use native.Mathlib.Nat.{mul_comm}
use Rattle.ranges.proofs.Ranges.{ranged_part}
use Rattle.ranges.proofs.FlatRows.{rows_apart}
use Rattle.cuts.proofs.CutRows.{laid_more}
use Rattle.cut_steps.proofs.upper.Goals as goal

pub loop-y-preserved : goal.loop-y-preserved
loop-y-preserved c =
    let p = c.args.part in
    let l = c.loop-y in
    let room = rows_apart p.w l.y p.h (omega arith) in
    let r = ranged_part {a = l.y * p.w} {e = l.y * p.w + p.w} {xs = l.dst} (omega arith) (omega (arith, room, mul_comm p.w p.h, l.invariant.len))
    c.across.ensures in
    laid_more refl l.invariant r
