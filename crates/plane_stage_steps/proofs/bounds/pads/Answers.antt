use mathlib.Core.Path.{refl}
use Prim.Native.Nat.{◌+◌, ◌*◌}
use native.Mathlib.Nat.{add-mul}
use Rattle.ranges.proofs.FlatRows.{rows_apart}
use Rattle.plane_stage_steps.proofs.Padding.{padded_more}
use native.Mathlib.Omega.{arith}
use Rattle.plane_stage_steps.proofs.bounds.pads.Goals as goal

pub loop-r-preserved : goal.loop-r-preserved
loop-r-preserved c =
    let l = c.loop-r in
    let a = c.args in
    let b = rows_apart a.s l.r a.n (omega arith) in
    padded_more ((l.r + 1) * a.s) refl (omega arith) l.invariant (omega (arith, add-mul l.r 1 a.s))
