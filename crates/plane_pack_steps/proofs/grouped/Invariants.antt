-- The rows below y are packed, the others have the value outside; the measure is what is left of the frame's rows.
use Prim.Native.Nat.{◌-◌}
use Rattle.plane_pack_steps.proofs.PackRows.{Filling}
use Rattle.plane_pack_steps.proofs.grouped.Given as goal

abbrev pub invariant-loop-y : goal.invariant-loop-y
invariant-loop-y l =
    let a = l.frame in
    let b = l.fn.plane in
    Filling a.some b.outside a.far a.w a.h b.columns b.rows l.f l.initial.dst l.dst l.p l.q l.y

abbrev pub decreases-loop-y : goal.decreases-loop-y
decreases-loop-y l = l.frame.h - l.y
