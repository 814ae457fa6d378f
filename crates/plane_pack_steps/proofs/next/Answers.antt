-- A part of the bytes, into which a part of the cells is put.
use native.Mathlib.Omega.{arith}
use mathlib.Core.Path.{ap}
use Prim.Native.Nat.{ℕ, ◌*◌}
use Rattle.plane_pack_steps.proofs.GroupParts.{group_put}
use Rattle.plane_pack_steps.proofs.next.Goals as goal

pub returns : goal.returns
returns c =
    let a = c.args in
    let r = c.min-r in
    group_put a.some a.w a.a a.p a.q a.outside a.f.now a.dst.now r.result (omega arith) r.ensures (omega arith)
    (omega (arith, ap (λ (i : ℕ). i * a.w) r.ensures)) c.group.ensures
