use Rattle.plane_eight_steps.proofs.EightBits.{eight_bits}
use Rattle.planes.proofs.Bitting.{bitted_more}
use native.Mathlib.Omega.{arith}
use Rattle.plane_eight_steps.proofs.columns.eights.Goals as goal

pub loop-k-preserved : goal.loop-k-preserved
loop-k-preserved c =
    let l = c.loop-k in
    let a = c.args in
    bitted_more c.eight.result l.invariant (omega arith)
    (λ q lq. eight_bits a.some a.s.now a.w l.k c.eight.result q lq c.eight.ensures)
