use mathlib.Core.Path.{ap, ◌∙◌}
use Prim.Native.Nat.{ℕ, ◌+◌}
use lib.ListN.{get_or}
use Rattle.rows.specs.Cells.{bit}
use Rattle.planes.specs.Bits.{bit_pick}
use Rattle.plane_pass_steps.proofs.ByteBits.{spanned_three}
use Rattle.planes.proofs.Bitting.{bitted_more}
use native.Mathlib.Omega.{arith}
use Rattle.plane_pass_steps.proofs.passes.join.Goals as goal

pub loop-k-preserved : goal.loop-k-preserved
loop-k-preserved c =
    let low = c.three-low in
    let high = c.three-high in
    let l = c.loop-k in
    let a = c.args in
    let r = a.read in
    let s = a.s.now in
    bitted_more c.both.result l.invariant (omega arith)
    (λ q lq. c.both.ensures q
    ∙ ap (λ (n : ℕ). bit_pick a.erode (bit n q) (bit c.raised.result q)) (l.invariant.above l.k (omega arith))
    ∙ ap (λ (n : ℕ). bit_pick a.erode (bit (get_or a.d.now l.k 0) q) n)
    (c.raised.ensures q lq
    ∙ spanned_three a.erode high.result low.result (get_or s (l.k + r.x + a.c) 0) (get_or s (l.k + r.y + a.c) 0)
    (get_or s (l.k + r.z + a.c) 0) (get_or s (l.k + r.x) 0) (get_or s (l.k + r.y) 0) (get_or s (l.k + r.z) 0) a.t q high.ensures
    low.ensures))
