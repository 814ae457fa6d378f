use mathlib.Core.Path.{refl, ◌∙◌}
use lib.ListN.{get_or, length-set}
use Rattle.edges.specs.Edges.{plus_x, plus_y, minus_x, minus_y}
use Rattle.edges.specs.Numbers.{Supported}
use Rattle.edges.proofs.Directions.{small}
use Rattle.edges.proofs.Storing.{stored}
use Rattle.edges.proofs.Greatest.{greater_is, raised_one}
use native.Mathlib.Omega.{arith}
use Rattle.edge_steps.proofs.raised.Goals as goal

pub loop-i-init : goal.loop-i-init
loop-i-init c = (refl, λ k l. absurd (omega arith))

pub value-v-requires : goal.value-v-requires
unfolding plus_x plus_y minus_x minus_y
value-v-requires c =
    let d = small c.loop-i.i (omega arith) in
    (d.a, (d.b, (d.c, (d.d, (omega arith, (omega arith, omega arith))))))

pub loop-i-preserved : goal.loop-i-preserved
unfolding plus_x plus_y minus_x minus_y
loop-i-preserved c =
    let h = c.loop-i in
    let a = c.args in
    let v = c.value-v in
    let g = c.max in (
      length-set h.r h.i g.result ∙ h.invariant.0,
      stored (λ k q. Supported k a.first a.last a.y (get_or a.s k 0) q) h.r h.i g.result (omega (arith, h.invariant.0)) h.invariant.1
          (raised_one h.i _ _ _ _ v.result _ v.ensures (greater_is _ _ _ g.ensures)),
    )

pub returns : goal.returns
returns c = λ k l. c.loop-i.invariant.1 k (omega arith)
