use mathlib.Core.Path.{◌≡◌, sym, subst, ◌∙◌}
use mathlib.Core.Bool.{true, false≢true}
use native.Mathlib.Omega.{arith}
use lib.ListN.{length-take, take}
use Prim.Native.Nat.{ℕ, ◌+◌, ◌-◌}
use Rattle.std.specs.Prelude.{Option, Some, None, is_some, IfSome}
use Rattle.completions.proofs.Nodes.{Turned, turned_more, too_wide, too_high, node_none, stage_replaced, stage_passed, stage_none}
use Rattle.completion_steps.proofs.+node_stage.Goals.{node-then-k-w-via-then-k-w, node-then-k-w-via-else-k-w+then-k-h}
use Rattle.completion_steps.proofs.+node_stage.Goals as goal

pub node-returns-then-k-w : goal.node-returns-then-k-w
node-returns-then-k-w t c = λ e. elim c.then-k-w.branch [
  | node-then-k-w-via-then-k-w w ↦ too_wide _ _ _ _ w.if-k-w.true
  | node-then-k-w-via-else-k-w+then-k-h w ↦ too_high _ _ _ _ w.if-k-h.true
]

pub node-loop-j-preserved : goal.node-loop-j-preserved
node-loop-j-preserved t c =
    let a = c.args in
    let b = c.in-Some.b in
    let j = c.loop-j.j in
    let xs = take b.count c.divided.new.list in
    let d = c.in-Some.ensures.1 (omega arith) in
    let long = d.long in
    let few = d.few in
    let room = d.room in
    let up : j ≡ j - 1 + 1 = omega arith in
    turned_more a.nums.now a.here a.cand.now a.k xs (j - 1) (omega (arith, length-take b.count c.divided.new.list))
    (subst (λ (r : ℕ). Turned a.nums.now a.here a.cand.now a.k xs r) up c.loop-j.invariant) (c.stage.ensures c.if-stage.false)

pub node-returns : goal.node-returns
node-returns t c = λ e.
    let d = c.in-Some.ensures in
    node_none _ _ _ _ c.divided.new.list c.in-Some.b (d.1 (omega arith)) c.loop-j.j d.0 (omega arith) c.loop-j.invariant

-- what is there, and what is said of it
found : (o : Option ℕ) (P : ℕ → Type 0) → is_some o ≡ true → IfSome o P → (p : ℕ) × P p
found None P e f = absurd (false≢true e)
found (Some p) P e f = (p, f)

pub stage-returns-then-is_some : goal.stage-returns-then-is_some
stage-returns-then-is_some t c = λ e.
    let f = found c.replaced.result _ (sym c.is_some.ensures ∙ c.if-is_some.true) c.replaced.ensures in
    stage_replaced _ _ _ _ _ c.requires.1.1.0 f.0 f.1.0 f.1.1.0 f.1.1.1

pub stage-returns-in_default : goal.stage-returns-in_default
stage-returns-in_default t c = λ e. stage_passed _ _ _ _ _ c.requires.1.1.0 c.in_default.ensures (omega (arith, c.requires))

pub stage-returns : goal.stage-returns
stage-returns t c = λ e. stage_none _ _ _ _ _ c.requires.1.1.0 c.in-Some.below c.in-Some.ensures.1 c.requires.0 (c.node.ensures e)
