use native.Mathlib.Omega.{arith}
use mathlib.Core.Path.{subst}
use lib.Dec.{T}
use Rattle.rows.proofs.Sums.{zero_at}
use Rattle.search.specs.Tree.{tries}
use Rattle.search.proofs.Answers.{leaf_found, leaf_none, passed_more, passed_found, below_closed, below_found}
use Rattle.search_steps.proofs.+node_stage.Goals.{node-then-marks-i+in_default, node-else-marks-i}
use Rattle.search_steps.proofs.+node_stage.Goals as goal

pub node-returns-then-finished : goal.node-returns-then-finished
node-returns-then-finished t c =
    let left = c.requires.1.state.state.left in
    leaf_found _ _ _ c.args.k c.args.m _ c.if-k-eq0.true (c.finished.ensures.whole c.if-finished.true left) (zero_at 32)

pub node-returns-then-k-eq0 : goal.node-returns-then-k-eq0
node-returns-then-k-eq0 t c =
    let kept = c.requires.1 in
    let room = kept.room in
    leaf_none _ _ _ c.args.k c.args.m c.if-k-eq0.true (c.finished.ensures.part c.if-finished.false (omega arith) kept.state.state.left)

pub node-returns-in-Some : goal.node-returns-in-Some
node-returns-in-Some t c = passed_found _ _ _ c.args.k c.args.m (omega arith) c.loop-i.i _ c.loop-i.invariant c.in-Some.ensures

pub node-loop-i-preserved : goal.node-loop-i-preserved
node-loop-i-preserved t c =
    let a = c.args in
    let l = c.loop-i in
    passed_more (tries a.marks.now) _ _ a.k a.m (omega arith) l.i l.invariant
    (elim c.if-marks-i.branch [
      | node-then-marks-i+in_default w ↦ λ _. w.in_default.ensures
      | node-else-marks-i w ↦ λ e. absurd (subst T w.if-marks-i.false e)
    ])

pub stage-returns-in_err-masks : goal.stage-returns-in_err-masks
stage-returns-in_err-masks t c =
    let a = c.args in
    rw c.from_residual-in_err-masks.ensures (below_closed (tries a.marks.now) a.nums.now a.cand.now a.here a.k a.m c.in_ok-below.below
    c.in_ok-below.ensures c.requires.0 c.requires.1.0 c.in_err-masks.ensures)

pub stage-returns : goal.stage-returns
stage-returns t c =
    let a = c.args in
    let room = c.requires.1.1.room in
    below_found (tries a.marks.now) a.nums.now a.cand.now a.here a.k a.m c.in_ok-below.below c.in_ok-below.ensures
    c.requires.0 c.requires.1.0 c.in_ok-masks.masks c.in_ok-masks.ensures (omega arith)
