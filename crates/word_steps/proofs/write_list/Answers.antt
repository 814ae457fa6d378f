use Prim.Native.Nat.{◌+◌}
use native.Mathlib.Omega.{arith}
use Rattle.lists.proofs.Written.{Writing, writing_row, writing_skip, writing_done}
use Rattle.word_steps.proofs.write_list.Goals as goal
use Rattle.word_steps.proofs.write_list.Goals.{then-columns-gt0, else-columns-gt0}

pub loop-y-preserved : goal.loop-y-preserved
loop-y-preserved c =
    let p = c.loop-y.invariant.1 in
    let room = c.loop-y.invariant.0 in
    let size = p.size in
    let next : Writing c.args.ax c.args.ay c.args.rows _ (c.loop-y.y + 1) c.if-columns-gt0.n c.if-columns-gt0.out = elim c.if-columns-gt0.branch [
      | then-columns-gt0 w ↦ writing_row _ _ _ _ _ _ c.if-columns-gt0.n _ c.if-columns-gt0.out p (omega arith) (omega arith) (omega arith) w.out-is w.n-is
      | else-columns-gt0 w ↦ writing_skip _ _ _ _ _ _ c.if-columns-gt0.n _ c.if-columns-gt0.out p (omega arith) w.out-is w.n-is
    ] in
    (omega (arith, next.size), next)

pub returns : goal.returns
returns c =
    let args = c.args in
    writing_done args.ax args.ay args.rows args.out.now _ _ _ (omega arith) (omega arith) c.loop-y.invariant.1
