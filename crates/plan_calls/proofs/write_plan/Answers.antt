use mathlib.Core.Path.{◌≡◌, refl, ◌∙◌}
use native.Mathlib.Omega.{arith}
use Prim.Native.Nat.{◌-◌, ◌+◌}
use lib.ListN.{length-set, get_or}
use Rattle.plan_calls.proofs.Words.{stage_more, all_written}
use Rattle.plan_calls.proofs.write_plan.Goals as goal

pub loop-i-preserved : goal.loop-i-preserved
loop-i-preserved c =
    let l = c.loop-i in
    let v = 1342177280 + get_or c.args.p.masks (c.args.p.n - 1 - l.i) 0 in
    let e = l.invariant.2.0 in (
      l.invariant.0,
      l.invariant.1,
      (
        length-set l.out (l.i + 2) v ∙ e,
        stage_more c.args.x c.args.y c.args.p.masks c.args.p.n _ l.out l.i v (omega arith) (omega arith) refl l.invariant.2.1,
      ),
    )

pub returns : goal.returns
returns c =
    let l = c.loop-i in
    let e : l.i ≡ c.args.p.n = omega arith in
    all_written c.args.x c.args.y c.args.p.masks c.args.p.n c.args.out.now l.out _ _ l.i _ e refl l.invariant.2.1
