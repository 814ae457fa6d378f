use Rattle.std.proofs.Common.{◌≡◌, arith}
use Rattle.rows.proofs.Strips.{grown_made}
use Rattle.mask_steps.proofs.grown.Goals as goal

pub returns : goal.returns
returns c = let e : c.loop-y.y ≡ 16 = omega arith in grown_made c.args.a c.led-u.result c.args.m c.led-u.ensures _ (rw e at c.loop-y.invariant.1)
