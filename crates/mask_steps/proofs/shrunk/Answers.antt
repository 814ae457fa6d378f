use Rattle.std.proofs.Common.{◌≡◌, arith}
use Rattle.rows.proofs.Strips.{shrunk_made}
use Rattle.mask_steps.proofs.shrunk.Goals as goal

pub returns : goal.returns
returns c = let e : c.loop-y.y ≡ 16 = omega arith in shrunk_made c.args.t c.trailed-u.result c.args.m c.trailed-u.ensures _ (rw e at c.loop-y.invariant.1)
