use native.Mathlib.Omega.{arith}
use Rattle.lists.proofs.Joined.{read_none, read_more, read_end}
use Rattle.list_steps.proofs.read_rows.Goals as goal

pub loop-i-init : goal.loop-i-init
loop-i-init c = read_none _

pub loop-i-preserved : goal.loop-i-preserved
loop-i-preserved c = read_more c.args.ws.now c.loop-i.i c.loop-i.r c.with_word.new.z (omega arith) c.loop-i.invariant c.with_word.ensures

pub returns : goal.returns
returns c = read_end c.args.ws.now c.loop-i.i c.loop-i.r (omega arith) c.loop-i.invariant
