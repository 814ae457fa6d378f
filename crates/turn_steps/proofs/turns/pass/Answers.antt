use native.Mathlib.Omega.{arith}
use Rattle.turn_steps.proofs.Alternating.{midway_start, midway_more, midway_end}
use Rattle.turn_steps.proofs.turns.pass.Goals as goal

pub loop-k-init : goal.loop-k-init
loop-k-init c = midway_start

pub loop-k-preserved : goal.loop-k-preserved
loop-k-preserved c = midway_more c.loop-k.invariant c.turn.ensures (omega arith) c.requires.3

pub returns : goal.returns
returns c = midway_end c.loop-k.invariant (omega arith) (omega arith)
