-- The invariant: the bytes before this one have been taken in turn.
use lib.ListN.{take}
use Rattle.text.specs.Reader.{Further}
use Rattle.line_steps.proofs.read_some.Given as goal

abbrev pub invariant-loop-b : goal.invariant-loop-b
invariant-loop-b l = Further l.initial.r (take l.b-index l.bytes) l.r
