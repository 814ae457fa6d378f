-- The invariant: the bytes before this one have been taken in turn.
use lib.ListN.{take}
use Rattle.text.specs.Page.{Added}
use Rattle.page_steps.proofs.with_bytes.Given as goal

abbrev pub invariant-loop-b : goal.invariant-loop-b
invariant-loop-b l = Added l.initial.r (take l.b-index l.more) l.r
