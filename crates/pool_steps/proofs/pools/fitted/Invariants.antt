-- The invariant: of the masks so far those that fit are the first n of the list.
use Rattle.completions.proofs.Drawing.{FittedTo}
use Rattle.pool_steps.proofs.pools.fitted.Given as goal

abbrev pub invariant-loop-m : goal.invariant-loop-m
invariant-loop-m l = FittedTo l.nums l.need l.cand l.list l.n l.m-index
