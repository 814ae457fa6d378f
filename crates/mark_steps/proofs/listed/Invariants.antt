-- The invariant: the marked masks below m are the first n of the list.
use Rattle.search.specs.Asking.{Drawn}
use Rattle.mark_steps.proofs.listed.Given as goal

abbrev pub invariant-loop-m : goal.invariant-loop-m
invariant-loop-m l = Drawn l.marks l.m l.list l.n
