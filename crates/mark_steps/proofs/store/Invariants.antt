-- The invariant: the first j numbers stand in their places.
use Rattle.search.specs.Asking.{Stored}
use Rattle.mark_steps.proofs.store.Given as goal

abbrev pub invariant-loop-j : goal.invariant-loop-j
invariant-loop-j l = Stored l.initial.table l.m l.numbers l.j l.table
