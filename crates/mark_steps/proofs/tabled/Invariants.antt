-- The invariant: the numbers of the marked masks below m stand in the table.
use Rattle.search.specs.Asking.{Tabled}
use Rattle.mark_steps.proofs.tabled.Given as goal

abbrev pub invariant-loop-m : goal.invariant-loop-m
invariant-loop-m l = Tabled l.marks l.m l.table
