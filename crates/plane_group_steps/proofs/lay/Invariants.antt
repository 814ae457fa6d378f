-- Each byte passed has its cell; those to come are as they were.
use lib.ListN.{get_or}
use Rattle.planes.specs.Bytes.{Bitted}
use Rattle.plane_group_steps.specs.Groups.{laid_bit}
use Rattle.plane_group_steps.proofs.lay.Given as goal

abbrev pub invariant-loop-k : goal.invariant-loop-k
invariant-loop-k l = Bitted 0 l.k (λ i q. laid_bit l.some (get_or l.initial.d i 0) (get_or l.s i 0) l.j q) l.initial.d l.d
