-- Each byte passed is joined with the pick of three; those to come are as they were.
use Rattle.planes.specs.Bytes.{Bitted}
use Rattle.plane_pass_steps.specs.Passes.{joined_bit}
use Rattle.plane_pass_steps.proofs.passes.join.Given as goal

abbrev pub invariant-loop-k : goal.invariant-loop-k
invariant-loop-k l = Bitted 0 l.k (joined_bit l.erode l.initial.d l.s l.c l.x l.y l.z l.t) l.initial.d l.d
