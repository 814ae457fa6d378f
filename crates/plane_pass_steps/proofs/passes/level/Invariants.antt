-- Each byte passed is the pick of three.
use Rattle.planes.specs.Bytes.{Bitted}
use Rattle.plane_pass_steps.specs.Passes.{level_bit}
use Rattle.plane_pass_steps.proofs.passes.level.Given as goal

abbrev pub invariant-loop-k : goal.invariant-loop-k
invariant-loop-k l = Bitted 0 l.k (level_bit l.erode l.s l.x l.y l.z) l.initial.d l.d
