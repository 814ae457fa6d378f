-- Each byte passed is trimmed; those to come are as they were.
use Rattle.planes.specs.Bytes.{Bitted}
use Rattle.plane_stage_steps.specs.Bounds.{trimmed_bit}
use Rattle.plane_stage_steps.proofs.bounds.trim.Given as goal

abbrev pub invariant-loop-a : goal.invariant-loop-a
invariant-loop-a l = Bitted 0 l.a-index (trimmed_bit l.r l.outside l.initial.d) l.initial.d l.d
