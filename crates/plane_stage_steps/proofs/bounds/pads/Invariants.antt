-- The rows passed have their pads.
use Rattle.plane_stage_steps.specs.Bounds.{Padded}
use Rattle.plane_stage_steps.proofs.bounds.pads.Given as goal

abbrev pub invariant-loop-r : goal.invariant-loop-r
invariant-loop-r l = Padded l.s l.r l.outside l.initial.d l.d
