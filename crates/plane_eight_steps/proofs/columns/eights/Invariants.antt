-- Each byte passed has eight cells of its column.
use Rattle.planes.specs.Bytes.{Bitted}
use Rattle.plane_eight_steps.specs.Eights.{eight_bit}
use Rattle.plane_eight_steps.proofs.columns.eights.Given as goal

abbrev pub invariant-loop-k : goal.invariant-loop-k
invariant-loop-k l = Bitted 0 l.k (eight_bit l.some l.s l.w) l.initial.d l.d
