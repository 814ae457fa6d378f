-- The rows below j are put in.
use lib.ListN.{length}
use Rattle.planes.specs.Bytes.{Bitted}
use Rattle.plane_group_steps.proofs.Grouping.{few_bit}
use Rattle.plane_group_steps.proofs.few.Given as goal

abbrev pub invariant-loop-j : goal.invariant-loop-j
invariant-loop-j l = Bitted 0 (length l.initial.d) (few_bit l.some l.s l.w l.r l.outside l.j) l.initial.d l.d
