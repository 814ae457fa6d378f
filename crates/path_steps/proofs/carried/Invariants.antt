-- The invariant: z is the sum of a and the first j of the path, cut to the window.
use Rattle.rows.specs.Cells.{At}
use Rattle.completions.proofs.Covering.{Carried}
use Rattle.path_steps.proofs.carried.Given as goal

abbrev pub invariant-loop-j : goal.invariant-loop-j
invariant-loop-j l = Carried (At l.initial.z) l.path l.z l.j
