-- The rows passed are laid.
use Prim.Native.Nat.{◌+◌}
use Rattle.ranges.specs.Ranges.{Laid}
use Rattle.cuts.specs.Cuts.{seen}
use Rattle.planes.specs.Planes.{plane_cells}
use Rattle.plane_unpack_steps.proofs.lines.down.Given as goal

abbrev pub invariant-loop-y : goal.invariant-loop-y
invariant-loop-y l =
    let v = l.plane in
    Laid (λ i j. seen v.outside v.columns v.rows (plane_cells l.o v.columns v.rows l.src) (i + l.part.a) (j + l.part.b)) l.part.w l.y l.initial.dst l.dst
