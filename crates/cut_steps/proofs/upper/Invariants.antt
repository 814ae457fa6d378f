-- The rows passed are cut.
use Prim.Native.Nat.{◌+◌}
use Rattle.ranges.specs.Ranges.{Laid}
use Rattle.cuts.specs.Cuts.{seen}
use Rattle.cut_steps.proofs.upper.Given as goal

abbrev pub invariant-loop-y : goal.invariant-loop-y
invariant-loop-y l =
    let s = l.source in
    Laid (λ x z. seen s.outside s.columns s.rows l.src (x + l.part.a) (z + l.part.b)) l.part.w l.y l.initial.dst l.dst
