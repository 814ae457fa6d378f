-- One after the other; where the last row is whole, no bit of it is trimmed.
use native.Mathlib.Omega.{arith}
use mathlib.Core.Path.{◌≡◌}
use Prim.Native.Nat.{◌+◌, ◌*◌}
use Rattle.plane_stage_steps.proofs.Bounding.{bounds_made, trimmed_part, trimmed_none}
use Rattle.plane_stage_steps.proofs.bounds.bound.Goals as goal

pub returns-then-r-lt8 : goal.returns-then-r-lt8
returns-then-r-lt8 c =
    let a = c.args in
    bounds_made a.s a.n a.r a.outside c.requires.0 c.requires.1 c.requires.4
    c.fill.ensures
    c.fill-2.ensures
    c.pads.ensures
    (λ h g. trimmed_part a.r a.outside h g c.trim.ensures)

pub returns-else-r-lt8 : goal.returns-else-r-lt8
returns-else-r-lt8 c =
    let a = c.args in
    let e : a.r ≡ 8 = omega arith in
    rw e
    (bounds_made a.s a.n 8 a.outside c.requires.0 c.requires.1 c.requires.4
    c.fill.ensures
    c.fill-2.ensures c.pads.ensures
    (λ h g. trimmed_none a.outside (a.n * a.s + 2) (a.n * a.s + a.s) _))
