-- The two halves are all bytes.
use Prim.Native.Nat.{◌+◌, ◌-◌, ◌*◌, ◌/◌}
use lib.ListN.{length}
use Rattle.plane_eight_steps.proofs.Halves.{half_of, halves_made}
use Rattle.plane_eight_steps.proofs.columns.halves.Goals as goal

pub returns-else-n-lt32 : goal.returns-else-n-lt32
returns-else-n-lt32 c =
    let a = c.args in
    let n = length a.d.now in
    let g = half_of n c.if-n-lt32.false in
    halves_made a.some a.w ((n - n / 2 + 15) / 16 * 16) a.s.now a.d.now g.0 g.1 c.requires
    c.eights-else-n-lt32.ensures c.eights-else-n-lt32-2.ensures
