-- Bit by bit.
use native.Mathlib.Omega.{arith}
use Rattle.plane_group_steps.proofs.PackBits.{laid_bit_lem}
use Rattle.plane_group_steps.proofs.laid.Goals as goal

pub returns : goal.returns
returns c = λ q l.
    let a = c.args in
    let b = c.level_bit in
    laid_bit_lem a.some a.a a.c b.result a.j q b.ensures.0 b.ensures.1 (omega arith) l
