-- Each bit comes from the one byte or from the other.
use Rattle.plane_pass_steps.proofs.ByteBits.{raised_bit}
use native.Mathlib.Omega.{arith}
use Rattle.plane_pass_steps.proofs.bytes.raised.Goals as goal

pub returns : goal.returns
returns c q l = let a = c.args in raised_bit a.a a.b a.t q (omega arith) (omega arith) l (omega arith)
