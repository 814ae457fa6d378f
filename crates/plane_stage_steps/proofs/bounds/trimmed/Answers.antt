-- Each bit is kept by the one mask or by the other.
use Rattle.plane_stage_steps.proofs.TrimBits.{trimmed_bit_lem}
use native.Mathlib.Omega.{arith}
use Rattle.plane_stage_steps.proofs.bounds.trimmed.Goals as goal

pub returns : goal.returns
returns c q l = let a = c.args in trimmed_bit_lem a.a a.r a.outside q (omega arith) (omega arith) l
