-- An and of bytes is the lesser of their bits, an or the greater.
use Rattle.plane_pass_steps.proofs.ByteBits.{both_bit}
use Rattle.plane_pass_steps.proofs.bytes.both.Goals as goal

pub returns-then-erode : goal.returns-then-erode
returns-then-erode c q = let a = c.args in rw c.if-erode.true (both_bit a.a a.b q).0

pub returns-else-erode : goal.returns-else-erode
returns-else-erode c q = let a = c.args in rw c.if-erode.false (both_bit a.a a.b q).1
