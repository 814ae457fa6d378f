-- What is left of the byte is the mask or nothing.
use mathlib.Core.Path.{sym}
use Rattle.plane_unpack_steps.proofs.Masks.{held_not, held_so}
use native.Mathlib.Omega.{arith}
use Rattle.plane_unpack_steps.proofs.lines.held.Goals as goal

pub returns-then-c-m : goal.returns-then-c-m
returns-then-c-m c =
    (sym (held_so c.args.c c.args.j c.requires c.if-c-m.true), omega arith)

pub returns-else-c-m : goal.returns-else-c-m
returns-else-c-m c =
    (sym (held_not c.args.c c.args.j c.requires c.if-c-m.false), omega arith)
