-- The levels are taken through the stages, and the rows are cut from the planes that stand then.
use borrow.Author.Tests.{eq-eqb, ne_eqb}
use mathlib.Core.Path.{ap}
use mathlib.Core.Bool.{cond}
use Prim.Native.Nat.{◌%◌}
use Rattle.end_steps.proofs.EndPlanes.{end_fits, end_rows}
use Rattle.end_steps.proofs.parts.by_planes.Goals as goal

pub returns-then-n-eq0 : goal.returns-then-n-eq0
returns-then-n-eq0 c =
    let q = c.levels-n.ensures in
    let i = c.levels-n.new.first in
    let j = c.levels-n.new.second in
    end_rows c.requires.0 c.requires.1 q i (ap (λ b. cond b i j) (eq-eqb (c.levels-n.result % 2) 0 c.if-n-eq0.true))
    (c.unpack.ensures.done (end_fits c.requires.0 c.requires.1 q).0)

pub returns-else-n-eq0 : goal.returns-else-n-eq0
returns-else-n-eq0 c =
    let q = c.levels-n.ensures in
    let i = c.levels-n.new.first in
    let j = c.levels-n.new.second in
    end_rows c.requires.0 c.requires.1 q j (ap (λ b. cond b i j) (ne_eqb (c.levels-n.result % 2) 0 c.if-n-eq0.false))
    (c.unpack-else-n-eq0.ensures.done (end_fits c.requires.0 c.requires.1 q).1)
