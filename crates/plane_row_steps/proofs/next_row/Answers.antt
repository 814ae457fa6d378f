-- Without a column nothing is joined; else three columns are all that are set.
use native.Mathlib.Omega.{arith}
use mathlib.Core.Path.{◌≡◌}
use Prim.Native.Nat.{◌*◌}
use lib.ListN.{length}
use Rattle.plane_pass_steps.specs.Passes.{mask_row_of}
use Rattle.plane_row_steps.proofs.RowPasses.{stands, next_row, next_none}
use Rattle.plane_row_steps.proofs.Rooms.{reads_there}
use Rattle.plane_row_steps.proofs.next_row.Goals as goal
use Rattle.plane_row_steps.proofs.next_row.Goals.{then-second, else-second}

pub returns-in_default : goal.returns-in_default
returns-in_default c =
    let a = c.args in
    let e : c.if-second.b ≡ 3 * mask_row_of a.second =
    elim c.if-second.branch [ then-second w ↦ rw w.if-second.true w.b-is | else-second w ↦ rw w.if-second.false w.b-is ] in
    next_none a.erode a.s.now a.o a.c a.mask (mask_row_of a.second) a.d.now (rw e at c.in_default.ensures)

pub returns-in-Some : goal.returns-in-Some
returns-in-Some c =
    let a = c.args in
    let b = c.if-second.b in
    let e : b ≡ 3 * mask_row_of a.second =
    elim c.if-second.branch [ then-second w ↦ rw w.if-second.true w.b-is | else-second w ↦ rw w.if-second.false w.b-is ] in
    let f = c.in-Some.ensures in
    let r = c.reads.result in
    let t = c.reads.ensures in
    next_row a.erode a.s.now a.o a.c a.mask (mask_row_of a.second) r.x r.y r.z
    (rw e at (rw f.0 at f.1))
    (rw e at (stands a.erode a.o a.mask b 0 f.0 t.x.0)) (rw e at (stands a.erode a.o a.mask b 1 f.0 t.y.0))
    (rw e at (stands a.erode a.o a.mask b 2 f.0 t.z.0))
    (c.join.ensures.done (reads_there (length a.d.now) (length a.s.now) a.c r.x r.y r.z (omega arith) (omega arith) (omega arith)))
