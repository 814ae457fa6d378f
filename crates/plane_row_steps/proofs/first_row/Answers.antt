-- Without a column each byte is the seed; else three columns are all that are set.
use native.Mathlib.Omega.{arith}
use lib.ListN.{length}
use Rattle.plane_row_steps.proofs.RowPasses.{stands, first_row, first_none}
use Rattle.plane_row_steps.proofs.Rooms.{reads_there}
use Rattle.plane_row_steps.proofs.first_row.Goals as goal

pub returns-in_default : goal.returns-in_default
returns-in_default c =
    let a = c.args in
    first_none a.erode a.s.now a.o a.mask c.in_default.ensures
    (rw c.seed.ensures at c.fill.ensures)

pub returns-in-Some : goal.returns-in-Some
returns-in-Some c =
    let a = c.args in
    let f = c.in-Some.ensures in
    let r = c.reads.result in
    let e = c.reads.ensures in
    first_row a.erode a.s.now a.o a.mask r.x r.y r.z (omega arith)
    (stands a.erode a.o a.mask 0 0 f.0 e.x.0) (stands a.erode a.o a.mask 0 1 f.0 e.y.0) (stands a.erode a.o a.mask 0 2 f.0 e.z.0)
    (c.level.ensures.done (reads_there (length a.d.now) (length a.s.now) 0 r.x r.y r.z (omega arith) (omega arith) (omega arith)))
