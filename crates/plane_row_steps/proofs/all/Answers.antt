-- Row after row of the mask, by the kind of the stage.
use Rattle.plane_row_steps.proofs.Readings.{rowed_back, rowed_ahead}
use Rattle.plane_row_steps.proofs.all.Goals as goal

pub returns-then-stage : goal.returns-then-stage
returns-then-stage c =
    let a = c.args in
    rw c.if-stage.true
    (rowed_ahead a.s a.stage.mask a.src.now c.first_row.ensures
    c.next_row.ensures c.next_row-then-stage.ensures)

pub returns-else-stage : goal.returns-else-stage
returns-else-stage c =
    let a = c.args in
    rw c.if-stage.false
    (rowed_back a.s a.stage.mask a.src.now c.first_row-else-stage.ensures
    c.next_row-else-stage.ensures c.next_row-else-stage-2.ensures)
