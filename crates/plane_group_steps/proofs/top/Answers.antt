-- Where the row does not fit nothing is written; else the value outside goes into all bits but the highest, and then the row into that.
use lib.ListN.{length}
use Rattle.ranges.proofs.Sizing.{was_done}
use Rattle.plane_group_steps.specs.Groups.{top_fits}
use Rattle.plane_group_steps.proofs.TopRow.{top_bits, top_fits_lem}
use Rattle.plane_group_steps.proofs.top.Goals as goal

pub returns : goal.returns
returns c =
    let a = c.args in
    was_done (top_fits (length a.d.now) (length a.s.now) a.outside) a.d.now
    (top_fits_lem (length a.d.now) (length a.s.now) a.outside c.if-s-d.false c.if-outside-gt1.false)
    (top_bits a.some a.outside a.s.now c.if-outside-gt1.false c.fill.ensures
    c.lay.ensures)
