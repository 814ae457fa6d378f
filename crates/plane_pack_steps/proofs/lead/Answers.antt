-- A part of the bytes, into which the first row is put.
use Rattle.plane_pack_steps.proofs.GroupParts.{lead_put}
use Rattle.plane_pack_steps.proofs.lead.Goals as goal

pub returns : goal.returns
returns c =
    let a = c.args in
    lead_put a.some a.w a.p a.outside a.f.now a.dst.now c.requires.0 c.requires.1 c.requires.2 c.top.ensures
