-- The value outside everywhere, then a first row that ends a row of bytes, and then the groups.
use native.Mathlib.Omega.{arith}
use Prim.Native.Nat.{zero-le}
use Rattle.ranges.proofs.Ranges.{ranged_part}
use Rattle.plane_pack_steps.proofs.PackRows.{filled_by}
use Rattle.plane_pack_steps.proofs.LeadRow.{none_packed, begun_near, begun_far}
use Rattle.plane_pack_steps.proofs.fill.Goals as goal
use Rattle.plane_pack_steps.proofs.fill.Goals.{then-frame, else-frame}

pub returns-then-frame-eq0 : goal.returns-then-frame-eq0
returns-then-frame-eq0 c =
    let v = c.args.plane in
    let r = filled_by v.outside v.columns v.rows (c.size-n.ensures.of_a_plane c.requires.columns c.requires.rows) (ranged_part {a = 0} {e = c.size-n.result} zero-le (omega arith) c.fill.ensures) in
    none_packed c.args.frame.some c.requires r (omega arith)

pub grouped-requires : goal.grouped-requires
grouped-requires c =
    let a = c.args.frame in
    let v = c.args.plane in
    let r = filled_by v.outside v.columns v.rows (c.size-n.ensures.of_a_plane c.requires.columns c.requires.rows) (ranged_part {a = 0} {e = c.size-n.result} zero-le (omega arith) c.fill.ensures) in
    elim c.if-frame.branch [
      | then-frame w ↦ let g = begun_far a.some a.far w.if-frame.true c.requires (omega arith) r w.lead.ensures in rw w.dst-is (g.packs, g.leads, g.shown)
      | else-frame w ↦ let g = begun_near a.some a.far w.if-frame.false c.requires r in rw w.dst-is (g.packs, g.leads, g.shown)
    ]
