-- Where no cell of the row is seen, all are filled; else the three runs lie one after the other.
use mathlib.Core.Path.{sym}
use Prim.Native.Nat.{◌+◌, ◌-◌}
use lib.ListN.{length}
use Rattle.ranges.proofs.Ranges.{ranged_ap}
use Rattle.cuts.proofs.CutRows.{none_seen, three_runs}
use Rattle.plane_unpack_steps.proofs.HeldRows.{part_pairs}
use Rattle.plane_unpack_steps.specs.Pairs.{pair_bit}
use Rattle.plane_unpack_steps.proofs.lines.line.Goals as goal

pub returns-then-e-p : goal.returns-then-e-p
returns-then-e-p c =
    let a = c.args in
    ranged_ap c.fill.ensures
    (λ k lo hi. sym
    (none_seen a.outside (length a.row.now) (pair_bit a.row.now a.more.now a.j) c.edge-p.ensures
    c.edge-e.ensures k c.if-e-p.true hi))

pub returns : goal.returns
returns c =
    let a = c.args in
    let p = c.edge-p in
    let e = c.edge-e in
    let row = a.row.now in
    three_runs a.outside (length row) a.a (pair_bit row a.more.now a.j) a.d.now p.ensures e.ensures c.if-e-p.false
    c.fill-2.ensures
    (λ h g u. part_pairs a.j (p.result + a.a - 15) row a.more.now {a = p.result} {e = e.result} c.requires.2.size h g u
    c.halves.ensures)
    c.fill-3.ensures
