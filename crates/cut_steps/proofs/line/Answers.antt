-- Where no cell of the row is seen, all are filled; else the three runs lie one after the other.
use mathlib.Core.Path.{sym}
use Prim.Native.Nat.{◌+◌, ◌-◌}
use native.Mathlib.Nat.{le_refl}
use lib.ListN.{length, get_or}
use Rattle.ranges.proofs.Ranges.{ranged_ap, ranged_copy}
use Rattle.cuts.proofs.CutRows.{none_seen, three_runs}
use Rattle.cut_steps.proofs.line.Goals as goal

pub returns-then-e-p : goal.returns-then-e-p
returns-then-e-p c =
    let a = c.args in
    ranged_ap c.fill.ensures
    (λ k lo hi. sym
    (none_seen a.outside (length a.row.now) (λ i. get_or a.row.now i 0) c.edge-p.ensures c.edge-e.ensures
    k c.if-e-p.true hi))

pub returns : goal.returns
returns c =
    let a = c.args in
    let p = c.edge-p in
    let e = c.edge-e in
    let row = a.row.now in
    three_runs a.outside (length row) a.a (λ i. get_or row i 0) a.d.now p.ensures e.ensures c.if-e-p.false
    c.fill-2.ensures
    (λ h g u.
    ranged_copy (p.result + a.a - 15) (length row) row {a = p.result} {e = e.result} h g (le_refl _) u
    c.copy.ensures)
    c.fill-3.ensures
