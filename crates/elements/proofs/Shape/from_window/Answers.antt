-- Cells in the window, moved to both axes; an anchor past 15, or no cell, is no shape.
use native.Mathlib.Omega.{arith}
use Rattle.rows.proofs.Known.{rows16}
use Rattle.elements.specs.Standing.{Anchored}
use Rattle.elements.proofs.Stands.{some}
use Rattle.elements.proofs.Windows.{from_made, least_x}
use Rattle.elements.proofs.Shape.from_window.Goals as goal

pub overflow_add-result : goal.overflow_add-result
overflow_add-result c =
    let w = c.args.w in
    let s = c.in-Some-Some in
    let l = least_x w.rows s.i (rows16 w.rows _ c.well_formed.0.1.1.1.1.0) s.ensures in
    omega arith

pub returns : goal.returns
returns c =
    let w = c.args.w in
    let W = rows16 w.rows _ c.well_formed.0.1.1.1.1.0 in
    let s = c.in-Some-Some in
    let G : Anchored w = record { in_x = c.if-ax-gt15.false; in_y = c.if-ay-gt15.false; some = some s.ensures } in
    let r = c.lowered in
    from_made w W G s.i s.j s.ensures s.ensures' r.result (rows16 r.result _ r.type_inv) r.ensures
