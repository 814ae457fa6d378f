-- Places below 15 together, and cells that leave the window or the range, show that the points are out of range; else it is the sum.
use native.Mathlib.Omega.{arith}
use Rattle.elements.proofs.Made.{made_far}
use Rattle.elements.proofs.Summing.{not_low_x, not_low_y, fits_in, summed_near, summed_far}
use Rattle.rows.proofs.Known.{rows16}
use Rattle.elements.proofs.Stands.{some, sound_cell}
use Rattle.elements.proofs.sum.Goals as goal
use Rattle.elements.proofs.sum.Goals.{then-x-lt15-via-then-x-lt15, then-x-lt15-via-else-x-lt15+then-y-lt15, then-x-lt15-via-else-x-lt15+else-y-lt15+then-not-within}

pub overflow_add-x : goal.overflow_add-x
overflow_add-x c =
    let a = c.args.a in
    let b = c.args.b in
    let wa = rows16 a.rows _ c.well_formed.0.1.1.1.1.1.0 in
    let wb = rows16 b.rows _ c.well_formed.1.0.1.1.1.1.1.0 in
    let S = c.requires in
    let p = S.0.left in
    let q = S.1.left in
    let u = (sound_cell a wa S.0 p.x p.y p.cell).2 in
    let v = (sound_cell b wb S.1 q.x q.y q.cell).2 in
    omega arith

pub overflow_add-y : goal.overflow_add-y
overflow_add-y c =
    let a = c.args.a in
    let b = c.args.b in
    let wa = rows16 a.rows _ c.well_formed.0.1.1.1.1.1.0 in
    let wb = rows16 b.rows _ c.well_formed.1.0.1.1.1.1.1.0 in
    let S = c.requires in
    let p = S.0.top in
    let q = S.1.top in
    let u = (sound_cell a wa S.0 p.x p.y p.cell).3 in
    let v = (sound_cell b wb S.1 q.x q.y q.cell).3 in
    omega arith

pub returns-then-x-lt15 : goal.returns-then-x-lt15
returns-then-x-lt15 c =
    let a = c.args.a in
    let b = c.args.b in
    let wa = rows16 a.rows _ c.well_formed.0.1.1.1.1.1.0 in
    let wb = rows16 b.rows _ c.well_formed.1.0.1.1.1.1.1.0 in
    let S = c.requires in
    let s = c.in-Some-Some in
    made_far _ _ _ (elim c.then-x-lt15.branch [
      | then-x-lt15-via-then-x-lt15 w ↦ not_low_x a b wa wb S.0 S.1 w.if-x-lt15.true
      | then-x-lt15-via-else-x-lt15+then-y-lt15 w ↦ not_low_y a b wa wb S.0 S.1 w.if-y-lt15.true
      | then-x-lt15-via-else-x-lt15+else-y-lt15+then-not-within w ↦
          λ t. w.within.ensures.no w.if-not-within.true (some S.0.top)
          (fits_in a b wa wb S.0 S.1 w.if-x-lt15.false w.if-y-lt15.false s.i s.j s.ensures s.ensures' t)
    ]) c.nothing-then-x-lt15.ensures

pub returns-then-within : goal.returns-then-within
returns-then-within c =
    let a = c.args.a in
    let b = c.args.b in
    let wa = rows16 a.rows _ c.well_formed.0.1.1.1.1.1.0 in
    let wb = rows16 b.rows _ c.well_formed.1.0.1.1.1.1.1.0 in
    let S = c.requires in
    let s = c.in-Some-Some in
    let r = c.sum_of-rows in
    let wr = rows16 r.result _ r.type_inv in
    let W = c.within.ensures.yes c.if-not-within.false in
    summed_near a b wa wb S.0 S.1 c.if-x-lt15.false c.if-y-lt15.false s.i s.j s.ensures s.ensures' r.result wr r.ensures W
    (c.within-2.ensures.yes c.if-within.true)

pub returns-else-within : goal.returns-else-within
returns-else-within c =
    let a = c.args.a in
    let b = c.args.b in
    let wa = rows16 a.rows _ c.well_formed.0.1.1.1.1.1.0 in
    let wb = rows16 b.rows _ c.well_formed.1.0.1.1.1.1.1.0 in
    let S = c.requires in
    let s = c.in-Some-Some in
    let r = c.sum_of-rows in
    let wr = rows16 r.result _ r.type_inv in
    let W = c.within.ensures.yes c.if-not-within.false in
    summed_far a b wa wb S.0 S.1 c.if-x-lt15.false c.if-y-lt15.false s.i s.j s.ensures s.ensures' r.result wr r.ensures W
    c.nothing-else-within.result (c.within-2.ensures.no c.if-within.false) c.nothing-else-within.ensures
