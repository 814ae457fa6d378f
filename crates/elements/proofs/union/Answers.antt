-- Cells that would leave the window show that the points are out of range; else both are moved to the lesser place.
use Rattle.elements.proofs.Made.{made_far}
use Rattle.elements.proofs.Joining.{joined_made, stays_a, stays_b}
use Rattle.rows.proofs.Known.{rows16}
use Rattle.elements.proofs.Stands.{some}
use Rattle.elements.proofs.union.Goals as goal
use Rattle.elements.proofs.union.Goals.{else-within-via-then-within+else-within-2, else-within-via-else-within}

pub returns-then-within-2 : goal.returns-then-within-2
returns-then-within-2 c =
    let a = c.args.a in
    let b = c.args.b in
    let wa = rows16 a.rows _ c.well_formed.0.1.1.1.1.1.0 in
    let wb = rows16 b.rows _ c.well_formed.1.0.1.1.1.1.1.0 in
    let S = c.requires in
    let x = c.min-x in
    let y = c.min-y in
    let ra = c.raised in
    let rb = c.raised-then-within-2 in
    let r = c.joined in
    let IA = c.within.ensures.yes c.if-within.true in
    let IB = c.within-then-within.ensures.yes c.if-within-2.true in
    joined_made a b wa wb S.0 S.1 x.result y.result x.ensures y.ensures ra.result rb.result r.result
    (rows16 r.result _ r.type_inv) ra.ensures rb.ensures
    r.ensures IA IB

pub returns-else-within : goal.returns-else-within
returns-else-within c =
    let a = c.args.a in
    let b = c.args.b in
    let wa = rows16 a.rows _ c.well_formed.0.1.1.1.1.1.0 in
    let wb = rows16 b.rows _ c.well_formed.1.0.1.1.1.1.1.0 in
    let S = c.requires in
    let x = c.min-x in
    let y = c.min-y in
    elim c.else-within.branch [
      | else-within-via-then-within+else-within-2 w ↦
          made_far _ _ _ (λ t. w.within-then-within.ensures.no w.if-within-2.false (some S.1.top)
          (stays_b a b wa wb S.0 S.1 x.result y.result x.ensures y.ensures t)) c.nothing.ensures
      | else-within-via-else-within w ↦
          made_far _ _ _ (λ t. c.within.ensures.no w.if-within.false (some S.0.top)
          (stays_a a b wa wb S.0 S.1 x.result y.result x.ensures y.ensures t)) c.nothing.ensures
    ]
