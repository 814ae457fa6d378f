-- What is no shape is refused; else the words written are the list of its points.
use mathlib.Core.Path.{sym, subst}
use borrow.Author.Tests.{not-true, not-false}
use Rattle.shapes.specs.Calls.{ListAnswered}
use Rattle.elements.specs.Standing.{points_of}
use Rattle.shape_calls.specs.Steps.{writing_tests}
use Rattle.shape_calls.proofs.Writing.{write_far, write_answered, window_words, fits_sound}
use Rattle.rows.proofs.Known.{rows16}
use Rattle.shape_calls.proofs.write_shape.Goals as goal

pub returns-then-not-s : goal.returns-then-not-s
returns-then-not-s c = let st = c in write_far st.args.s st.args.out.now (not-true c.args.s.fits c.if-not-s.true)

pub returns : goal.returns
returns c =
    let w = c.write_list in
    let s = c.args.s in
    let out = c.args.out.now in
    let f = not-false c.args.s.fits c.if-not-s.false in
    let win = c.window-cells in
    let R = rows16 s.rows _ c.well_formed.0.1.1.1.1.1.0 in
    let l = window_words s R (fits_sound s c.requires f) win.result (rows16 win.result.rows _ win.type_inv.1.1.1.1.0) win.ensures in
    subst (λ a. ListAnswered (writing_tests s out) (points_of s) out a w.new.out) (sym c.answered.ensures) (write_answered s out f _ l w.result _ w.ensures)
