-- The cut goes from one image into the other, at the distances that the place gives.
use mathlib.Core.Path.{◌∙◌, ap}
use native.Mathlib.Omega.{arith}
use Rattle.words.specs.Word.{place_x, place_y}
use Rattle.grids.specs.Grid.{outside_of}
use Rattle.result_steps.proofs.Rooms.{room_cut}
use Rattle.result_steps.proofs.Reading.{ahead_small, away_first, away_second}
use Rattle.result_steps.proofs.results.cut.Goals as goal

pub returns-then-even : goal.returns-then-even
returns-then-even c =
    let st = c in
    let p = st.args.place in
    let a = c.ahead-a in
    let b = c.ahead-b in
    let o = c.second_at-o in
    let v = c.outside.ensures ∙ ap outside_of c.around.ensures in
    let fits = room_cut st.requires.2 st.args.first.now st.args.second.now st.requires.2.first st.requires.2.second st.args.two a.result
    b.result
    o.ensures (omega (arith, a.ensures, ahead_small st.args.op (place_x p) st.requires.0))
    (omega (arith, b.ensures, ahead_small st.args.op (place_y p) st.requires.1)) in
    away_first p a.ensures b.ensures v o.ensures c.if-even.true (c.unpack.ensures.done fits)

pub returns-else-even : goal.returns-else-even
returns-else-even c =
    let st = c in
    let p = st.args.place in
    let a = c.ahead-a in
    let b = c.ahead-b in
    let o = c.second_at-o in
    let v = c.outside.ensures ∙ ap outside_of c.around.ensures in
    let fits = room_cut st.requires.2 st.args.second.now st.args.first.now st.requires.2.second st.requires.2.first st.args.two a.result
    b.result
    o.ensures (omega (arith, a.ensures, ahead_small st.args.op (place_x p) st.requires.0))
    (omega (arith, b.ensures, ahead_small st.args.op (place_y p) st.requires.1)) in
    away_second p a.ensures b.ensures v o.ensures c.if-even.false (c.unpack-else-even.ensures.done fits)
