use mathlib.Core.Path.{◌≡◌, refl, ◌∙◌}
use Prim.Native.Nat.{◌+◌, ◌*◌}
use lib.ListN.{get_or, length-set}
use Rattle.rows.proofs.Known.{rows16}
use Rattle.edges.specs.Edges.{first_direction, second_direction, middle_of, times_of}
use Rattle.edges.proofs.Directions.{inside}
use Rattle.edges.proofs.Storing.{stored}
use Rattle.edges.proofs.Greatest.{clipped_is, fits, numbered_none, numbered_all}
use borrow.Author.Rules.{rules}
use native.Mathlib.Omega.{arith}
use Rattle.edge_steps.proofs.numbers.Goals as goal

pub returns-then-s-eq0 : goal.returns-then-s-eq0
returns-then-s-eq0 c =
    let st = c in
    let cells = st.args.cells in
    numbered_none cells (rows16 cells _ st.well_formed.0) _ _ (clipped_is _ _ c.min.ensures) c.tops-s.result c.tops-s.ensures
    c.if-s-eq0.true

pub loop-i-init : goal.loop-i-init
loop-i-init c = (refl, λ k l. absurd (omega arith))

pub overflow_cast-first : goal.overflow_cast-first
unfolding first_direction second_direction middle_of times_of
overflow_cast-first c = let k = inside c.loop-i.i (omega arith) in search rules

pub offset_bounds-s-first : goal.offset_bounds-s-first
unfolding first_direction second_direction middle_of times_of
offset_bounds-s-first c = let k = inside c.loop-i.i (omega arith) in search rules

pub bounds-s-first : goal.bounds-s-first
unfolding first_direction second_direction middle_of times_of
bounds-s-first c = let k = inside c.loop-i.i (omega arith) in search rules

pub overflow_cast-second : goal.overflow_cast-second
unfolding first_direction second_direction middle_of times_of
overflow_cast-second c = let k = inside c.loop-i.i (omega arith) in search rules

pub offset_bounds-s-second : goal.offset_bounds-s-second
unfolding first_direction second_direction middle_of times_of
offset_bounds-s-second c = let k = inside c.loop-i.i (omega arith) in search rules

pub bounds-s-second : goal.bounds-s-second
unfolding first_direction second_direction middle_of times_of
bounds-s-second c = let k = inside c.loop-i.i (omega arith) in search rules

pub overflow_cast-middle : goal.overflow_cast-middle
unfolding first_direction second_direction middle_of times_of
overflow_cast-middle c = let k = inside c.loop-i.i (omega arith) in search rules

pub offset_bounds-s-middle : goal.offset_bounds-s-middle
unfolding first_direction second_direction middle_of times_of
offset_bounds-s-middle c = let k = inside c.loop-i.i (omega arith) in search rules

pub bounds-s-middle : goal.bounds-s-middle
unfolding first_direction second_direction middle_of times_of
bounds-s-middle c = let k = inside c.loop-i.i (omega arith) in search rules

pub number-requires : goal.number-requires
unfolding first_direction second_direction middle_of times_of
number-requires c =
    let e = c in
    let st = e in
    let cells = st.args.cells in
    fits cells (rows16 cells _ st.well_formed.0) _ e.tops-s.result e.tops-s.ensures e.if-s-eq0.false c.loop-i.i (omega arith)

pub loop-i-preserved : goal.loop-i-preserved
unfolding first_direction second_direction middle_of times_of
loop-i-preserved c =
    let h = c.loop-i in
    let s = c.tops-s.result in
    let v = c.number.result in (
      length-set h.r h.i v ∙ h.invariant.0,
      stored (λ k q. q + (times_of k * get_or s (middle_of k) 0 + 128) ≡ get_or s (first_direction k) 0 + get_or s (second_direction k) 0 + times_of k * 64) h.r
          h.i v (omega (arith, h.invariant.0)) h.invariant.1 c.number.ensures,
    )

pub returns : goal.returns
returns c =
    let h = c.loop-i in
    let e = c in
    let st = e in
    let cells = st.args.cells in
    numbered_all cells (rows16 cells _ st.well_formed.0) _ _ (clipped_is _ _ e.min.ensures) e.tops-s.result e.tops-s.ensures
    e.if-s-eq0.false h.r
    (λ i l. h.invariant.1 i (omega arith))
