use mathlib.Core.Path.{refl}
use Rattle.rows.proofs.Known.{rows16}
use Rattle.rows.proofs.Sums.{in_x}
use Rattle.extents.proofs.Search.{from_none, from_more, from_done, column_clear}
use Rattle.extent_steps.proofs.first_column.Goals as goal

pub loop-first-init : goal.loop-first-init
loop-first-init c = from_none _ _

pub returns-then-has : goal.returns-then-has
returns-then-has c =
    let g = c.columns-c.ensures.to c.loop-first.first (c.has.ensures.yes c.if-has.true) in
    record { x = c.loop-first.first; y = g.0; cell = g.1; at = refl; all = c.loop-first.invariant.from }

pub loop-first-preserved : goal.loop-first-preserved
loop-first-preserved c =
    from_more _ _ c.loop-first.first c.loop-first.invariant
    (column_clear c.args.a c.columns-c.result (rows16 c.args.a _ c.well_formed.0) c.columns-c.ensures c.loop-first.first (c.has.ensures.no c.if-has.false))

pub returns : goal.returns
returns c = from_done _ _ c.loop-first.first c.loop-first-test.false c.loop-first.invariant (in_x c.args.a (rows16 c.args.a _ c.well_formed.0))
