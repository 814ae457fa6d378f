use Prim.Native.Nat.{◌-◌}
use mathlib.Core.Path.{refl}
use Rattle.rows.proofs.Known.{rows16}
use Rattle.rows.proofs.Sums.{in_x}
use Rattle.extents.proofs.Search.{below_less, below_found, below_done, column_clear}
use Rattle.extent_steps.proofs.last_column.Goals as goal

pub loop-last-init : goal.loop-last-init
loop-last-init c = record { below = in_x c.args.a (rows16 c.args.a _ c.well_formed.0) }

pub returns-then-has : goal.returns-then-has
returns-then-has c =
    let g = c.columns-c.ensures.to (c.loop-last.last - 1) (c.has.ensures.yes c.if-has.true) in
    below_found _ _ c.loop-last.last (c.loop-last.last - 1) g.0 c.loop-last.invariant g.1 refl

pub loop-last-preserved : goal.loop-last-preserved
loop-last-preserved c =
    below_less _ _ c.loop-last.last c.loop-last-test.true c.loop-last.invariant
    (column_clear c.args.a c.columns-c.result (rows16 c.args.a _ c.well_formed.0) c.columns-c.ensures (c.loop-last.last - 1) (c.has.ensures.no c.if-has.false))

pub returns : goal.returns
returns c = below_done _ _ c.loop-last.last c.loop-last-test.false c.loop-last.invariant
