-- A frame that is long enough has its rows moved up, and the row goes behind them.
use mathlib.Core.Path.{refl}
use lib.ListN.{length}
use Rattle.rolling_steps.proofs.Moving.{rolled_by}
use Rattle.rolling_steps.proofs.roll.Goals as goal

pub returns-then-w-d-clause-arrives : goal.returns-then-w-d-clause-arrives
returns-then-w-d-clause-arrives c = λ _. rolled_by (length c.args.row.now) c.args.row.now c.args.d.now refl c.if-w-d.true c.up.ensures c.copy.ensures
