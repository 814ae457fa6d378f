-- What stays of the whole window under a, moved by (i, j), is a moved by (−i, −j); a move past the window leaves nothing.
use mathlib.Core.Logic.{inl, inr}
use Rattle.rows.proofs.Known.{rows16}
use Rattle.rows.proofs.Joins.{under_lowered, lowered_out}
use Rattle.row_steps.proofs.lowered.Goals as goal
use Rattle.row_steps.proofs.lowered.Goals.{else-i-lt16-via-then-i-lt16+else-j-lt16, else-i-lt16-via-else-i-lt16}

pub returns-then-j-lt16 : goal.returns-then-j-lt16
returns-then-j-lt16 c = under_lowered c.args.a c.under.result c.args.i c.args.j (rows16 c.args.a _ c.well_formed.0) c.under.ensures

pub returns-else-i-lt16 : goal.returns-else-i-lt16
returns-else-i-lt16 c =
    lowered_out c.args.a c.args.i c.args.j (rows16 c.args.a _ c.well_formed.0) (elim c.else-i-lt16.branch [
      | else-i-lt16-via-then-i-lt16+else-j-lt16 w ↦ inr w.if-j-lt16.false
      | else-i-lt16-via-else-i-lt16 w ↦ inl w.if-i-lt16.false
    ])
