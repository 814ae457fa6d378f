-- a put onto no cell, moved by (i, j), is a moved by (i, j); a move past the window leaves nothing.
use mathlib.Core.Logic.{inl, inr}
use Rattle.rows.proofs.Joins.{onto_raised, raised_out}
use Rattle.row_sum_steps.proofs.raised.Goals as goal
use Rattle.row_sum_steps.proofs.raised.Goals.{else-i-lt16-via-then-i-lt16+else-j-lt16, else-i-lt16-via-else-i-lt16}

pub returns-then-j-lt16 : goal.returns-then-j-lt16
returns-then-j-lt16 c = onto_raised c.args.a c.onto.result c.args.i c.args.j c.onto.ensures

pub returns-else-i-lt16 : goal.returns-else-i-lt16
returns-else-i-lt16 c =
    raised_out c.args.a c.args.i c.args.j (elim c.else-i-lt16.branch [
      | else-i-lt16-via-then-i-lt16+else-j-lt16 w ↦ inr w.if-j-lt16.false
      | else-i-lt16-via-else-i-lt16 w ↦ inl w.if-i-lt16.false
    ])
