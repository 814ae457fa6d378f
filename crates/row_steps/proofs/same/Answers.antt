-- Rows with the same cells are the same rows, and the other way round.
use native.Mathlib.Omega.{arith}
use Rattle.rows.proofs.Known.{rows16}
use Rattle.rows.proofs.Sums.{same_rows, rows_same}
use Rattle.row_steps.proofs.same.Goals as goal

pub returns-clause-yes : goal.returns-clause-yes
returns-clause-yes c = λ e.
    let a = c.args.a in
    let b = c.args.b in
    rows_same a b (rows16 a _ c.well_formed.0) (rows16 b _ c.well_formed.1.0) (λ q l. c.loop-i.invariant.0 e q (omega arith))

pub returns-clause-no : goal.returns-clause-no
returns-clause-no c = λ e s.
    let a = c.args.a in
    let b = c.args.b in
    c.loop-i.invariant.1 e (same_rows a b (rows16 a _ c.well_formed.0) (rows16 b _ c.well_formed.1.0) s)
