-- The number of words of a plan is cut to the output list's; a refusal is its number.
use native.Mathlib.Omega.{arith}
use Rattle.text.proofs.Pages.{page_rest}
use Rattle.print_calls.proofs.Showing.{shows_plan, shows_refused}
use Rattle.print_calls.proofs.shown.Goals as goal

pub returns-in-Ok : goal.returns-in-Ok
returns-in-Ok c =
    let q = page_rest _ _ c.words_page.ensures in
    record { text = shows_plan _ _ _ _ _ c.in-Ok.is (omega arith) c.words_of.ensures c.words_page.ensures; room = q.0; past = q.1 }

pub returns-in-Err : goal.returns-in-Err
returns-in-Err c =
    let q = page_rest _ _ c.refused_page.ensures in
    record { text = shows_refused _ _ _ _ _ c.in-Err.is c.from.ensures c.refused_page.ensures; room = q.0; past = q.1 }
