-- A bad line or a line begun is unreadable; else the words kept are planned.
use native.Mathlib.Omega.{arith}
use Rattle.text.proofs.Pages.{page_rest}
use Rattle.print_calls.proofs.Answering.{answers_bad, answers_begun, answers_none, answers_words}
use lib.ListN.{take}
use Rattle.print_calls.specs.Answers.{Answers}
use Rattle.print_calls.proofs.page.Goals as goal
use Rattle.print_calls.proofs.page.Goals.{then-s-via-then-s, then-s-via-else-s+then-s-gt0, then-s-via-else-s+else-s-gt0+then-s-gt-KEPT}

pub returns-then-s : goal.returns-then-s
returns-then-s c =
    let u = c.unreadable_page.ensures in
    let q = page_rest _ _ u in
    let t : Answers c.args.s (take c.unreadable_page.result.n c.unreadable_page.result.bytes) = elim c.then-s.branch [
      | then-s-via-then-s w ↦ answers_bad _ _ w.if-s.true u
      | then-s-via-else-s+then-s-gt0 w ↦ answers_begun _ _ w.if-s.false (λ z. omega arith) u
      | then-s-via-else-s+else-s-gt0+then-s-gt-KEPT w ↦ answers_none _ _ w.if-s.false (omega arith) u
    ] in
    record { text = t; room = q.0; past = q.1 }

pub returns : goal.returns
returns c = record { text = answers_words _ _ c.if-s.false (omega arith) c.planned.ensures.text; room = c.planned.ensures.room; past = c.planned.ensures.past }
