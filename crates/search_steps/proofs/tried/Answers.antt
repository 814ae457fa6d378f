-- What the quick search answered, or the number of stages left.
use borrow.Author.Tests.{ltb-true}
use mathlib.Core.Path.{sym, ◌∙◌}
use Rattle.search.proofs.Trying.{led_shut, led_few}
use Rattle.search_steps.proofs.tried.Goals as goal

pub returns-in_err-below : goal.returns-in_err-below
returns-in_err-below c = rw c.from_residual.ensures (led_shut _ _ _ _ _ c.in_err-below.ensures)

pub returns-then-too_many : goal.returns-then-too_many
returns-then-too_many c =
    led_few _ _ _ _ _ c.in_ok-below.below c.in_ok-below.ensures.1 (ltb-true _ _ (sym c.too_many.ensures ∙ c.if-too_many.true))
