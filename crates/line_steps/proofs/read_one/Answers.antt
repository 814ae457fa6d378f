-- A byte is a line feed, a digit of a line that has fewer than eight, or it cannot come next.
use mathlib.Core.Path.{refl}
use Rattle.text.proofs.Readings.{spoils, no_next, goes_on}
use native.Mathlib.Omega.{arith}
use Rattle.line_steps.proofs.read_one.Goals as goal

pub returns-then-b-eq10 : goal.returns-then-b-eq10
returns-then-b-eq10 c = rw c.if-b-eq10.true c.end_line.ensures

pub returns-in_default : goal.returns-in_default
returns-in_default c = spoils _ _ _ c.spoilt.ensures (no_next _ _ c.if-b-eq10.false c.in_default.ensures)

pub returns-then-s-gt7 : goal.returns-then-s-gt7
returns-then-s-gt7 c = spoils _ _ _ c.spoilt-then-s-gt7.ensures (λ few next. c.if-b-eq10.false (next.1 (omega arith)))

pub returns : goal.returns
returns c = goes_on _ _ _ _ refl (omega arith) c.in-Some.ensures.0 c.in-Some.ensures.1 refl refl refl refl
