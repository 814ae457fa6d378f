-- No line, no digit, no word.
use mathlib.Core.Path.{refl}
use Rattle.text.proofs.Readings.{held_nothing}
use Rattle.line_steps.proofs.nothing.Goals as goal

pub returns : goal.returns
returns c = held_nothing _ refl refl refl refl
