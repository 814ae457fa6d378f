-- Eight digits make a word; a line feed after fewer cannot come next.
use mathlib.Core.Path.{refl}
use Rattle.text.proofs.Lines.{digit_no_feed}
use Rattle.text.proofs.Readings.{spoils, ends_line}
use native.Mathlib.Omega.{arith}
use Rattle.line_steps.proofs.end_line.Goals as goal

pub returns-then-line-ne8 : goal.returns-then-line-ne8
returns-then-line-ne8 c =
    spoils _ _ 10 c.spoilt.ensures (λ few next. let d = next.0 (omega arith) in digit_no_feed d.0 d.1.1)

pub returns : goal.returns
returns c = ends_line _ _ refl (omega arith) refl refl (omega arith) c.with_word.ensures
