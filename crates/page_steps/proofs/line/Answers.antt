-- Each digit at its place.
use Rattle.planning.specs.Printer.{word_line}
use Rattle.page_steps.proofs.line.Goals as goal

pub returns : goal.returns
unfolding word_line
returns c = cc
