-- The invariant: the page holds the lines of the words before this one.
use lib.ListN.{take}
use Rattle.planning.specs.Printer.{word_lines}
use Rattle.text.specs.Page.{Holds}
use Rattle.page_steps.proofs.words_page.Given as goal

abbrev pub invariant-loop-w : goal.invariant-loop-w
invariant-loop-w l = Holds (word_lines (take l.w-index l.first)) l.r
