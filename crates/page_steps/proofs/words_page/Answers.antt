use lib.ListN.{length-take}
use Rattle.planning.specs.Printer.{word_lines}
use Rattle.text.proofs.Pages.{words_more, words_first}
use native.Mathlib.Omega.{arith}
use Rattle.page_steps.proofs.words_page.Goals as goal

pub loop-w-init : goal.loop-w-init
unfolding word_lines
loop-w-init c = c.blank-r.ensures

pub loop-w-preserved : goal.loop-w-preserved
loop-w-preserved c =
    let l = length-take c.min.result c.args.ws.now in
    words_more _ _ _ c.loop-w.w-index (omega arith) (omega arith) c.loop-w.invariant c.with_line-r.ensures

pub returns : goal.returns
returns c = words_first c.args.ws.now _ _ c.loop-w.w-index c.min.ensures c.loop-w-test.false c.loop-w.invariant
