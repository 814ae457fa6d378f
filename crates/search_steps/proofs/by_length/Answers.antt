use Rattle.masks.specs.Mask.{stage}
use Rattle.rows.specs.Cells.{At}
use Rattle.search.proofs.Lengths.{none_short, none_more, none_found, found_first}
use native.Mathlib.Omega.{arith}
use Rattle.search_steps.proofs.by_length.Goals as goal

pub loop-n-init : goal.loop-n-init
loop-n-init c =
    let a = c.args in
    let g = c.requires.1.1.0 in
    none_short stage (λ m t. t) (At a.cells) a.w a.h _ g.0 g.1 c.least_count-n.ensures

pub returns-in-Some : goal.returns-in-Some
returns-in-Some c =
    let a = c.args in
    found_first stage (λ m t. t) (At a.cells) a.marks.now c.requires.1.1.1.0 c.loop-n.n c.loop-n.invariant c.in-Some.masks c.in-Some.ensures

pub loop-n-preserved : goal.loop-n-preserved
loop-n-preserved c =
    let a = c.args in
    none_more stage (λ m t. t) (At a.cells) a.marks.now c.requires.1.1.1.0 c.loop-n.n c.loop-n.invariant c.in_default.ensures

pub returns : goal.returns
returns c =
    let a = c.args in
    let g = c.requires.1.1.0 in
    none_found stage (λ m t. t) (At a.cells) a.w a.h c.loop-n.n g.0 g.1 c.loop-n.invariant (omega arith)
