-- The answer of the call, in the kind of grid that the byte names.
use borrow.Author.Rules.{rules}
use mathlib.Core.Path.{subst}
use Rattle.grids.specs.Grid.{Staged}
use Rattle.numbers.specs.Numbers.{erodes}
use Rattle.exports.proofs.musq_stage.Goals as goal

pub returns : goal.returns
returns c =
    let a = c.args in
    let p = c.stage in
    let kept =
    subst
    (λ k. Staged (erodes a.erode) k a.word a.w a.h a.from.now a.to.now p.result p.new.to)
    c.around_of-kind.ensures p.ensures in
    record { answer = p.result; number = search rules; kept = kept }
