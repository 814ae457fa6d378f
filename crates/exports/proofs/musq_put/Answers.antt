-- The answer of the call, in the kind of grid that the byte names.
use borrow.Author.Rules.{rules}
use mathlib.Core.Path.{subst}
use Rattle.grids.specs.Grid.{FramePut}
use Rattle.exports.proofs.musq_put.Goals as goal

pub returns : goal.returns
returns c =
    let a = c.args in
    let p = c.put in
    let kept = subst (λ k. FramePut k a.w a.h a.frame.now a.image.now p.result p.new.image)
    c.around_of.ensures
    p.ensures in
    record { answer = p.result; number = search rules; kept = kept }
