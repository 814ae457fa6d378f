use borrow.Author.Count.{below_more}
use Rattle.faces.specs.Faces.{only_of}
use Rattle.face_steps.proofs.all_fair.Goals as goal

pub returns-then-not-fair-clause-no : goal.returns-then-not-fair-clause-no
unfolding only_of
returns-then-not-fair-clause-no c = λ e. record { i = c.loop-i.i; inside = c.loop-i-test.true; never = c.fair.ensures.no c.if-not-fair.true }

pub loop-i-preserved : goal.loop-i-preserved
unfolding only_of
loop-i-preserved c = below_more _ c.loop-i.i c.loop-i.invariant (c.fair.ensures.yes c.if-not-fair.false)
