-- The chain tests each row with the next, as `any_next` of specs/ does.
use mathlib.Core.Path.{◌∙◌}
use Rattle.std.proofs.Common.{rules, tests}
use Rattle.std.proofs.lemmas.Iterator.{YieldsList-from_slice, YieldsList-from_zip}
use Rattle.std.proofs.lemmas.Iterator.Adapters.{YieldsList-from_skip}
use Rattle.std.proofs.lemmas.Iterator.Search.{any_from_yields_List}
use Rattle.words.proofs.Passing.{next_same}
use Rattle.shapes.specs.Shape.{not_rising}
use Rattle.shape_grounds.proofs.shape.not_rising.Goals as goal

pub returns : goal.returns
returns c =
    let ws = c.args.ws.now in
    any_from_yields_List (λ p. not_rising p.0 p.1) c.any.new.self _ _ c.any.ensures.ran
    (YieldsList-from_zip (YieldsList-from_skip 1 (YieldsList-from_slice ws (cc)) (cc)) (YieldsList-from_skip 2 (YieldsList-from_slice ws (cc)) (cc)))
    (λ x b q k. search (rules, tests))
    ∙ next_same not_rising 1 ws
