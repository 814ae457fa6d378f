-- The chain tests each word from `start` on, as `any` of specs/ does.
use mathlib.Core.Path.{◌∙◌}
use Rattle.std.proofs.Common.{rules, tests, drop}
use Rattle.std.proofs.lemmas.Iterator.{YieldsList-from_slice}
use Rattle.std.proofs.lemmas.Iterator.Adapters.{YieldsList-from_skip}
use Rattle.std.proofs.lemmas.Iterator.Search.{any_from_yields_List}
use Rattle.words.proofs.Passing.{any_same}
use Rattle.words.specs.Word.{wrong_kind}
use Rattle.word_grounds.proofs.wrong_kind.Goals as goal

pub returns : goal.returns
returns c =
    any_from_yields_List (wrong_kind c.args.kind) _ _ _ c.any.ensures.ran (YieldsList-from_skip c.args.start (YieldsList-from_slice c.args.ws.now (cc)) (cc)) (λ x b q k. search (rules, tests))
    ∙ any_same (wrong_kind c.args.kind) (drop c.args.start c.args.ws.now)
