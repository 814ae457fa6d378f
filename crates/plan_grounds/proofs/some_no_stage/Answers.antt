-- The chain tests each stage word, as `any` of specs/ does.
use mathlib.Core.Path.{◌∙◌}
use mathlib.Core.Bool.{not}
use Rattle.std.proofs.Common.{rules, tests, drop}
use Rattle.std.proofs.lemmas.Iterator.{YieldsList-from_slice}
use Rattle.std.proofs.lemmas.Iterator.Adapters.{YieldsList-from_skip}
use Rattle.std.proofs.lemmas.Iterator.Search.{any_from_yields_List}
use Rattle.words.specs.Word.{stage_mask}
use Rattle.masks.specs.Mask.{stage}
use Rattle.words.proofs.Passing.{any_same}
use Rattle.plan_grounds.proofs.some_no_stage.Goals as goal

pub returns : goal.returns
returns c =
    any_from_yields_List (λ w. not (stage (stage_mask w))) _ _ _ c.any.ensures.ran (YieldsList-from_skip 2 (YieldsList-from_slice c.args.ws.now (cc)) (cc))
    (λ x b q k. search (rules, tests))
    ∙ any_same (λ w. not (stage (stage_mask w))) (drop 2 c.args.ws.now)
