-- The chain tests each row, as `any` of specs/ does. A row has no column where its lowest 16 bits make 0.
use mathlib.Core.Path.{◌∙◌}
use Rattle.std.proofs.Common.{rules, tests, drop}
use Rattle.std.proofs.lemmas.Iterator.{YieldsList-from_slice}
use Rattle.std.proofs.lemmas.Iterator.Adapters.{YieldsList-from_skip}
use Rattle.std.proofs.lemmas.Iterator.Search.{any_from_yields_List}
use Rattle.plane.proofs.Bits.{no_bits}
use Rattle.words.proofs.Passing.{any_same}
use Rattle.shapes.specs.Shape.{empty_row}
use Rattle.shape_grounds.proofs.shape.empty_row.Goals as goal

pub returns : goal.returns
returns c =
    any_from_yields_List empty_row _ _ _ c.any.ensures.ran (YieldsList-from_skip 1 (YieldsList-from_slice c.args.ws.now (cc)) (cc))
    (λ x b q k. let e = no_bits 16 x.now in search (rules, tests, e))
    ∙ any_same empty_row (drop 1 c.args.ws.now)
