-- The greatest cell decides.
use mathlib.Core.Path.{◌∙◌, ap}
use lib.Dec.{ltb}
use lib.ListN.{take}
use Rattle.grids.specs.Frame.{highest}
use Rattle.cell_steps.proofs.Loops.{greatest_bad}
use Rattle.cell_steps.proofs.bad_among.Goals as goal

pub returns : goal.returns
returns c = let a = c.args in ap (ltb highest) c.greatest_among.ensures ∙ greatest_bad (take a.n a.cells.now)
