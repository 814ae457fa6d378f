-- The greater mask has the cells of the other, and leaves what the other leaves.
use Rattle.rows.proofs.Known.{rows16}
use Rattle.completions.proofs.Covering.{replacing}
use Rattle.path_steps.proofs.replaces.Goals as goal

pub returns-then-b-m : goal.returns-then-b-m
returns-then-b-m c = λ e.
    replacing _ _ _ _ _ (rows16 c.args.t _ c.well_formed.0) c.if-b-m.true c.requires c.shrunk.ensures (c.same.ensures.yes e)
