-- Where the target is the sum, what the path carries is the target.
use Rattle.rows.specs.Cells.{Sum, At, AtMask}
use Rattle.rows.proofs.Known.{rows16}
use Rattle.completions.proofs.Covering.{carried_end}
use Rattle.path_steps.proofs.covers.Goals as goal

pub returns-else-same : goal.returns-else-same
returns-else-same c = λ e d.
    c.same-else-same.ensures.no e
    (carried_end (Sum (At c.args.t) (AtMask c.args.m)) _ _ _ _ _ (rows16 c.args.here.target _ c.well_formed.0.1.1.0)
    c.grown-z.ensures c.carried.ensures d)
