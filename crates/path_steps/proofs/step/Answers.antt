-- A mask is passed over for one of the reasons of `Stepping`; else the state below is ready.
use Rattle.rows.proofs.Known.{rows16}
use Rattle.completions.proofs.Stepping.{gained, step_unfit, step_unmet, step_uncovered, below_yes}
use native.Mathlib.Omega.{arith}
use Rattle.path_steps.proofs.step.Goals.{then-here-ge32-via-then-here-ge32, then-here-ge32-via-else-here-ge32+then-not-fits, then-not-reaches-via-then-not-reaches, then-not-reaches-via-else-not-reaches+then-not-covers}
use Rattle.path_steps.proofs.step.Goals as goal

pub returns-then-here-ge32 : goal.returns-then-here-ge32
returns-then-here-ge32 c =
    let a = c.args in
    record {
      no = λ l permitted r t. elim c.then-here-ge32.branch [
        | then-here-ge32-via-then-here-ge32 w ↦ absurd (omega arith)
        | then-here-ge32-via-else-here-ge32+then-not-fits w ↦ step_unfit a.nums.now a.here a.m permitted r t
            (w.fits.ensures.no w.if-not-fits.true (r.known.below a.m t))
      ];
    }

pub returns-then-not-reaches : goal.returns-then-not-reaches
returns-then-not-reaches c =
    let a = c.args in
    let fit = c.fits.ensures.yes c.if-not-fits.false in
    let known = rows16 a.here.rest _ c.well_formed.0.1.1.1.0 in
    record {
      no = λ l permitted r t. elim c.then-not-reaches.branch [
        | then-not-reaches-via-then-not-reaches w ↦ step_unmet a.nums.now a.here a.m permitted r t known _ c.shrunk-rest.ensures
            c.less-left.result (c.less-left.ensures.after fit.0) fit.1 (c.reaches.ensures.no w.if-not-reaches.true)
        | then-not-reaches-via-else-not-reaches+then-not-covers w ↦ step_uncovered a.nums.now a.here a.m permitted r t known _
            c.shrunk-rest.ensures (w.covers.ensures w.if-not-covers.true)
      ];
    }

pub returns : goal.returns
returns c =
    let a = c.args in
    let h = a.here in
    let long = c.well_formed.0.1.1.1.1.0.1.0.1 in
    let fit = c.fits.ensures.yes c.if-not-fits.false in
    let less = c.less-left.ensures.after fit.0 in
    let p = less 16 (omega arith) in
    let q = less 17 (omega arith) in (
      omega arith,
      below_yes a.nums.now h a.m (rows16 h.rest _ c.well_formed.0.1.1.1.0) _ _ c.shrunk-rest.ensures less (omega arith) long
          (gained _ _ _ _ (omega arith) (omega arith) (c.reaches.ensures.yes c.if-not-reaches.false)),
    )
