-- One end is one run of steps; two ends are two.
use Rattle.faces.proofs.BitEnds.{two_ends, one_end}
use native.Mathlib.Omega.{arith}
use Rattle.face_steps.proofs.spaced.Goals as goal

pub returns : goal.returns
returns c =
    let st = c in record { yes = λ e. one_end st.args.b st.args.step _ (omega arith) c.ends.ensures st.requires.0 (c.lone.ensures.yes e); no = λ e. two_ends st.args.b st.args.step _ c.ends.ensures (c.lone.ensures.no e) }
