-- Where the residue has (0, 0) the sum of the path is in the target, and the rows have all of it.
use mathlib.Core.Path.{◌≡◌}
use mathlib.Core.Bool.{false≢true}
use Prim.Native.Nat.{◌/◌, ◌%◌}
use lib.ListN.{get_or}
use Rattle.rows.proofs.Known.{rows16}
use Rattle.completions.proofs.Covering.{origin_left, path_whole, path_part}
use native.Mathlib.Omega.{arith}
use Rattle.path_steps.proofs.finished.Goals.{then-here-gt32-via-then-here-gt32, then-here-gt32-via-else-here-gt32+then-here-eq0}
use Rattle.path_steps.proofs.finished.Goals as goal

pub returns-then-here-gt32 : goal.returns-then-here-gt32
returns-then-here-gt32 c =
    let h = c.args.here in
    record {
      few = λ e. absurd (false≢true e);
      whole = λ e. absurd (false≢true e);
      part = λ e l f s.
          let b : get_or h.rest 0 0 / 1 % 2 ≡ 1 = origin_left h.target h.rest h.path h.len f s in
          elim c.then-here-gt32.branch [
            | then-here-gt32-via-then-here-gt32 w ↦ omega arith
            | then-here-gt32-via-else-here-gt32+then-here-eq0 w ↦ omega arith
          ];
    }

pub returns : goal.returns
returns c =
    let h = c.args.here in
    let known = rows16 h.target _ c.well_formed.0.1.1.0 in
    let cut = c.carried-sum.ensures in
    let g = c.if-here-eq0.false in
    let o : get_or h.rest 0 0 / 1 % 2 ≡ 1 = omega arith in
    record {
      few = λ e. omega arith;
      whole = λ e f. path_whole h.target h.rest h.path c.carried-sum.result h.len known cut f o (c.same.ensures.yes e);
      part = λ e l f s. c.same.ensures.no e (path_part h.target h.rest h.path c.carried-sum.result h.len known cut f s);
    }
