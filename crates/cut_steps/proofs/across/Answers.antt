-- Above and below the source all cells are filled; else the row is that of the source at its height.
use native.Mathlib.Omega.{arith}
use mathlib.Core.Path.{◌≡◌, sym, ap, ◌∙◌}
use Prim.Native.Nat.{ℕ, ◌+◌, ◌-◌, ◌*◌}
use native.Mathlib.Nat.{mul_comm}
use lib.ListN.{length, get_or}
use borrow.Rule.Slice.PartMut.{mid_of, mid_len}
use Rattle.ranges.proofs.Ranges.{ranged_ap, get_d_mid}
use Rattle.ranges.proofs.FlatRows.{rows_apart}
use Rattle.cuts.specs.Cuts.{shifted}
use Rattle.cuts.proofs.CutRows.{seen_above, seen_under, seen_line}
use Rattle.cut_steps.proofs.across.Goals as goal
use Rattle.cut_steps.proofs.across.Goals.{then-t-lt15-via-then-t-lt15, then-t-lt15-via-else-t-lt15+then-source-t}

pub returns-then-t-lt15 : goal.returns-then-t-lt15
returns-then-t-lt15 c =
    let a = c.args in
    let s = a.source in
    ranged_ap c.fill.ensures (λ k lo hi. sym (elim c.then-t-lt15.branch [
      | then-t-lt15-via-then-t-lt15 w ↦ seen_above s.outside s.columns s.rows a.src.now (k + a.a) a.t (omega arith)
      | then-t-lt15-via-else-t-lt15+then-source-t w ↦ seen_under s.outside s.columns s.rows a.src.now (k + a.a) a.t (omega arith) (omega arith)
    ]))

pub returns : goal.returns
returns c =
    let a = c.args in
    let s = a.source in
    let q = (a.t - 15) * s.columns in
    let room = rows_apart s.columns (a.t - 15) s.rows (omega arith) in
    let n : length (mid_of q (q + s.columns - q) a.src.now)
    ≡ s.columns = mid_len q (q + s.columns) a.src.now (omega (arith, room, mul_comm s.columns s.rows)) ∙ omega arith in
    ranged_ap c.line.ensures (λ k lo hi.
    ap (λ (m : ℕ). shifted s.outside m (λ i. get_or (mid_of q (q + s.columns - q) a.src.now) i 0) (k + a.a)) n
    ∙ seen_line s.outside s.columns s.rows a.src.now (k + a.a) a.t (λ i. get_or (mid_of q (q + s.columns - q) a.src.now) i 0)
    (omega arith) (omega arith) (omega arith)
    (λ i l. get_d_mid 0 q (q + s.columns - q) a.src.now i (omega arith)))
