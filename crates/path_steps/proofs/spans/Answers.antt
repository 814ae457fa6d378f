-- Each of the four cells that are wanted by itself.
use mathlib.Core.Path.{◌≡◌, ap, sym, ◌∙◌}
use Prim.Native.Nat.{ℕ, ◌/◌, ◌%◌}
use Rattle.rows.specs.Cells.{bit}
use Rattle.rows.proofs.Known.{rows16}
use Rattle.rows.proofs.RowBits.{no_bit}
use Rattle.rows.proofs.Sums.{in_x, in_y}
use native.Mathlib.Omega.{arith}
use Rattle.path_steps.proofs.spans.Goals.{then-w-ge16-via-then-w-ge16, then-w-ge16-via-else-w-ge16+then-h-ge16, then-w-ge16-via-else-w-ge16+else-h-ge16+then-t-eq0, then-w-ge16-via-else-w-ge16+else-h-ge16+else-t-eq0+then-t-h-eq0}
use Rattle.path_steps.proofs.spans.Goals as goal

pub returns-then-w-ge16 : goal.returns-then-w-ge16
returns-then-w-ge16 c = λ e s.
    let k = rows16 c.args.t _ c.well_formed.0 in
    let x = in_x c.args.t k _ s.right.0 s.right.1 in
    let y = in_y c.args.t k s.high.0 _ s.high.1 in
    elim c.then-w-ge16.branch [
      | then-w-ge16-via-then-w-ge16 w ↦ omega arith
      | then-w-ge16-via-else-w-ge16+then-h-ge16 w ↦ omega arith
      | then-w-ge16-via-else-w-ge16+else-h-ge16+then-t-eq0 w ↦ no_bit s.low.0 (ap (λ (n : ℕ). bit n s.low.0) (sym w.if-t-eq0.true) ∙ s.low.1)
      | then-w-ge16-via-else-w-ge16+else-h-ge16+else-t-eq0+then-t-h-eq0 w ↦ no_bit s.high.0 (ap (λ (n : ℕ). bit n s.high.0) (sym w.if-t-h-eq0.true) ∙ s.high.1)
    ]

pub returns-else-all-eq1 : goal.returns-else-all-eq1
returns-else-all-eq1 c = λ e s.
    let l = in_y c.args.t (rows16 c.args.t _ c.well_formed.0) 0 s.left.0 s.left.1 in
    let b : c.columns-all.result / 1 % 2 ≡ 1 = c.columns-all.ensures.from 0 s.left.0 l s.left.1 in
    let n = c.if-all-eq1.false in
    omega arith
