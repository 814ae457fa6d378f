use Rattle.std.proofs.Common.{◌≡◌, ℕ, ◌+◌, ◌/◌, ◌^◌, ◌∙◌, ap, arith, bit_and, length-set}
use lib.ListN.{get_or, length}
use Rattle.rows.proofs.Fill.{fill_more}
use Rattle.rows.proofs.Shifts.{anded, and_out, under_made}
use Rattle.row_steps.proofs.under.Goals.{then-y-j-lt16, else-y-j-lt16}
use Rattle.row_steps.proofs.under.Goals as goal

pub loop-y-preserved : goal.loop-y-preserved
loop-y-preserved c =
    let h = c.loop-y in
    let a = c.args in
    let before = h.invariant.1.after h.y (omega arith) in
    let lt : length a.t ≡ 16 = c.well_formed.1.0.1.0.1 in
    let made : c.if-y-j-lt16.r ≡ anded a.z a.t a.i a.j h.y =
    elim c.if-y-j-lt16.branch [
      | then-y-j-lt16 w ↦ w.r-is ∙ ap (λ (n : ℕ). bit_and n (get_or a.t (h.y + a.j) 0 / 2 ^ a.i)) before
      | else-y-j-lt16 w ↦ w.r-is ∙ and_out a.z a.t a.i a.j h.y (let k = w.if-y-j-lt16.false in omega arith)
    ] in
    (simp length-set h.invariant.0, fill_more _ _ _ _ _ _ (omega arith) (omega arith) made h.invariant.1)

pub returns : goal.returns
returns c = let e : c.loop-y.y ≡ 16 = omega arith in under_made _ _ _ _ c.well_formed.0.1.0.1 _ (rw e at c.loop-y.invariant.1)
