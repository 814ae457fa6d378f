use Rattle.std.proofs.Common.{◌≡◌, ℕ, ◌-◌, ◌*◌, ◌^◌, ◌%◌, ap, arith, bit_or, length-set}
use lib.ListN.{get_or}
use Rattle.rows.proofs.Fill.{fill_more}
use Rattle.rows.proofs.Shifts.{onto_made}
use Rattle.row_sum_steps.proofs.onto.Goals as goal

pub loop-y-preserved : goal.loop-y-preserved
loop-y-preserved c =
    let h = c.loop-y in
    let a = c.args in
    let before = h.invariant.1.after h.y (omega arith) in
    (simp length-set h.invariant.0, fill_more _ _ _ _ _ _ h.auto.y (omega arith) (ap (λ (n : ℕ). bit_or n (get_or a.a (h.y - a.j) 0 * 2 ^ a.i % 65536)) before) h.invariant.1)

pub returns : goal.returns
returns c = let e : c.loop-y.y ≡ 16 = omega arith in onto_made _ _ _ _ _ (rw e at c.loop-y.invariant.1)
