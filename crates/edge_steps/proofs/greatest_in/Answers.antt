-- The row's values, raised over no value, are its greatest.
use mathlib.Core.Logic.{⊎_elim}
use Rattle.rows.proofs.RowBits.{bit_in}
use Rattle.rows.proofs.Sums.{zero_at}
use Rattle.edges.proofs.Greatest.{raised_none, row_topped}
use native.Mathlib.Omega.{arith}
use Rattle.edge_steps.proofs.greatest_in.Goals as goal

pub returns-then-row-eq0 : goal.returns-then-row-eq0
returns-then-row-eq0 c =
    record {
      some = λ i l p q. ⊎_elim (λ e. absurd (omega arith)) (λ e. absurd (omega arith)) c.then-row-eq0.either;
      none = λ e i. zero_at 16 i;
    }

pub raised-requires : goal.raised-requires
raised-requires c = (
  omega (arith, bit_in 16 _ _ (omega arith) (c.first_in.ensures.some (omega arith)).cell),
  (omega (arith, bit_in 16 _ _ (omega arith) c.last_in.ensures.cell), omega arith),
)

pub returns : goal.returns
returns c =
    let f = c.first_in.ensures.some (omega arith) in
    let first = bit_in 16 _ _ (omega arith) f.cell in
    record {
      some = λ i l p q. row_topped i l _ _ _ _ f c.last_in.ensures _ (raised_none i _ _ _ _ _ l first q (zero_at 16 i) (c.raised.ensures i l));
      none = λ e i. absurd (⊎_elim (λ z. omega arith) (λ z. omega arith) e);
    }
