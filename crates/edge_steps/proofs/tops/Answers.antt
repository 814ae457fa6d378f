use mathlib.Core.List.{List}
use Rattle.rows.proofs.Sums.{zero_at}
use mathlib.Core.Path.{◌≡◌, sym, subst}
use Prim.Native.Nat.{ℕ, ◌+◌}
use lib.ListN.{get_or}
use Rattle.rows.proofs.Known.{rows16}
use Rattle.rows.proofs.RowBits.{bit_in}
use Rattle.edges.specs.Numbers.{Topped}
use Rattle.edges.proofs.Greatest.{topped_none, topped_skip, topped_row}
use native.Mathlib.Omega.{arith}
use Rattle.edge_steps.proofs.tops.Goals.{then-row-ne0, else-row-ne0}
use Rattle.edge_steps.proofs.tops.Goals as goal

pub loop-y-init : goal.loop-y-init
loop-y-init c = λ i l. subst (Topped i c.args.cells 0) (sym (zero_at 16 i)) (topped_none i c.args.cells)

pub raised-next-requires : goal.raised-next-requires
raised-next-requires c =
    let at-loop = c in
    let y = at-loop.loop-y.y in
    let words = (rows16 at-loop.args.cells _ at-loop.well_formed.0).words y in (
      omega (arith, bit_in 16 _ _ words (c.first_in.ensures.some (omega arith)).cell),
      (omega (arith, bit_in 16 _ _ words c.last_in.ensures.cell), omega arith),
    )

pub loop-y-preserved : goal.loop-y-preserved
loop-y-preserved c =
    let h = c.loop-y in
    let cells = c.args.cells in
    let y = h.y in
    elim c.if-row-ne0.branch [
      | then-row-ne0 w ↦ λ i l. subst (λ (s : List ℕ). Topped i cells (y + 1) (get_or s i 0)) (sym w.s-is)
          (topped_row i cells l y _ _ (w.first_in.ensures.some (omega (arith, w.if-row-ne0.true))) w.last_in.ensures _ _ (h.invariant i l) (w.raised-next.ensures i l))
      | else-row-ne0 w ↦ λ i l. subst (λ (s : List ℕ). Topped i cells (y + 1) (get_or s i 0)) (sym w.s-is) (topped_skip i cells y _ w.if-row-ne0.false (h.invariant i l))
    ]

pub returns : goal.returns
returns c =
    let h = c.loop-y in
    let e : h.y ≡ c.args.n = omega arith in
    λ i l. subst (λ (k : ℕ). Topped i c.args.cells k (get_or h.s i 0)) e (h.invariant i l)
