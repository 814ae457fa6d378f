-- Above and below the picture all cells are filled; else the row is a row of bytes.
use mathlib.Core.Path.{◌≡◌, refl, sym, ap, ◌∙◌}
use Prim.Native.Nat.{ℕ, ◌+◌, ◌*◌, ◌/◌, ◌%◌, ◌-◌}
use lib.ListN.{length}
use borrow.Rule.Slice.PartMut.{mid_of, mid_len}
use Rattle.ranges.proofs.Ranges.{ranged_ap}
use Rattle.cuts.specs.Cuts.{shifted}
use Rattle.cuts.proofs.CutRows.{seen_above, seen_under, seen_line}
use Rattle.planes.specs.Planes.{plane_cells}
use Rattle.planes.proofs.OnGrids.{held_size}
use Rattle.plane_unpack_steps.proofs.HeldRows.{row_fits, held_pair}
use Rattle.plane_unpack_steps.specs.Pairs.{pair_bit}
use native.Mathlib.Omega.{arith}
use Rattle.plane_unpack_steps.proofs.lines.across.Goals as goal
use Rattle.plane_unpack_steps.proofs.lines.across.Goals.{then-t-lt15-via-then-t-lt15, then-t-lt15-via-else-t-lt15+then-plane-t}

pub returns-then-t-lt15 : goal.returns-then-t-lt15
returns-then-t-lt15 c =
    let a = c.args in
    let v = a.plane in
    let p = plane_cells a.o v.columns v.rows a.src.now in
    ranged_ap c.fill.ensures (λ k lo hi. sym (elim c.then-t-lt15.branch [
      | then-t-lt15-via-then-t-lt15 w ↦ seen_above v.outside v.columns v.rows p (k + a.a) a.t (omega arith)
      | then-t-lt15-via-else-t-lt15+then-plane-t w ↦ seen_under v.outside v.columns v.rows p (k + a.a) a.t (omega arith) (omega arith)
    ]))

pub returns : goal.returns
returns c =
    let a = c.args in
    let v = a.plane in
    let y = a.t - 15 in
    let C = v.columns in
    let q = (y / 8 + 1) * (C + 2) + 2 in
    let row = mid_of q (q + C - q) a.src.now in
    let more = mid_of (a.o + q) (a.o + q + C - (a.o + q)) a.src.now in
    let n : length row ≡ C = mid_len q (q + C) a.src.now (omega (arith, row_fits C v.rows y (omega arith))) ∙ omega arith in
    ranged_ap c.line.ensures (λ k lo hi.
    ap (λ (m : ℕ). shifted v.outside m (pair_bit row more (y % 8)) (k + a.a)) n
    ∙ seen_line v.outside C v.rows (plane_cells a.o C v.rows a.src.now) (k + a.a) a.t (pair_bit row more (y % 8))
    (omega (arith, held_size a.o C v.rows a.src.now)) (omega arith) (omega arith)
    (λ i l. held_pair a.o C v.rows a.src.now q y i refl l (omega arith)))
