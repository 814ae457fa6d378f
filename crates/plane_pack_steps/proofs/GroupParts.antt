-- A part of the bytes, into which rows of a part of the cells are put.
use mathlib.Core.Path.{◌≡◌, ap, ◌∙◌, subst}
use mathlib.Core.Logic.{⊎_elim}
use mathlib.Core.Bool.{Bool, cond}
use mathlib.Core.List.{List}
use Prim.Native.Nat.{ℕ, ◌+◌, ◌-◌, ◌*◌, min, ◌<◌, ◌≤◌}
use native.Mathlib.Nat.{zero-add}
use native.Mathlib.Omega.{arith}
use lib.Dec.{ltb}
use lib.ListN.{length, get_or}
use borrow.Author.Tests.{lt-ltb, le-ltb}
use borrow.Rule.Slice.PartMut.{mid_of, put_mid, mid_len}
use Rattle.plane.proofs.Tests.{lt_or_le}
use Rattle.rows.specs.Cells.{bit}
use Rattle.ranges.proofs.Ranges.{get_d_mid}
use Rattle.ranges.proofs.FlatRows.{rows_apart}
use Rattle.planes.proofs.Bitting.{bitted_part}
use Rattle.planes.specs.Bits.{level_bit}
use Rattle.plane_group_steps.specs.Groups.{group_bit, RowsGrouped, top_bit, RowTopped}
use Rattle.plane_group_steps.proofs.Fits.{group_done}
use Rattle.plane_group_steps.proofs.TopRow.{top_done}
use Rattle.plane_pack_steps.specs.Packing.{GroupPut, LeadPut}

-- a part of the bytes that has a part of the cells
pub group_put : (some : Bool) (w a p q v : ℕ) (f d : List ℕ) {b : Bool} {ys : List ℕ} (r : ℕ) → w ≤ 65535 → r ≡ min a 8 → p + w ≤ length d
    → q + r * w ≤ length f
    → RowsGrouped some w r v (mid_of q (q + r * w - q) f) (mid_of p (p + w - p) d) b ys → GroupPut some w a p q v f d (put_mid p (p + w - p) d ys)
group_put some w a p q v f d r hw e hd hf g =
    let n = mid_len p (p + w) d hd in
    let m = mid_len q (q + r * w) f hf in
    let u = group_done some w r v (mid_of q (q + r * w - q) f) (mid_of p (p + w - p) d) (omega arith) (omega arith) hw (omega arith) g in
    let b = bitted_part {a = p} {e = p + w} {xs = d} (omega arith) hd u in record {
      len = b.len;
      at = λ k i lk li.
          let z : p + k - p ≡ k = omega arith in
          b.at (p + k) i (omega arith) (omega arith) li
          ∙ ap (λ (n : ℕ). group_bit some (mid_of q (q + r * w - q) f) w r v n i) z
          ∙ subst (λ (n : ℕ). group_bit some (mid_of q (q + r * w - q) f) w r v k i ≡ cond (ltb i n) (level_bit some (get_or f (q + (i * w + k)) 0))
          (bit v (i - n))) e
          (cells k i lk);
      below = b.below;
      above = b.above;
    }
  where
    cells : (k i : ℕ) → k < w
        → group_bit some (mid_of q (q + r * w - q) f) w r v k i ≡ cond (ltb i r) (level_bit some (get_or f (q + (i * w + k)) 0)) (bit v (i - r))
    cells k i lk = ⊎_elim
        (λ (u : i < r).
        let l = rows_apart w i r u in
        rw (lt-ltb i r u) (ap (level_bit some) (get_d_mid 0 q (q + r * w - q) f (i * w + k) (omega arith))))
        (λ (u : r ≤ i). rw (le-ltb i r u))
        (lt_or_le i r)

-- the same of one row in bit 7
pub lead_put : (some : Bool) (w p v : ℕ) (f d : List ℕ) {b : Bool} {ys : List ℕ} → p + w ≤ length d → w ≤ length f
    → v ≤ 1 → RowTopped some v (mid_of 0 (w - 0) f) (mid_of p (p + w - p) d) b ys → LeadPut some w p v f d (put_mid p (p + w - p) d ys)
lead_put some w p v f d hd hf hv g =
    let n = mid_len p (p + w) d hd in
    let m = mid_len 0 w f hf in
    let u = top_done some v (mid_of 0 (w - 0) f) (mid_of p (p + w - p) d) (omega arith) hv g in
    let b = bitted_part {a = p} {e = p + w} {xs = d} (omega arith) hd u in record {
      len = b.len;
      at = λ k i lk li.
          let z : p + k - p ≡ k = omega arith in
          b.at (p + k) i (omega arith) (omega arith) li
          ∙ ap (λ (n : ℕ). top_bit some (mid_of 0 (w - 0) f) v n i) z
          ∙ ap (λ (n : ℕ). cond (ltb i 7) v (level_bit some n)) (get_d_mid 0 0 (w - 0) f k (omega arith) ∙ ap (λ (n : ℕ). get_or f n 0) (zero-add k));
      below = b.below;
      above = b.above;
    }
