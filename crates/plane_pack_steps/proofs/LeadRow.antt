-- The first row of a frame that stands at row 15 of the plane: it ends a row of bytes, whose other rows have the value outside.
use mathlib.Core.Path.{◌≡◌, sym, ap, ◌∙◌, subst}
use mathlib.Core.Logic.{⊎_elim}
use mathlib.Core.Bool.{Bool, true, false, cond}
use mathlib.Core.List.{List}
use Prim.Native.Nat.{ℕ, ◌+◌, ◌-◌, ◌*◌, ◌/◌, ◌%◌, ◌<◌, ◌≤◌, zero-le}
use native.Mathlib.Nat.{mul_comm, mul-le-mul_right}
use native.Mathlib.Omega.{arith}
use lib.Dec.{T, ltb}
use lib.ListN.{length, get_or}
use borrow.Author.Tests.{lt-ltb, le-ltb}
use Rattle.plane.proofs.Tests.{lt_or_le}
use Rattle.rows.specs.Cells.{bit}
use Rattle.ranges.proofs.FlatRows.{rows_apart}
use Rattle.ranges.proofs.Values.{value_in}
use Rattle.planes.specs.Bits.{level_bit}
use Rattle.planes.specs.Planes.{byte_rows, plane_size, bit_seen, level_bits, place_of, PlaneOnly, FramePacked}
use Rattle.planes.proofs.OnGrids.{level_at, level_size}
use Rattle.planes.proofs.Views.{in_both, out_above, out_side}
use Rattle.plane_pack_steps.specs.Packing.{LeadPut, lead_of, framed, Until, Packable}
use Rattle.plane_pack_steps.proofs.PackRows.{Filled, until_none, until_all, same_seen, filled_only}

-- ---- in the plane

module _ (some : Bool) (v W H C R : ℕ) (f d d' : List ℕ) (hw : W + 15 ≤ C) (hH : 1 ≤ H) (hR : H + 15 ≤ R) (fits : W * H ≤ length f)
    (u : Until some v 15 W H C R 0 f d) (b : LeadPut some W (2 * (C + 2) + 17) v f d d') where
  module _ (x z : ℕ) (lx : x < C + 4) (lz : z < byte_rows R * 8 + 16) where
    abbrev was : ℕ
    was = cond (ltb z (0 + (8 + 15))) (framed some v 15 W H f x z) v

    abbrev is : ℕ
    is = cond (ltb z (1 + (8 + 15))) (framed some v 15 W H f x z) v

    before : z / 8 * (C + 2) + x < 2 * (C + 2) + 17 → bit_seen (C + 2) d' x z ≡ was
    before l = same_seen (C + 2) d d' x z (b.below (z / 8 * (C + 2) + x) l) ∙ u.at x z lx lz

    after : 2 * (C + 2) + 17 + W ≤ z / 8 * (C + 2) + x → bit_seen (C + 2) d' x z ≡ was
    after l = same_seen (C + 2) d d' x z (b.above (z / 8 * (C + 2) + x) l) ∙ u.at x z lx lz

    -- rows of other bytes
    rows_above : z < 16 → bit_seen (C + 2) d' x z ≡ is
    rows_above l =
        let a = rows_apart (C + 2) (z / 8) 2 (omega arith) in
        before (omega arith) ∙ rw (lt-ltb z (0 + (8 + 15)) (omega arith), lt-ltb z (1 + (8 + 15)) (omega arith))

    rows_below : 24 ≤ z → bit_seen (C + 2) d' x z ≡ is
    rows_below l =
        let a = rows_apart (C + 2) 2 (z / 8) (omega arith) in
        after (omega arith) ∙ rw (le-ltb z (0 + (8 + 15)) (omega arith), le-ltb z (1 + (8 + 15)) (omega arith))

    module _ (lo : 16 ≤ z) (hi : z < 24) where
      row : z / 8 * (C + 2) ≡ 2 * (C + 2)
      row = let e : z / 8 ≡ 2 = omega arith in ap (λ (n : ℕ). n * (C + 2)) e

      -- beside the frame all is as outside
      beside : (17 ≤ x → x < W + 17 → ⊥) → bit_seen (C + 2) d' x z ≡ was → bit_seen (C + 2) d' x z ≡ is
      beside n e = e ∙ ⊎_elim
          (λ (l : z < 23). ap above (lt-ltb z (0 + (8 + 15)) (omega arith)) ∙ sym (ap above (lt-ltb z (1 + (8 + 15)) (omega arith))))
          (λ (l : 23 ≤ z).
          ap above (le-ltb z (0 + (8 + 15)) (omega arith)) ∙ sym (out_side (2 + 15) (8 + 15) v W H (level_bits some f) x z (omega arith) n)
          ∙ sym (ap above (lt-ltb z (1 + (8 + 15)) (omega arith))))
          (lt_or_le z 23)
        where
          above : Bool → ℕ
          above t = cond t (framed some v 15 W H f x z) v

      inside : 17 ≤ x → x < W + 17 → bit_seen (C + 2) d' x z ≡ is
      unfolding bit_seen
      inside w w' =
          ap (λ (n : ℕ). bit (get_or d' n 0) (z % 8)) index ∙ b.at (x - 17) (z % 8) (omega arith) (omega arith) ∙ cell
          ∙ rw (lt-ltb z (1 + (8 + 15)) (omega arith))
        where
          index : z / 8 * (C + 2) + x ≡ 2 * (C + 2) + 17 + (x - 17)
          index = omega (arith, row)

          cell : cond (ltb (z % 8) 7) v (level_bit some (get_or f (x - 17) 0)) ≡ framed some v 15 W H f x z
          cell = ⊎_elim
              (λ (l : z < 23). rw (lt-ltb (z % 8) 7 (omega arith)) (sym (out_above (2 + 15) (8 + 15) v W H (level_bits some f) x z (omega arith))))
              (λ (l : 23 ≤ z).
              let e : x - 17 ≡ (z - (8 + 15)) * W + (x - (2 + 15)) = first in
              rw (le-ltb (z % 8) 7 (omega arith))
              (ap (λ (n : ℕ). level_bit some (get_or f n 0)) e ∙ sym (level_at some f ((z - (8 + 15)) * W + (x - (2 + 15))))
              ∙ sym
              (in_both (2 + 15) (8 + 15) v W H (level_bits some f) x z (omega arith) (omega arith)
              ∙ value_in v (level_bits some f) W H (omega (arith, level_size some f)) (x - (2 + 15)) (z - (8 + 15)) (omega arith) (omega arith))))
              (lt_or_le z 23)
            where
              first : x - 17 ≡ (z - (8 + 15)) * W + (x - (2 + 15))
              first = ⊎_elim
                  (λ (l : z < 24). let e : z - (8 + 15) ≡ 0 = omega arith in omega (arith, ap (λ (n : ℕ). n * W) e))
                  (λ (l : 24 ≤ z). absurd (omega arith))
                  (lt_or_le z 24)

      lead_row : bit_seen (C + 2) d' x z ≡ is
      lead_row = ⊎_elim
          (λ (w : x < 17). beside (λ a c. omega arith) (before (omega (arith, row))))
          (λ (w : 17 ≤ x). ⊎_elim
          (λ (w' : x < W + 17). inside w w')
          (λ (w' : W + 17 ≤ x). beside (λ a c. omega arith) (after (omega (arith, row))))
          (lt_or_le x (W + 17)))
          (lt_or_le x 17)

    one_more : bit_seen (C + 2) d' x z ≡ is
    one_more = ⊎_elim
        (λ (l : z < 16). rows_above l)
        (λ (l : 16 ≤ z). ⊎_elim (λ (k : z < 24). lead_row l k) (λ (k : 24 ≤ z). rows_below k) (lt_or_le z 24))
        (lt_or_le z 16)

  pub until_lead : Until some v 15 W H C R 1 f d'
  until_lead = record { at = one_more }

-- the row stands within the plane
pub lead_fits : {v W H C R : ℕ} {f d : List ℕ} → Packable v true W H C R f d → 1 ≤ H
    → (2 * (C + 2) + 17 + W ≤ plane_size C R) × (W ≤ length f) × (plane_size C R ≤ length d)
lead_fits {W = W} {H} {C} {R} k h =
    let a : 3 * (C + 2) ≤ (byte_rows R + 2) * (C + 2) = mul-le-mul_right (C + 2) (let l = k.high in omega arith) in
    let b : 1 * W ≤ H * W = mul-le-mul_right W h in
    (let l = k.wide in omega arith, omega (arith, mul_comm W H, k.cells), k.room)

-- ---- from the plane of one value to the groups

-- a frame goes into a plane as long as another that it goes into
as_long : {v : ℕ} {far : Bool} {W H C R : ℕ} {f d d' : List ℕ} → Packable v far W H C R f d → length d' ≡ length d → Packable v far W H C R f d'
as_long k e = record {
  wide = k.wide;
  high = k.high;
  columns = k.columns;
  rows = k.rows;
  around = k.around;
  cells = k.cells;
  room = omega (arith, k.room, e);
}

lead_only : {some : Bool} {v W H C R : ℕ} {f d d₁ d₂ : List ℕ} → Packable v true W H C R f d → 1 ≤ H → LeadPut some W (2 * (C + 2) + 17) v f d₁ d₂
    → PlaneOnly C R d₁ d₂
lead_only k h b = record { len = b.len; past = λ j u. b.above j (let l = (lead_fits k h).0 in omega arith) }

-- what the groups begin with
pub record Begun (some : Bool) (v : ℕ) (far : Bool) (W H C R : ℕ) (f d d₁ : List ℕ) : Type 0 where
  pub packs : Packable v far W H C R f d₁
  pub leads : lead_of far ≤ H
  pub shown : Until some v (place_of far) W H C R (lead_of far) f d₁
  pub kept : PlaneOnly C R d d₁

module _ (some : Bool) {v : ℕ} {far : Bool} {W H C R : ℕ} {f d : List ℕ} (k : Packable v far W H C R f d) {d₁ : List ℕ} (r : Filled v C R d d₁) where
  -- a frame without a row
  pub none_packed : H ≡ 0 → FramePacked some v far W H C R f d d₁
  none_packed e = record {
    kept = filled_only v C R r;
    shown = until_all some v far W H C R f 0 (omega arith) (omega (arith, r.len, k.room)) (until_none some v (place_of far) W H C R f k.around r);
  }

-- at the plane's own cell (0, 0)
pub begun_near : (some far : Bool) {v W H C R : ℕ} {f d d₁ : List ℕ} → far ≡ false → Packable v far W H C R f d → Filled v C R d d₁
    → Begun some v far W H C R f d d₁
begun_near some false {v} {W} {H} {C} {R} {f} e k r = record {
  packs = as_long k r.len;
  leads = zero-le;
  shown = until_none some v 0 W H C R f k.around r;
  kept = filled_only v C R r;
}
begun_near some true e k r = absurd (subst T e tt)

-- at (15, 15): the first row is put first
pub begun_far : (some far : Bool) {v W H C R : ℕ} {f d d₁ d₂ : List ℕ} → far ≡ true → Packable v far W H C R f d → 1 ≤ H → Filled v C R d d₁
    → LeadPut some W (2 * (C + 2) + 17) v f d₁ d₂ → Begun some v far W H C R f d d₂
begun_far some true {v} {W} {H} {C} {R} {f} {d} {d₁} {d₂} e k h r b = record {
  packs = as_long k (b.len ∙ r.len);
  leads = h;
  shown = until_lead some v W H C R f d₁ d₂ k.wide h k.high k.cells (until_none some v 15 W H C R f k.around r) b;
  kept = record { len = b.len ∙ r.len; past = λ j u. (lead_only k h b).past j u ∙ (filled_only v C R r).past j u };
}
begun_far some false e k h r b = absurd (subst T (sym e) tt)
