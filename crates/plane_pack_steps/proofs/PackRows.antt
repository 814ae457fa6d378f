-- A frame packed group by group: after the rows below y, the plane shows the frame in them, and the value outside in all others.
use mathlib.Core.Path.{◌≡◌, sym, ap, ap₂, ◌∙◌}
use mathlib.Core.Logic.{⊎_elim}
use mathlib.Core.Bool.{Bool, true, false, cond}
use mathlib.Core.List.{List}
use Prim.Native.Nat.{ℕ, ◌+◌, ◌-◌, ◌*◌, ◌/◌, ◌%◌, min, ◌<◌, ◌≤◌}
use native.Mathlib.Nat.{add-mul, mul_comm, mul-le-mul_right}
use native.Mathlib.Omega.{arith}
use lib.Dec.{ltb}
use lib.IntN.{ℤ, pos, neg_ℤ, ◌+ℤ◌, ◌-ℤ◌, +ℤ_assoc}
use lib.ListN.{length, get_or}
use borrow.Author.Tests.{lt-ltb, le-ltb}
use Rattle.plane.specs.Point.{◌+ᵖ◌, negᵖ, ◌-ᵖ◌}
use Rattle.plane.proofs.Tests.{lt_or_le}
use Rattle.grids.specs.Image.{view, value_at}
use Rattle.rows.specs.Cells.{bit}
use Rattle.ranges.specs.Ranges.{Ranged}
use Rattle.ranges.proofs.FlatRows.{rows_apart}
use Rattle.ranges.proofs.Sizing.{product_le}
use Rattle.ranges.proofs.Values.{value_in}
use Rattle.planes.specs.Bits.{level_bit}
use Rattle.planes.specs.Planes.{byte_rows, plane_size, bit_seen, Shows, level_bits, place_of, PlaneOnly, FramePacked}
use Rattle.planes.proofs.WholeBytes.{one_value}
use Rattle.planes.proofs.Views.{in_both, out_above, out_side, out_under}
use Rattle.planes.proofs.OnGrids.{level_at, level_size}
use Rattle.planes.proofs.Sizing.{size_small}
use Rattle.plane_pack_steps.specs.Packing.{GroupPut, framed, Until, Packable}

-- where the plane counts a cell of the frame
at_place : (far : Bool) (x : ℕ) → (pos x -ℤ pos 2) +ℤ neg_ℤ (pos (place_of far)) ≡ pos x -ℤ pos (2 + place_of far)
at_place false x = +ℤ_assoc (pos x) (neg_ℤ (pos 2)) (pos 0)
at_place true x = +ℤ_assoc (pos x) (neg_ℤ (pos 2)) (neg_ℤ (pos 15))

at_row : (far : Bool) (y : ℕ) → (pos y -ℤ pos 8) +ℤ neg_ℤ (pos (place_of far)) ≡ pos y -ℤ pos (8 + place_of far)
at_row false y = +ℤ_assoc (pos y) (neg_ℤ (pos 8)) (pos 0)
at_row true y = +ℤ_assoc (pos y) (neg_ℤ (pos 8)) (neg_ℤ (pos 15))

-- a plane of one value
abbrev pub Filled : ℕ → ℕ → ℕ → List ℕ → List ℕ → Type 0
Filled v C R d d' = Ranged 0 0 (plane_size C R) (λ _. v * 255) d d'

-- the same, of as many bytes as the code counted
pub filled_by : (v C R : ℕ) {n : ℕ} {d d' : List ℕ} → n ≡ plane_size C R → Ranged 0 0 n (λ _. v * 255) d d' → Filled v C R d d'
filled_by v C R e r = record { len = r.len; at = λ k l u. r.at k l (omega arith); below = r.below; above = λ k u. r.above k (omega arith) }

module _ (some : Bool) (v s W H C R : ℕ) (f : List ℕ) where
  pub until_none : {d d' : List ℕ} → v ≤ 1 → Filled v C R d d' → Until some v s W H C R 0 f d'
  unfolding bit_seen
  until_none {d' = d'} hv r = record {
    at = λ x z lx lz.
        let a : z / 8 * (C + 2) ≤ (byte_rows R + 1) * (C + 2) = mul-le-mul_right (C + 2) (omega arith) in
        let e = r.at (z / 8 * (C + 2) + x) (omega arith) (omega (arith, add-mul (byte_rows R) 1 (C + 2), add-mul (byte_rows R) 2 (C + 2))) in
        ap (λ (n : ℕ). bit n (z % 8)) e ∙ one_value v (z % 8) hv (omega arith) ∙ ⊎_elim
        (λ (u : z < 0 + (8 + s)).
        sym (ap (λ (t : Bool). cond t (framed some v s W H f x z) v) (lt-ltb z (0 + (8 + s)) u) ∙ out_above (2 + s) (8 + s) v W H (level_bits some f) x z
        (omega arith)))
        (λ (u : 0 + (8 + s) ≤ z). sym (ap (λ (t : Bool). cond t (framed some v s W H f x z) v) (le-ltb z (0 + (8 + s)) u)))
        (lt_or_le z (0 + (8 + s)));
  }

-- all rows
pub until_all : (some : Bool) (v : ℕ) (far : Bool) (W H C R : ℕ) (f : List ℕ) (y : ℕ) {d : List ℕ} → H ≤ y → plane_size C R ≤ length d
    → Until some v (place_of far) W H C R y f d
    → Shows C R (λ p. view v W H (level_bits some f) (p -ᵖ (pos (place_of far), pos (place_of far)))) d
unfolding ◌+ᵖ◌ negᵖ
until_all some v far W H C R f y h l u = record {
  size = l;
  at = λ x z lx lz.
      u.at x z lx lz ∙ ⊎_elim
      (λ (t : z < y + (8 + place_of far)). rw (lt-ltb z (y + (8 + place_of far)) t))
      (λ (t : y + (8 + place_of far) ≤ z). rw (le-ltb z (y + (8 + place_of far)) t)
      (sym (out_under (2 + place_of far) (8 + place_of far) v W H (level_bits some f) x z (omega arith))))
      (lt_or_le z (y + (8 + place_of far)))
      ∙ sym (ap₂ (λ (a b : ℤ). value_at v W H (level_bits some f) a b) (at_place far x) (at_row far z));
}

-- a byte that is the same shows the same
pub same_seen : (s : ℕ) (d d' : List ℕ) (x z : ℕ) → get_or d' (z / 8 * s + x) 0 ≡ get_or d (z / 8 * s + x) 0 → bit_seen s d' x z ≡ bit_seen s d x z
unfolding bit_seen
same_seen s d d' x z e = ap (λ (n : ℕ). bit n (z % 8)) e

-- one group more
module _ (some : Bool) (v s W H C R y p q : ℕ) (f d d' : List ℕ) (hv : v ≤ 1) (hw : W + s ≤ C) (hy : y < H) (h8 : (y + s) % 8 ≡ 0)
    (hp : p ≡ ((y + s) / 8 + 1) * (C + 2) + (2 + s)) (hq : q ≡ y * W) (fits : W * H ≤ length f)
    (hR : H + s ≤ R) (u : Until some v s W H C R y f d) (b : GroupPut some W (H - y) p q (v * 255) f d d') where
  -- the rows of the group
  abbrev r : ℕ
  r = min (H - y) 8

  module _ (x z : ℕ) (lx : x < C + 4) (lz : z < byte_rows R * 8 + 16) where
    -- a byte before or after the group is as it was
    before : z / 8 * (C + 2) + x < p → bit_seen (C + 2) d' x z ≡ cond (ltb z (y + (8 + s))) (framed some v s W H f x z) v
    before l = same_seen (C + 2) d d' x z (b.below (z / 8 * (C + 2) + x) l) ∙ u.at x z lx lz

    after : p + W ≤ z / 8 * (C + 2) + x → bit_seen (C + 2) d' x z ≡ cond (ltb z (y + (8 + s))) (framed some v s W H f x z) v
    after l = same_seen (C + 2) d d' x z (b.above (z / 8 * (C + 2) + x) l) ∙ u.at x z lx lz

    above_rows : z < y + (8 + s) → bit_seen (C + 2) d' x z ≡ cond (ltb z (y + 8 + (8 + s))) (framed some v s W H f x z) v
    above_rows l =
        let a = rows_apart (C + 2) (z / 8) ((y + s) / 8 + 1) (omega arith) in
        before (omega arith) ∙ rw (lt-ltb z (y + (8 + s)) l, lt-ltb z (y + 8 + (8 + s)) (omega arith))

    below_rows : y + 8 + (8 + s) ≤ z → bit_seen (C + 2) d' x z ≡ cond (ltb z (y + 8 + (8 + s))) (framed some v s W H f x z) v
    below_rows l =
        let a = rows_apart (C + 2) ((y + s) / 8 + 1) (z / 8) (omega arith) in
        after (omega arith) ∙ rw (le-ltb z (y + (8 + s)) (omega arith), le-ltb z (y + 8 + (8 + s)) l)

    module _ (lo : y + (8 + s) ≤ z) (hi : z < y + 8 + (8 + s)) where
      row : z / 8 * (C + 2) ≡ ((y + s) / 8 + 1) * (C + 2)
      row = let e : z / 8 ≡ (y + s) / 8 + 1 = omega arith in ap (λ (n : ℕ). n * (C + 2)) e

      beside : (2 + s ≤ x → x < W + (2 + s) → ⊥) → bit_seen (C + 2) d' x z ≡ cond (ltb z (y + 8 + (8 + s))) (framed some v s W H f x z) v
      beside n =
          was ∙ rw (le-ltb z (y + (8 + s)) lo, lt-ltb z (y + 8 + (8 + s)) hi) (sym (out_side (2 + s) (8 + s) v W H (level_bits some f) x z (omega arith) n))
        where
          was : bit_seen (C + 2) d' x z ≡ cond (ltb z (y + (8 + s))) (framed some v s W H f x z) v
          was = ⊎_elim
              (λ (w : x < 2 + s). before (omega (arith, row)))
              (λ (w : 2 + s ≤ x). ⊎_elim
              (λ (w' : x < W + (2 + s)). absurd (n w w'))
              (λ (w' : W + (2 + s) ≤ x). after (omega (arith, row)))
              (lt_or_le x (W + (2 + s))))
              (lt_or_le x (2 + s))

      module _ (w : 2 + s ≤ x) (w' : x < W + (2 + s)) where
        index : z / 8 * (C + 2) + x ≡ p + (x - (2 + s))
        index = omega (arith, row)

        cell : z % 8 < r → level_bit some (get_or f (q + (z % 8 * W + (x - (2 + s)))) 0) ≡ framed some v s W H f x z
        cell l =
            let g : z - (8 + s) ≡ y + z % 8 = omega arith in
            let e : q + (z % 8 * W + (x - (2 + s))) ≡ (z - (8 + s)) * W + (x - (2 + s)) = omega (arith, add-mul y (z % 8) W, ap (λ (n : ℕ). n * W) g) in
            ap (λ (n : ℕ). level_bit some (get_or f n 0)) e
            ∙ sym (level_at some f ((z - (8 + s)) * W + (x - (2 + s))))
            ∙ sym
            (in_both (2 + s) (8 + s) v W H (level_bits some f) x z w (omega arith)
            ∙ value_in v (level_bits some f) W H (omega (arith, level_size some f)) (x - (2 + s)) (z - (8 + s)) (omega arith) (omega arith))

        -- above the frame's last row stands the value outside
        grouped : cond (ltb (z % 8) r) (level_bit some (get_or f (q + (z % 8 * W + (x - (2 + s)))) 0)) (bit (v * 255) (z % 8 - r)) ≡ framed some v s W H f x z
        grouped = ⊎_elim
            (λ (l : z % 8 < r). rw (lt-ltb (z % 8) r l) (cell l))
            (λ (l : r ≤ z % 8). rw (le-ltb (z % 8) r l)
            (one_value v (z % 8 - r) hv (omega arith) ∙ sym (out_under (2 + s) (8 + s) v W H (level_bits some f) x z (omega arith))))
            (lt_or_le (z % 8) r)

        inside : bit_seen (C + 2) d' x z ≡ cond (ltb z (y + 8 + (8 + s))) (framed some v s W H f x z) v
        unfolding bit_seen
        inside =
            ap (λ (n : ℕ). bit (get_or d' n 0) (z % 8)) index ∙ b.at (x - (2 + s)) (z % 8) (omega arith) (omega arith) ∙ grouped
            ∙ rw (lt-ltb z (y + 8 + (8 + s)) hi)

    group_row : (lo : y + (8 + s) ≤ z) → (hi : z < y + 8 + (8 + s)) → bit_seen (C + 2) d' x z ≡ cond (ltb z (y + 8 + (8 + s))) (framed some v s W H f x z) v
    group_row lo hi = ⊎_elim
        (λ (w : x < 2 + s). beside lo hi (λ a c. omega arith))
        (λ (w : 2 + s ≤ x). ⊎_elim
        (λ (w' : x < W + (2 + s)). inside lo hi w w')
        (λ (w' : W + (2 + s) ≤ x). beside lo hi (λ a c. omega arith))
        (lt_or_le x (W + (2 + s))))
        (lt_or_le x (2 + s))

    one_more : bit_seen (C + 2) d' x z ≡ cond (ltb z (y + 8 + (8 + s))) (framed some v s W H f x z) v
    one_more = ⊎_elim
        (λ (l : z < y + (8 + s)). above_rows l)
        (λ (l : y + (8 + s) ≤ z). ⊎_elim
        (λ (k : z < y + 8 + (8 + s)). group_row l k)
        (λ (k : y + 8 + (8 + s) ≤ z). below_rows k)
        (lt_or_le z (y + 8 + (8 + s))))
        (lt_or_le z (y + (8 + s)))

  pub until_more : Until some v s W H C R (y + 8) f d'
  until_more = record { at = one_more }

-- a group stands within the plane, and its cells within the frame
pub group_fits_lem : {v : ℕ} {far : Bool} {W H C R : ℕ} {f d : List ℕ} → Packable v far W H C R f d → (y : ℕ) → y < H
    → (((y + place_of far) / 8 + 1) * (C + 2) + (2 + place_of far) + W ≤ plane_size C R) × (y * W + min (H - y) 8 * W ≤ length f) × (y * W ≤ 65535 * 65535)
    × (plane_size C R ≤ 8195 * 65537 + 2)
group_fits_lem {v} {far} {W} {H} {C} {R} {f} k y hy =
    let h = k.high in
    let l = k.wide in
    let a : ((y + place_of far) / 8 + 1) * (C + 2) ≤ byte_rows R * (C + 2) = mul-le-mul_right (C + 2) (omega arith) in
    let b : (y + min (H - y) 8) * W ≤ H * W = mul-le-mul_right W (omega arith) in
    let s = size_small C R k.columns k.rows in
    let m = product_le W H (omega (arith, k.wide, k.columns)) (omega (arith, k.high, k.rows)) in (
      omega (arith, add-mul (byte_rows R) 2 (C + 2)),
      omega (arith, add-mul y (min (H - y) 8) W, mul_comm W H, k.cells),
      omega (arith, add-mul y (min (H - y) 8) W, mul_comm W H),
      omega arith,
    )

-- the rows below y of the frame f are packed: the next group's bytes begin at p, and its cells at q; d₀ is the plane before the first
abbrev pub Filling : Bool → ℕ → Bool → ℕ → ℕ → ℕ → ℕ → List ℕ → List ℕ → List ℕ → ℕ → ℕ → ℕ → Type 0
Filling some v far W H C R f d₀ d p q y =
    (y ≤ H + 7) × ((y + place_of far) % 8 ≡ 0) × (p ≡ ((y + place_of far) / 8 + 1) * (C + 2) + (2 + place_of far)) × (q ≡ y * W)
    × (plane_size C R ≤ length d) × Until some v (place_of far) W H C R y f d × PlaneOnly C R d₀ d

module _ (some : Bool) {v : ℕ} {far : Bool} {W H C R : ℕ} {f d : List ℕ} (k : Packable v far W H C R f d) where
  module _ {d₀ d₁ : List ℕ} {p q y : ℕ} (i : Filling some v far W H C R f d₀ d₁ p q y) where
    pub filling_more : {d₂ : List ℕ} → y < H → GroupPut some W (H - y) p q (v * 255) f d₁ d₂
        → Filling some v far W H C R f d₀ d₂ (p + (C + 2)) (q + 8 * W) (y + 8)
    filling_more {d₂} l b =
        let e : (y + 8 + place_of far) / 8 + 1 ≡ (y + place_of far) / 8 + 1 + 1 = omega arith in
        let g = group_fits_lem k y l in (
          omega arith,
          omega (arith, i.1),
          omega (arith, i.2, add-mul ((y + place_of far) / 8 + 1) 1 (C + 2), ap (λ (n : ℕ). n * (C + 2)) e),
          omega (arith, i.3, add-mul y 8 W),
          omega (arith, i.4, b.len),
          until_more some v (place_of far) W H C R y p q f d₁ d₂ k.around k.wide l i.1 i.2 i.3 k.cells k.high i.5 b,
          record { len = b.len ∙ i.6.len; past = λ j u. b.above j (omega (arith, i.2, g.0)) ∙ i.6.past j u },
        )

    pub filling_all : H ≤ y → FramePacked some v far W H C R f d₀ d₁
    filling_all l = record { kept = i.6; shown = until_all some v far W H C R f y l i.4 i.5 }

-- ---- before the groups

-- what the fill left is a plane
pub filled_only : (v C R : ℕ) {d d' : List ℕ} → Filled v C R d d' → PlaneOnly C R d d'
filled_only v C R r = record { len = r.len; past = λ j u. r.above j u }
