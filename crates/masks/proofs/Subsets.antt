-- Every subset of the 3×3 square is a mask below 512: a chain whose members are masks leaves none out.
use mathlib.Core.Path.{◌≡◌, sym, subst}
use mathlib.Core.Logic.{◌↔◌}
use mathlib.Core.Bool.{Bool}
use mathlib.Core.List.{map}
use Prim.Native.Nat.{ℕ, ◌+◌, ◌*◌, ◌/◌, ◌%◌, ◌<◌}
use native.Mathlib.Nat.{zero-add}
use native.Mathlib.Omega.{arith}
use lib.Dec.{T}
use Rattle.plane.specs.Lists.{In, bits, packed}
use Rattle.plane.specs.Point.{Cell}
use Rattle.plane.proofs.Bits.{packed_below, bits_packed}
use Rattle.plane.proofs.Member.{In-map}
use Rattle.masks.specs.Mask.{mask_cells}
use Rattle.masks.proofs.Cells.{pair}

-- the mask with the cells (i, j), i and j from 0 to 2, that pass the test f
pub every_subset : (f : ℕ → ℕ → Bool) → (m : ℕ) × (m < 512) × ((c : Cell) → In (mask_cells m) c ↔ ((c.0 < 3) × (c.1 < 3) × T (f c.0 c.1)))
unfolding mask_cells
every_subset f = (m, packed_below b 0 9, λ c. (to c, from c))
  where
    b : ℕ → Bool
    b k = f (k % 3) (k / 3)

    m : ℕ
    m = packed b 0 9

    bit : (k : ℕ) → In (bits 9 m) k ↔ ((k < 9) × T (b k))
    bit k = subst (λ w. In (bits 9 w) k ↔ ((k < 9) × T (b k))) (zero-add m) (bits_packed b 9 0 k)

    to : (c : Cell) → In (map (λ k. (k % 3, k / 3)) (bits 9 m)) c → (c.0 < 3) × (c.1 < 3) × T (f c.0 c.1)
    to c h =
        let r = (In-map (λ k. (k % 3, k / 3)) (bits 9 m) c).0 h in
        let s = (bit r.0).0 r.1 in
        let l = s.0 in
        subst (λ z. (z.0 < 3) × (z.1 < 3) × T (f z.0 z.1)) (sym r.2) (omega arith, omega arith, s.1)

    from : (c : Cell) → (c.0 < 3) × (c.1 < 3) × T (f c.0 c.1) → In (map (λ k. (k % 3, k / 3)) (bits 9 m)) c
    from c h =
        let i = c.0 in
        let j = c.1 in
        let p = h.0 in
        let q = h.1 in
        let x : (3 * j + i) % 3 ≡ i = omega arith in
        let y : (3 * j + i) / 3 ≡ j = omega arith in
        let l : 3 * j + i < 9 = omega arith in
        let t : T (b (3 * j + i)) = subst (λ a. T (f a ((3 * j + i) / 3))) (sym x) (subst (λ a. T (f i a)) (sym y) h.2) in
        (In-map (λ k. (k % 3, k / 3)) (bits 9 m) c).1 (3 * j + i, (bit (3 * j + i)).1 (l, t), pair (sym x) (sym y))
