-- A row of two planes' bytes, bit by bit, is a row of their cells.
use mathlib.Core.Path.{◌≡◌, sym, ap, ap₂, ◌∙◌}
use mathlib.Core.List.{List}
use Prim.Native.Nat.{ℕ, ◌+◌, ◌-◌, ◌*◌, ◌/◌, ◌%◌, ◌<◌, ◌≤◌}
use native.Mathlib.Nat.{add-mul, mul-le-mul_right}
use native.Mathlib.Omega.{arith}
use lib.ListN.{length, get_or, drop}
use lib.Seq.{get_or-drop}
use borrow.Rule.Slice.PartMut.{mid_of, put_mid}
use Rattle.rows.specs.Cells.{bit}
use Rattle.ranges.specs.Ranges.{Ranged}
use Rattle.ranges.proofs.Ranges.{get_d_mid, ranged_ap, ranged_part}
use Rattle.planes.specs.Bits.{of_levels}
use Rattle.planes.specs.Planes.{byte_rows, plane_size, bit_seen, plane_cells}
use Rattle.planes.proofs.OnGrids.{held_cell}
use Rattle.plane_unpack_steps.specs.Pairs.{pair_bit}

-- a row of cells stands within the plane
pub row_fits : (C R y : ℕ) → y < R → (y / 8 + 1) * (C + 2) + 2 + C ≤ plane_size C R
row_fits C R y l =
    let a : (y / 8 + 1) * (C + 2) ≤ byte_rows R * (C + 2) = mul-le-mul_right (C + 2) (omega arith) in
    omega (arith, add-mul (byte_rows R) 2 (C + 2))

-- a bit of a row of bytes is the plane's
row_bit : (C : ℕ) (p : List ℕ) (q y i : ℕ) → q ≡ (y / 8 + 1) * (C + 2) + 2 → i < C
    → bit (get_or (mid_of q (q + C - q) p) i 0) (y % 8) ≡ bit_seen (C + 2) p (i + 2) (y + 8)
unfolding bit_seen
row_bit C p q y i e l =
    let a : (y + 8) / 8 ≡ y / 8 + 1 = omega arith in
    let b : (y + 8) % 8 ≡ y % 8 = omega arith in
    let j : q + i ≡ (y + 8) / 8 * (C + 2) + (i + 2) = omega (arith, ap (λ (n : ℕ). n * (C + 2)) a) in
    ap (λ (n : ℕ). bit n (y % 8)) (get_d_mid 0 q (q + C - q) p i (omega arith) ∙ ap (λ (n : ℕ). get_or p n 0) j)
    ∙ ap (λ (n : ℕ). bit (get_or p ((y + 8) / 8 * (C + 2) + (i + 2)) 0) n) (sym b)

-- and so it is with the second plane, o bytes on
second_bit : (o C : ℕ) (p : List ℕ) (q y i : ℕ) → q ≡ (y / 8 + 1) * (C + 2) + 2 → i < C
    → bit (get_or (mid_of (o + q) (o + q + C - (o + q)) p) i 0) (y % 8) ≡ bit_seen (C + 2) (drop o p) (i + 2) (y + 8)
second_bit o C p q y i e l =
    let z : o + q + i ≡ o + (q + i) = omega arith in
    ap (λ (n : ℕ). bit n (y % 8))
    (get_d_mid 0 (o + q) (o + q + C - (o + q)) p i (omega arith) ∙ ap (λ (n : ℕ). get_or p n 0) z ∙ sym (get_or-drop o p (q + i) 0)
    ∙ sym (get_d_mid 0 q (q + C - q) (drop o p) i (omega arith)))
    ∙ row_bit C (drop o p) q y i e l

pub held_pair : (o C R : ℕ) (p : List ℕ) (q y i : ℕ) → q ≡ (y / 8 + 1) * (C + 2) + 2 → i < C → y < R
    → pair_bit (mid_of q (q + C - q) p) (mid_of (o + q) (o + q + C - (o + q)) p) (y % 8) i ≡ get_or (plane_cells o C R p) (y * C + i) 0
held_pair o C R p q y i e l u = ap₂ of_levels (row_bit C p q y i e l) (second_bit o C p q y i e l) ∙ sym (held_cell o C R p i y l u)

-- a part whose cells are bits of parts of rows that are no shorter
pub part_pairs : (j c : ℕ) (row more : List ℕ) {a e : ℕ} {xs ys : List ℕ} → length more ≡ length row → a ≤ e → e ≤ length xs → e - a ≤ length row - c
    → Ranged 0 0 (length (mid_of a (e - a) xs)) (pair_bit (mid_of c (length row - c) row) (mid_of c (length row - c) more) j) (mid_of a (e - a) xs) ys
    → Ranged 0 a e (λ k. pair_bit row more j (c + (k - a))) xs (put_mid a (e - a) xs ys)
part_pairs j c row more {a} z h g u r =
    ranged_ap (ranged_part h g r) (λ k lo hi.
    ap₂ (λ (m n : ℕ). of_levels (bit m j) (bit n j)) (get_d_mid 0 c (length row - c) row (k - a) (omega arith))
    (get_d_mid 0 c (length row - c) more (k - a) (omega arith)))
