-- Eight rows in two halves of the bytes, which overlap.
use mathlib.Core.Path.{◌≡◌, ap, ◌∙◌}
use mathlib.Core.Bool.{Bool}
use mathlib.Core.List.{List}
use Prim.Native.Nat.{ℕ, ◌+◌, ◌-◌, ◌*◌, ◌/◌, ◌≤◌, zero-le}
use native.Mathlib.Nat.{mul-le-mul_right}
use native.Mathlib.Omega.{arith}
use lib.ListN.{length, get_or}
use borrow.Rule.Slice.PartMut.{mid_of, put_mid}
use Rattle.ranges.proofs.Ranges.{get_d_mid}
use Rattle.planes.specs.Bits.{level_bit}
use Rattle.planes.specs.Bytes.{Bitted}
use Rattle.planes.proofs.Bitting.{bitted_ap, bitted_part, bitted_lap}
use Rattle.plane_eight_steps.specs.Eights.{eight_bit}

-- a whole number of 16 bytes that is at least the half of n, and no more than n
pub half_of : (n : ℕ) → 32 ≤ n → ((n - n / 2 + 15) / 16 * 16 ≤ n) × (n ≤ (n - n / 2 + 15) / 16 * 16 + (n - n / 2 + 15) / 16 * 16)
half_of n l = (omega arith, omega arith)

-- the first h bytes and the last h are all
pub halves_made : (some : Bool) (w h : ℕ) (s d : List ℕ) {y₁ y₂ : List ℕ} → h ≤ length d → length d ≤ h + h → 7 * w + length d ≤ length s
    → Bitted 0 (length (mid_of 0 (h - 0) d)) (eight_bit some s w) (mid_of 0 (h - 0) d) y₁
    → Bitted 0 (length (mid_of (length d - h) (length d - (length d - h)) (put_mid 0 (h - 0) d y₁)))
    (eight_bit some (mid_of (length d - h) (length s - (length d - h)) s) w)
    (mid_of (length d - h) (length d - (length d - h)) (put_mid 0 (h - 0) d y₁)) y₂
    → Bitted 0 (length d) (eight_bit some s w) d (put_mid (length d - h) (length d - (length d - h)) (put_mid 0 (h - 0) d y₁) y₂)
halves_made some w h s d l u fits f₁ f₂ =
    let n = length d in
    let r = bitted_ap (bitted_part {a = 0} {e = h} {xs = d} zero-le l f₁)
    (λ k q lo hi lq. let e : k - 0 ≡ k = omega arith in ap (λ (i : ℕ). level_bit some (get_or s (q * w + i) 0)) e) in
    let t = bitted_ap (bitted_part {a = n - h} {e = n} (omega arith) (omega (arith, r.len)) f₂)
    (λ k q lo hi lq.
    let e : n - h + (q * w + (k - (n - h))) ≡ q * w + k = omega arith in
    let m = mul-le-mul_right {m = q} {n = 7} w (omega arith) in
    ap (level_bit some) (get_d_mid 0 (n - h) (length s - (n - h)) s (q * w + (k - (n - h))) (omega arith) ∙ ap (λ (i : ℕ). get_or s i 0) e)) in
    bitted_lap r t (omega arith) l
