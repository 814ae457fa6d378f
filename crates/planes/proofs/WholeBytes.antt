-- The bits of a byte of zeros, of a byte of ones, and of a byte that is moved up.
use mathlib.Core.Path.{◌≡◌, ap, ◌∙◌}
use Prim.Native.Nat.{ℕ, zero, suc, ◌+◌, ◌-◌, ◌*◌, ◌%◌, ◌^◌, ◌≤◌, ◌<◌}
use native.Mathlib.Omega.{arith}
use Rattle.rows.specs.Cells.{bit}
use Rattle.rows.proofs.RowBits.{bit_cut, bit_shl, bit_shl_low, no_bit}
use Rattle.rows.proofs.Sums.{ones16}

pub ones8 : (q : ℕ) → q < 8 → bit 255 q ≡ 1
ones8 q l = bit_cut 65535 8 q l ∙ ones16 q (omega arith)

-- a byte of one value shows it
pub one_value : (v q : ℕ) → v ≤ 1 → q < 8 → bit (v * 255) q ≡ v
one_value zero q h l = omega (arith, no_bit q)
one_value (suc zero) q h l = ones8 q l
one_value (suc (suc v)) q h l = absurd (omega arith)

-- a byte moved up by t
pub up_in : (a t q : ℕ) → t ≤ q → q < 8 → bit (a * 2 ^ t % 256) q ≡ bit a (q - t)
up_in a t q h l =
    let e : q ≡ q - t + t = omega arith in
    bit_cut (a * 2 ^ t) 8 q l ∙ ap (λ (n : ℕ). bit (a * 2 ^ t) n) e ∙ bit_shl a t (q - t)

pub up_out : (a t q : ℕ) → q < t → q < 8 → bit (a * 2 ^ t % 256) q ≡ 0
up_out a t q h l = bit_cut (a * 2 ^ t) 8 q l ∙ bit_shl_low a t q h
