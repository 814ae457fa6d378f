-- The bits of bytes that were raised, and of picks of bytes.
use mathlib.Core.Path.{◌≡◌, ap, ◌∙◌}
use mathlib.Core.Logic.{⊎_elim}
use mathlib.Core.Bool.{Bool, true, false}
use Prim.Native.Nat.{ℕ, ◌+◌, ◌-◌, ◌*◌, ◌/◌, ◌%◌, ◌^◌, ◌≤◌, ◌<◌}
use native.Mathlib.Omega.{arith}
use lib.Bits.{bit_and, bit_or}
use borrow.Author.Tests.{le-leb, lt-leb}
use Rattle.plane.proofs.Tests.{lt_or_le}
use Rattle.rows.specs.Cells.{bit}
use Rattle.rows.proofs.RowBits.{bit_or_lem, bit_and_lem, bit_shr, bit_past}
use Rattle.planes.specs.Bits.{bit_pick}
use Rattle.planes.proofs.WholeBytes.{up_in, up_out}
use Rattle.plane_pass_steps.specs.Passes.{spanned, of_three}

module _ (a b t q : ℕ) (h : 0 < t) (u : t < 8) (l : q < 8) (w : b < 256) where
  down : bit (b / 2 ^ (8 - t)) q ≡ bit b (q + 8 - t)
  down = let e : 8 - t + q ≡ q + 8 - t = omega arith in bit_shr b (8 - t) q ∙ ap (λ (n : ℕ). bit b n) e

  pub raised_bit : bit (bit_or (a * 2 ^ t % 256) (b / 2 ^ (8 - t))) q ≡ spanned a b t q
  raised_bit = bit_or_lem (a * 2 ^ t % 256) (b / 2 ^ (8 - t)) q ∙ ⊎_elim
      (λ (v : q < t). rw (lt-leb t q v) (omega (arith, down, up_out a t q v l)))
      (λ (v : t ≤ q). rw (le-leb t q v) (omega (arith, down, up_in a t q v l, bit_past 8 b (q + 8 - t) w (omega arith))))
      (lt_or_le q t)

-- the pick of two bits is that of the two bytes' bits
pub both_bit : (a b q : ℕ) → (bit (bit_and a b) q ≡ bit_pick true (bit a q) (bit b q)) × (bit (bit_or a b) q ≡ bit_pick false (bit a q) (bit b q))
both_bit a b q = (bit_and_lem a b q, bit_or_lem a b q)

-- a byte raised from picks of three is the pick of three that are raised
pub spanned_three : (erode : Bool) (h l a b c a' b' c' t q : ℕ) → ((q : ℕ) → bit h q ≡ of_three erode (bit a q) (bit b q) (bit c q))
    → ((q : ℕ) → bit l q ≡ of_three erode (bit a' q) (bit b' q) (bit c' q))
    → spanned h l t q ≡ of_three erode (spanned a a' t q) (spanned b b' t q) (spanned c c' t q)
spanned_three erode h l a b c a' b' c' t q u v = ⊎_elim
    (λ (w : q < t). rw (lt-leb t q w) (v (q + 8 - t)))
    (λ (w : t ≤ q). rw (le-leb t q w) (u (q - t)))
    (lt_or_le q t)
