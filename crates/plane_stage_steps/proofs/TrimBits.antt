-- The bits of a byte that was trimmed.
use mathlib.Core.Path.{◌≡◌}
use mathlib.Core.Logic.{⊎_elim}
use mathlib.Core.Bool.{cond}
use Prim.Native.Nat.{ℕ, ◌+◌, ◌-◌, ◌*◌, ◌/◌, ◌%◌, ◌^◌, ◌≤◌, ◌<◌}
use native.Mathlib.Omega.{arith}
use lib.Bits.{bit_and, bit_or}
use lib.Dec.{ltb}
use borrow.Author.Tests.{lt-ltb, le-ltb}
use Rattle.plane.proofs.Tests.{lt_or_le}
use Rattle.rows.specs.Cells.{bit}
use Rattle.rows.proofs.RowBits.{bit_or_lem, bit_and_lem, bit_shr, bit_past}
use Rattle.planes.proofs.WholeBytes.{ones8, up_in, up_out}

module _ (a r v q : ℕ) (h : 0 < r) (u : r < 8) (l : q < 8) where
  low_mask : bit (255 / 2 ^ (8 - r)) q ≡ bit 255 (8 - r + q)
  low_mask = bit_shr 255 (8 - r) q

  pub trimmed_bit_lem : bit (bit_or (bit_and a (255 / 2 ^ (8 - r))) (bit_and v (255 * 2 ^ r % 256))) q ≡ cond (ltb q r) (bit a q) (bit v q)
  trimmed_bit_lem =
      let p = bit_or_lem (bit_and a (255 / 2 ^ (8 - r))) (bit_and v (255 * 2 ^ r % 256)) q in
      let s = bit_and_lem a (255 / 2 ^ (8 - r)) q in
      let t = bit_and_lem v (255 * 2 ^ r % 256) q in
      ⊎_elim
      (λ (w : q < r). rw (lt-ltb q r w) (omega (arith, low_mask, ones8 (8 - r + q) (omega arith), up_out 255 r q w l)))
      (λ (w : r ≤ q). rw (le-ltb q r w)
      (omega (arith, low_mask, bit_past 8 255 (8 - r + q) (omega arith) (omega arith), up_in 255 r q w l, ones8 (q - r) (omega arith))))
      (lt_or_le q r)
