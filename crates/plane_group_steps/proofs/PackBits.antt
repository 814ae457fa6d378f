-- The bits of a byte that was into which a cell is put.
use mathlib.Core.Path.{◌≡◌, ap, ◌∙◌}
use mathlib.Core.Logic.{⊎_elim}
use mathlib.Core.Bool.{Bool, cond}
use Prim.Native.Nat.{ℕ, ◌-◌, ◌*◌, ◌%◌, ◌^◌, max, ◌<◌, ◌≤◌}
use native.Mathlib.Omega.{arith}
use lib.Bits.{bit_or}
use lib.Dec.{eqb}
use borrow.Author.Tests.{eq-eqb, ne_eqb}
use Rattle.plane.proofs.Tests.{lt_or_le}
use Rattle.rows.specs.Cells.{bit}
use Rattle.rows.proofs.RowBits.{bit_or_lem, bit_past}
use Rattle.planes.proofs.WholeBytes.{up_in, up_out}
use Rattle.planes.specs.Bits.{level_bit}
use Rattle.plane_group_steps.specs.Groups.{laid_bit}

-- a bit, moved up to bit j
moved : (c j q : ℕ) → c < 2 → j < 8 → q < 8 → bit (c * 2 ^ j % 256) q ≡ cond (eqb q j) c 0
moved c j q b l u = ⊎_elim
    (λ (h : q < j). up_out c j q h u ∙ rw (ne_eqb q j (λ e. omega arith)))
    (λ (h : j ≤ q). up_in c j q h u ∙ ⊎_elim
    (λ (g : j < q). bit_past 1 c (q - j) (omega arith) (omega arith) ∙ rw (ne_eqb q j (λ e. omega arith)))
    (λ (g : q ≤ j). let e : q - j ≡ 0 = omega arith in rw (e, eq-eqb q j (omega arith)) (omega arith))
    (lt_or_le j q))
    (lt_or_le q j)

pub laid_bit_lem : (some : Bool) (a c b j q : ℕ) → b ≡ level_bit some c → b < 2 → j < 8 → q < 8 → bit (bit_or a (b * 2 ^ j % 256)) q ≡ laid_bit some a c j q
laid_bit_lem some a c b j q e h l u =
    bit_or_lem a (b * 2 ^ j % 256) q ∙ ap (λ (n : ℕ). max (bit a q) n) (moved b j q h l u) ∙ ap (λ (n : ℕ). max (bit a q) (cond (eqb q j) n 0)) e
