-- The bits of a byte that was put together from eight cells.
use mathlib.Core.Path.{◌≡◌, ap, ◌∙◌}
use mathlib.Core.Bool.{Bool}
use mathlib.Core.List.{List}
use Prim.Native.Nat.{ℕ, zero, suc, ◌+◌, ◌*◌, ◌<◌}
use native.Mathlib.Omega.{arith}
use lib.ListN.{get_or}
use Rattle.rows.specs.Cells.{bit}
use Rattle.planes.specs.Bits.{level_bit}
use Rattle.plane_eight_steps.specs.Eights.{Eight, eight_bit}

-- eight cells of a column, w apart
pub eight_bits : (some : Bool) (s : List ℕ) (w k r q : ℕ) → q < 8
    → Eight some (get_or s k 0) (get_or s (w + k) 0) (get_or s (2 * w + k) 0) (get_or s (3 * w + k) 0) (get_or s (4 * w + k) 0) (get_or s (5 * w + k) 0)
    (get_or s (6 * w + k) 0) (get_or s (7 * w + k) 0) r
    → bit r q ≡ eight_bit some s w k q
eight_bits some s w k r zero l e = let z : k ≡ zero * w + k = omega arith in e.bit0 ∙ ap (λ (n : ℕ). level_bit some (get_or s n 0)) z
eight_bits some s w k r (suc zero) l e = let z : w + k ≡ suc zero * w + k = omega arith in e.bit1 ∙ ap (λ (n : ℕ). level_bit some (get_or s n 0)) z
eight_bits some s w k r (suc (suc zero)) l e = e.bit2
eight_bits some s w k r (suc (suc (suc zero))) l e = e.bit3
eight_bits some s w k r (suc (suc (suc (suc zero)))) l e = e.bit4
eight_bits some s w k r (suc (suc (suc (suc (suc zero))))) l e = e.bit5
eight_bits some s w k r (suc (suc (suc (suc (suc (suc zero)))))) l e = e.bit6
eight_bits some s w k r (suc (suc (suc (suc (suc (suc (suc zero))))))) l e = e.bit7
eight_bits some s w k r (suc (suc (suc (suc (suc (suc (suc (suc q)))))))) l e = absurd (omega arith)
