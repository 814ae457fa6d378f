-- The nine bits of a mask, one after the other: bit 3j + i is cell (i, j).
use Rattle.std.specs.Prelude.{Bool, cond, ℕ, zero, suc, ◌/◌, ◌%◌, ◌^◌, eqb}

-- whether bit b of the mask m is set
abbrev pub has_bit : ℕ → ℕ → Bool
has_bit m b = eqb (m / 2 ^ b % 2) 1

-- f at the bits of m below b, taken together from e on
unfoldable pub over_bits : {A : Type 0} → (A → A → A) → A → (ℕ → A) → ℕ → ℕ → A
over_bits pick e f m zero = e
over_bits pick e f m (suc b) = cond (has_bit m b) (pick (over_bits pick e f m b) (f b)) (over_bits pick e f m b)
