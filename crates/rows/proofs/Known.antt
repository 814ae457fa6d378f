-- What a function is told of an array of numbers by value: its length, and that each element fits.
use mathlib.Core.List.{List, [], ◌∷◌}
use Prim.Native.Nat.{ℕ, zero, suc, ◌^◌, ◌<◌}
use lib.ListN.{get_or}
use lib.Pow.{pow_pos}
use mir.Syntax.{Width, w16}
use Rattle.rows.proofs.Sums.{Rows16}
use mir.Val.{Val, bits}
use denote.Shadow.{shadow}
use denote.Array.{each, in_array}
use denote.Plain.{UInt}

-- of an array
pub array_below : (w : Width) (xs : List ℕ) (us : List Val) → shadow (each ℕ (UInt w).own_val xs us) → (i : ℕ) → get_or xs i 0 < 2 ^ bits w
array_below w [] [] h i = pow_pos (bits w)
array_below w (x ∷ xs) [] h i = absurd h
array_below w [] (u ∷ us) h i = absurd h
array_below w (x ∷ xs) (u ∷ us) h zero = h.0.1
array_below w (x ∷ xs) (u ∷ us) h (suc i) = array_below w xs us h.1 i

-- what is told of a [u16; 16]
pub rows16 : (xs : List ℕ) (vs : List Val) → shadow (in_array ℕ (UInt w16).own_val 16 xs vs) → Rows16 xs
rows16 xs vs h = record { rows = h.1.0.1; words = array_below w16 xs h.0 h.1.1 }
