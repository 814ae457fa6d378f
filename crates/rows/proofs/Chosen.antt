-- The masks that an array holds from its start, the last stored first: one more is stored behind them, and nothing else changes them.
use mathlib.Core.Path.{◌≡◌, refl, ap, subst, ◌∙◌}
use mathlib.Core.List.{List, ◌∷◌}
use Prim.Native.Nat.{ℕ, zero, suc, ◌+◌, ◌-◌, ◌≤◌, ◌<◌}
use native.Mathlib.Omega.{arith}
use native.Mathlib.Numerals.{add-one}
use lib.ListN.{length, set}
use lib.Seq.{get_or-set_same, get_or-set_other}
use Rattle.rows.specs.Cells.{chosen}

chosen_below : (masks : List ℕ) (i j a : ℕ) → j ≤ i → chosen (set masks i a) j ≡ chosen masks j
unfolding chosen
chosen_below masks i zero a h = refl
chosen_below masks i (suc j) a h = cc (get_or-set_other masks i j a 0 (λ e. omega arith), chosen_below masks i j a (omega arith))

chosen_suc : (masks : List ℕ) (j a : ℕ) → j < length masks → chosen (set masks j a) (suc j) ≡ a ∷ chosen masks j
unfolding chosen
chosen_suc masks j a h = cc (get_or-set_same masks j a 0 h, chosen_below masks j j a (omega arith))

-- what is stored behind n masks is the first of n + 1
pub chosen_more : (masks : List ℕ) (n a : ℕ) → n < length masks → chosen (set masks n a) (n + 1) ≡ a ∷ chosen masks n
chosen_more masks n a l = ap (chosen (set masks n a)) (add-one n) ∙ chosen_suc masks n a l

-- what is stored at k − 1 is the first of k
pub chosen_set : (masks : List ℕ) (k a : ℕ) → 0 < k → k ≤ length masks → chosen (set masks (k - 1) a) k ≡ a ∷ chosen masks (k - 1)
chosen_set masks k a p h = subst (λ (n : ℕ). chosen (set masks (k - 1) a) n ≡ a ∷ chosen masks (k - 1)) (omega arith) (chosen_suc masks (k - 1) a (omega arith))

pub length_chosen : (masks : List ℕ) (k : ℕ) → length (chosen masks k) ≡ k
unfolding chosen
length_chosen masks zero = refl
length_chosen masks (suc k) = ap suc (length_chosen masks k)
