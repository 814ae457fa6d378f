-- What holds below a number and at it holds below the next; a list with one more stored at its end.
use mathlib.Core.Path.{◌≡◌, sym, ap, subst, ◌∙◌}
use mathlib.Core.Logic.{◌⊎◌, inl, inr, ⊎_elim}
use mathlib.Core.List.{List}
use Prim.Native.Nat.{ℕ, ◌+◌, ◌≤◌, ◌<◌}
use native.Mathlib.Omega.{arith}
use lib.ListN.{length, get_or, set}
use lib.Seq.{get_or-set_same, get_or-set_other}
use Rattle.rows.proofs.Sums.{last_or}
use Rattle.completions.specs.Completing.{Among}

pub upto : (P : ℕ → Type 0) (i : ℕ) → ((k : ℕ) → k < i → P k) → P i → (k : ℕ) → k < i + 1 → P k
upto P i f p k l = ⊎_elim (λ e. subst P (sym e) p) (f k) (last_or k i l)

-- more of a list has what less of it has
pub among_more : (xs : List ℕ) (n r m : ℕ) → n ≤ r → Among xs n m → Among xs r m
among_more xs n r m h a = let b = a.before in record { at = a.at; before = omega arith; is = a.is }

-- the first n + 1 of a list are its first n and the one at n
pub among_one : (xs : List ℕ) (n m : ℕ) → Among xs (n + 1) m → Among xs n m ⊎ (m ≡ get_or xs n 0)
among_one xs n m a = ⊎_elim
    (λ e. inr (sym a.is ∙ ap (λ (k : ℕ). get_or xs k 0) e))
    (λ l. inl (record { at = a.at; before = l; is = a.is }))
    (last_or a.at n a.before)

-- v is stored at n, and counts where a is 1
module _ (xs : List ℕ) (n a v : ℕ) where
  pub put_kept : (m : ℕ) → Among xs n m → Among (set xs n v) (n + a) m
  put_kept m h = let b = h.before in record { at = h.at; before = omega arith; is = get_or-set_other xs n h.at v 0 (λ e. omega arith) ∙ h.is }

  pub put_new : n < length xs → 1 ≤ a → Among (set xs n v) (n + a) v
  put_new l h = record { at = n; before = omega arith; is = get_or-set_same xs n v 0 l }

  pub put_was : (m : ℕ) → n < length xs → a ≤ 1 → Among (set xs n v) (n + a) m → Among xs n m ⊎ ((1 ≤ a) × (m ≡ v))
  put_was m l q h = let b = h.before in ⊎_elim
      (λ (e : h.at ≡ n). inr (omega arith, sym h.is ∙ ap (λ (k : ℕ). get_or (set xs n v) k 0) e ∙ get_or-set_same xs n v 0 l))
      (λ (w : h.at < n). inl (record { at = h.at; before = w; is = sym (get_or-set_other xs n h.at v 0 (λ e. omega arith)) ∙ h.is }))
      (last_or h.at n (omega arith))

-- what stands before a place that is stored to stays
pub set_above : (xs : List ℕ) (n i v m : ℕ) → n ≤ i → Among xs n m → Among (set xs i v) n m
set_above xs n i v m l a = let b = a.before in record { at = a.at; before = b; is = get_or-set_other xs i a.at v 0 (λ e. omega arith) ∙ a.is }

pub set_below : (xs : List ℕ) (n i v m : ℕ) → n ≤ i → Among (set xs i v) n m → Among xs n m
set_below xs n i v m l a = let b = a.before in record { at = a.at; before = b; is = sym (get_or-set_other xs i a.at v 0 (λ e. omega arith)) ∙ a.is }
