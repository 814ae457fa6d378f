-- A list that is filled one place after the other: what holds of each place before i, and of what is stored at i, holds of each place before i + 1.
use mathlib.Core.Path.{sym, subst}
use mathlib.Core.List.{List}
use Prim.Native.Nat.{ℕ, ◌+◌, ◌<◌}
use native.Mathlib.Omega.{arith}
use lib.ListN.{length, get_or, set}
use lib.Seq.{get_or-set_same, get_or-set_other}
use borrow.Author.Count.{below_more}

pub stored : (P : ℕ → ℕ → Type 0) (xs : List ℕ) (i v : ℕ) → i < length xs → ((k : ℕ) → k < i → P k (get_or xs k 0)) → P i v
    → (k : ℕ) → k < i + 1 → P k (get_or (set xs i v) k 0)
stored P xs i v l f p = below_more (λ k. P k (get_or (set xs i v) k 0)) i
    (λ k q. subst (P k) (sym (get_or-set_other xs i k v 0 (λ e. omega arith))) (f k q))
    (subst (P i) (sym (get_or-set_same xs i v 0 l)) p)
