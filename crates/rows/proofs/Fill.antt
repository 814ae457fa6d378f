-- A loop that sets the elements of a list from j on, one a turn: those passed are f of their index, and the others as they were.
use mathlib.Core.Path.{◌≡◌, sym, subst, ◌∙◌}
use mathlib.Core.Logic.{⊎_elim}
use mathlib.Core.List.{List}
use Prim.Native.Nat.{ℕ, ◌+◌, ◌≤◌, ◌<◌}
use native.Mathlib.Omega.{arith}
use native.Mathlib.Nat.{eq-or-lt_of_le}
use lib.ListN.{length, get_or, set}
use lib.Seq.{get_or-set_same, get_or-set_other}

-- r has f from j to y, and g before and after
pub record Filled (f g : ℕ → ℕ) (j y : ℕ) (r : List ℕ) : Type 0 where
  pub inside : (q : ℕ) → j ≤ q → q < y → get_or r q 0 ≡ f q
  pub before : (q : ℕ) → q < j → get_or r q 0 ≡ g q
  pub after : (q : ℕ) → y ≤ q → get_or r q 0 ≡ g q

pub fill_more : (f g : ℕ → ℕ) (j y : ℕ) (r : List ℕ) (v : ℕ) → j ≤ y → y < length r → v ≡ f y → Filled f g j y r → Filled f g j (y + 1) (set r y v)
fill_more f g j y r v l n e h = record {
  inside = λ q a b. ⊎_elim
      (λ w. subst (λ (k : ℕ). get_or (set r y v) k 0 ≡ f k) (sym w) (get_or-set_same r y v 0 n ∙ e))
      (λ w. get_or-set_other r y q v 0 (λ k. omega arith) ∙ h.inside q a w)
      (eq-or-lt_of_le {n = q} {m = y} (omega arith));
  before = λ q a. get_or-set_other r y q v 0 (λ k. omega arith) ∙ h.before q a;
  after = λ q a. get_or-set_other r y q v 0 (λ k. omega arith) ∙ h.after q (omega arith);
}
