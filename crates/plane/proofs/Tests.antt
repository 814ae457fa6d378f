-- Tests that are computed: what it says that one holds, or does not.
use mathlib.Core.Path.{◌≡◌, refl, ap, subst}
use mathlib.Core.Logic.{◌↔◌, ◌⊎◌, inl, inr}
use mathlib.Core.Bool.{Bool, true, false, not, cond, ◌&&◌, ◌||◌}
use Prim.Native.Nat.{ℕ, ◌≤◌, ◌<◌}
use native.Mathlib.Omega.{arith}
use lib.Dec.{T, leb, ltb, eqb, eqb_refl, leb→le, ltb→lt, not_T}
use borrow.Author.Tests.{ltb-true, ltb-false}

pub T_and : (a b : Bool) → T (a && b) ↔ (T a × T b)
T_and true b = (λ t. (tt, t), λ t. t.1)
T_and false b = (λ t. absurd t, λ t. t.0)

pub T_or : (a b : Bool) → T (a || b) ↔ (T a ⊎ T b)
T_or true b = (λ t. inl tt, λ t. tt)
T_or false b = (λ t. inr t, pick)
  where
    pick : ⊥ ⊎ T b → T b
    pick (inl f) = absurd f
    pick (inr t) = t

pub T_dec : (b : Bool) → T b ⊎ T (not b)
T_dec true = inl tt
T_dec false = inr tt

pub not_or : (a b : Bool) → T (not (a || b)) ↔ (T (not a) × T (not b))
not_or true b = (λ t. absurd t, λ t. t.0)
not_or false b = (λ t. (tt, t), λ t. t.1)

pub not_not : (b : Bool) → T b → T (not (not b))
not_not true t = tt
not_not false t = t

pub un_not : (b : Bool) → T (not (not b)) → T b
un_not true h = tt
un_not false h = h

-- a test and its failure
pub clash : (b : Bool) → T (not b) → T b → ⊥
clash true p q = p
clash false p q = q

pub T_true : (b : Bool) → T b → b ≡ true
T_true true t = refl
T_true false t = absurd t

pub T_false : (b : Bool) → T (not b) → b ≡ false
T_false true t = absurd t
T_false false t = refl

-- two tests that follow from each other are the same
pub same_test : (a b : Bool) → (T a → T b) → (T b → T a) → a ≡ b
same_test true true f g = refl
same_test true false f g = absurd (f tt)
same_test false true f g = absurd (g tt)
same_test false false f g = refl

-- what holds in both arms of a choice
pub cond_ind : {A : Type 0} (b : Bool) (x y : A) (P : A → Type 0) → (T b → P x) → (T (not b) → P y) → P (cond b x y)
cond_ind true x y P f g = f tt
cond_ind false x y P f g = g tt

pub eq-eqb : {m n : ℕ} → m ≡ n → T (eqb m n)
eq-eqb {m} {n} e = subst (λ k. T (eqb m k)) e (eqb_refl m)

pub not_leb : (m n : ℕ) → n < m → T (not (leb m n))
not_leb m n h = not_T (leb m n) (λ t. let k = leb→le m n t in omega arith)

pub not_ltb : (m n : ℕ) → n ≤ m → T (not (ltb m n))
not_ltb m n h = not_T (ltb m n) (λ t. let k = ltb→lt m n t in omega arith)

-- ---- tests that are tried in turn

-- where the first fails, the second decides
pub or_rest : (a b : Bool) → a ≡ false → (a || b) ≡ b
or_rest a b e = ap (λ x. x || b) e

pub or_first : (a b : Bool) → a ≡ true → (a || b) ≡ true
or_first a b e = ap (λ x. x || b) e

-- none holds
pub or_none : (a b : Bool) → (a || b) ≡ false → (a ≡ false) × (b ≡ false)
or_none true b e = absurd (subst T e tt)
or_none false b e = (refl, e)

-- a number is below another, or it is not
pub lt_or_le : (a b : ℕ) → (a < b) ⊎ (b ≤ a)
lt_or_le a b = on (ltb a b) refl
  where
    on : (t : Bool) → ltb a b ≡ t → (a < b) ⊎ (b ≤ a)
    on true e = inl (ltb-true a b e)
    on false e = inr (ltb-false a b e)
