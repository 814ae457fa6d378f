-- Integers and natural numbers: the differences that cells make, and the order of the integers. A difference is one natural number or the negative of
-- one, by which of the two is greater.
use mathlib.Core.Path.{◌≡◌, refl, sym, ◌∙◌, ap, subst}
use mathlib.Core.Bool.{not}
use Prim.Native.Nat.{ℕ, zero, suc, ◌+◌, ◌-◌, ◌≤◌, ◌<◌}
use native.Mathlib.Nat.{le_antisymm, le_of_lt}
use native.Mathlib.Omega.{arith}
use lib.Dec.{T, ltb, ltb→lt, nltb→le, leb→le, le→leb, not_T}
use lib.IntN.{ℤ, pos, negsuc, ◌+ℤ◌, ◌-ℤ◌, nat_abs, +ℤ_assoc, +ℤ_comm, +ℤ-neg_ℤ_cancel}
use lib.Signed.{lt_z, le_z, ◌≤ℤ◌, lt_z_yes, clash_ℤ}
use Rattle.plane.proofs.Tests.{cond_ind}

-- the difference of a number and a positive number, case by case
diff_ind : (x i : ℕ) (P : ℤ → Type 0) → (x < suc i → P (negsuc (suc i - suc x))) → (suc i ≤ x → P (pos (x - suc i))) → P (pos x -ℤ pos (suc i))
diff_ind x i P below above =
    cond_ind (ltb x (suc i)) (negsuc (suc i - suc x)) (pos (x - suc i)) P (λ t. below (ltb→lt x (suc i) t)) (λ t. above (nltb→le x (suc i) t))

pub diff_ge : (x i : ℕ) → i ≤ x → pos x -ℤ pos i ≡ pos (x - i)
diff_ge x zero h = ap pos (omega arith)
diff_ge x (suc i) h = diff_ind x i (λ z. z ≡ pos (x - suc i)) (λ l. absurd (omega arith)) (λ _. refl)

pub diff_lt : (x i : ℕ) → x < i → pos x -ℤ pos i ≡ negsuc (i - suc x)
diff_lt x zero h = absurd (omega arith)
diff_lt x (suc i) h = diff_ind x i (λ z. z ≡ negsuc (suc i - suc x)) (λ _. refl) (λ l. absurd (omega arith))

-- ---- sums

-- the inner two change places
pub +ℤ_swap : (a b c d : ℤ) → (a +ℤ b) +ℤ (c +ℤ d) ≡ (a +ℤ c) +ℤ (b +ℤ d)
+ℤ_swap a b c d = +ℤ_assoc a b (c +ℤ d) ∙ ap (λ x. a +ℤ x) inner ∙ sym (+ℤ_assoc a c (b +ℤ d))
  where
    inner : b +ℤ (c +ℤ d) ≡ c +ℤ (b +ℤ d)
    inner = sym (+ℤ_assoc b c d) ∙ ap (λ x. x +ℤ d) (+ℤ_comm b c) ∙ +ℤ_assoc c b d

pub +ℤ_less : (a b : ℤ) → (a +ℤ b) -ℤ a ≡ b
+ℤ_less a b = ap (λ x. x -ℤ a) (+ℤ_comm a b) ∙ +ℤ-neg_ℤ_cancel b a

-- ---- the order: a ≤ b where a natural number leads from a to b

pub ≤ℤ_from : (a b : ℤ) → a ≤ℤ b → (k : ℕ) × (b ≡ a +ℤ pos k)
≤ℤ_from (pos a) (pos b) h = let l = leb→le a b h.le in (b - a, ap pos (omega arith))
≤ℤ_from (pos a) (negsuc b) h = absurd h.le
≤ℤ_from (negsuc a) (pos b) h = (b + suc a, ap pos (omega arith) ∙ sym (diff_ge (b + suc a) (suc a) (omega arith)))
≤ℤ_from (negsuc a) (negsuc b) h =
    let l = leb→le b a h.le in (a - b, ap negsuc (omega arith) ∙ sym (diff_lt (a - b) (suc a) (omega arith)))

pub ≤ℤ_to : (a b : ℤ) (k : ℕ) → b ≡ a +ℤ pos k → a ≤ℤ b
≤ℤ_to a b k e = record { le = subst (λ z. T (le_z a z)) (sym e) (up a) }
  where
    up : (a : ℤ) → T (le_z a (a +ℤ pos k))
    up (pos a) = le→leb a (a + k) (omega arith)
    up (negsuc a) = diff_ind k a (λ z. T (le_z (negsuc a) z)) (λ l. le→leb (suc a - suc k) a (omega arith)) (λ _. tt)

pub ≤ℤ_trans : (a b c : ℤ) → a ≤ℤ b → b ≤ℤ c → a ≤ℤ c
≤ℤ_trans a b c h k =
    let f = ≤ℤ_from a b h in
    let g = ≤ℤ_from b c k in
    ≤ℤ_to a c (f.0 + g.0) (g.1 ∙ ap (λ x. x +ℤ pos g.0) f.1 ∙ +ℤ_assoc a (pos f.0) (pos g.0))

pub ≤ℤ_antisym : (a b : ℤ) → a ≤ℤ b → b ≤ℤ a → a ≡ b
≤ℤ_antisym (pos a) (pos b) h k = ap pos (le_antisymm (leb→le a b h.le) (leb→le b a k.le))
≤ℤ_antisym (pos a) (negsuc b) h k = absurd h.le
≤ℤ_antisym (negsuc a) (pos b) h k = absurd k.le
≤ℤ_antisym (negsuc a) (negsuc b) h k = ap negsuc (le_antisymm (leb→le a b k.le) (leb→le b a h.le))

pub ≤ℤ_add : (a b c d : ℤ) → a ≤ℤ b → c ≤ℤ d → (a +ℤ c) ≤ℤ (b +ℤ d)
≤ℤ_add a b c d h k =
    let f = ≤ℤ_from a b h in
    let g = ≤ℤ_from c d k in
    let e : b +ℤ d ≡ (a +ℤ pos f.0) +ℤ (c +ℤ pos g.0) = λ i. f.1 i +ℤ g.1 i in
    ≤ℤ_to (a +ℤ c) (b +ℤ d) (f.0 + g.0) (e ∙ +ℤ_swap a (pos f.0) c (pos g.0))

-- what leads from a to b is their difference
pub ≤ℤ_diff : (a b : ℤ) → a ≤ℤ b → b ≡ a +ℤ pos (nat_abs (b -ℤ a))
≤ℤ_diff a b h =
    let f = ≤ℤ_from a b h in
    let e : nat_abs (b -ℤ a) ≡ f.0 = ap (λ x. nat_abs (x -ℤ a)) f.1 ∙ ap nat_abs (+ℤ_less a (pos f.0)) in
    f.1 ∙ ap (λ k. a +ℤ pos k) (sym e)

-- the order and the test of the strict order
pub lt_z_le : (a b : ℤ) → T (lt_z a b) → a ≤ℤ b
lt_z_le (pos a) (pos b) t = record { le = le→leb a b (le_of_lt (ltb→lt a b t)) }
lt_z_le (pos a) (negsuc b) t = absurd t
lt_z_le (negsuc a) (pos b) t = record { le = tt }
lt_z_le (negsuc a) (negsuc b) t = record { le = le→leb b a (le_of_lt (ltb→lt b a t)) }

pub ≤ℤ_nlt_z : (a b : ℤ) → a ≤ℤ b → T (not (lt_z b a))
≤ℤ_nlt_z a b h = not_T (lt_z b a) (λ t. clash_ℤ (lt_z_yes t) h)
