-- Sets of numbers and their sums. Sets spaced by the same step have such a sum; a run of two and more makes a run of a set that is every second number.
-- What is shown of a face is that it is not otherwise, so a case may be asked for whatever it is of: `whether`.
use mathlib.Core.Path.{◌≡◌, refl, subst}
use mathlib.Core.Logic.{◌⊎◌, inl, inr, ⊎_elim}
use Prim.Native.Nat.{ℕ, zero, suc, ◌+◌, ◌-◌, ◌≤◌, ◌<◌}
use native.Mathlib.Omega.{arith}
use Rattle.plane.proofs.Tests.{lt_or_le}
use Rattle.faces.specs.Faces.{Spaced}

-- k is the sum of a number of S and a number of T
pub record Plus (S T : ℕ → Type 0) (k : ℕ) : Type 0 where
  pub a : ℕ
  pub b : ℕ
  pub left : S a
  pub right : T b
  pub at : a + b ≡ k

-- S has two numbers that are neighbours
pub record Pair (S : ℕ → Type 0) : Type 0 where
  pub c : ℕ
  pub low : S c
  pub high : S (c + 1)

-- S is every second number, as one number alone is, or a run of two and more
abbrev pub Kind : (ℕ → Type 0) → Type 0
Kind S = Spaced 2 S ⊎ (Pair S × Spaced 1 S)

pub whether : (P : Type 0) → ((P ⊎ (P → ⊥)) → ⊥) → ⊥
whether P f = f (inr (λ p. f (inl p)))

pub spaced_same : {S T : ℕ → Type 0} {step : ℕ} → ((k : ℕ) → S k → T k) → ((k : ℕ) → T k → S k) → Spaced step S → Spaced step T
spaced_same {S} {T} {step} f g s = record { next = λ a b p q l. f (a + step) (s.next a b (g a p) (g b q) l) }

pub kind_same : {S T : ℕ → Type 0} → ((k : ℕ) → S k → T k) → ((k : ℕ) → T k → S k) → Kind S → Kind T
kind_same f g = ⊎_elim
    (λ s. inl (spaced_same f g s))
    (λ s. inr (record { c = s.0.c; low = f _ s.0.low; high = f _ s.0.high }, spaced_same f g s.1))

pub spaced_plus : {S T : ℕ → Type 0} {step : ℕ} → Spaced step S → Spaced step T → Spaced step (Plus S T)
spaced_plus {S} {T} {step} s t = record {
  next = λ a b p q l. ⊎_elim
      (λ w. record { a = p.a + step; b = p.b; left = s.next p.a q.a p.left q.left w; right = p.right; at = omega (arith, p.at) })
      (λ w. record {
        a = p.a;
        b = p.b + step;
        left = p.left;
        right = t.next p.b q.b p.right q.right (omega (arith, p.at, q.at));
        at = omega (arith, p.at);
      })
      (lt_or_le p.a q.a);
}

-- ---- a run and every second number
-- a run has the numbers between two of its own
between : {S : ℕ → Type 0} → Spaced 1 S → (c a : ℕ) → S c → S a → (j : ℕ) → c + j ≤ a → S (c + j)
between {S} s c a p q zero l = subst S (omega arith) p
between {S} s c a p q (suc j) l = subst S (omega arith) (s.next (c + j) a (between s c a p q j (omega arith)) q (omega arith))

-- a number of a run of two and more has a neighbour in it
beside : {S : ℕ → Type 0} → Pair S → Spaced 1 S → (a : ℕ) → S a → S (a + 1) ⊎ ((0 < a) × S (a - 1))
beside {S} n s a p = ⊎_elim
    (λ w. inl (s.next a (n.c + 1) p n.high w))
    (λ w. inr (omega arith, subst S (omega arith) (between s n.c a n.low p (a - 1 - n.c) (omega arith))))
    (lt_or_le a (n.c + 1))

run_plus : {S T : ℕ → Type 0} → Pair S → Spaced 1 S → Spaced 2 T → Spaced 1 (Plus S T)
run_plus {S} {T} n s t = record {
  next = λ a b p q l.
      let up : S (p.a + 1) → Plus S T (a + 1) = λ w. record { a = p.a + 1; b = p.b; left = w; right = p.right; at = omega (arith, p.at) } in
      ⊎_elim
      (λ w. up (s.next p.a q.a p.left q.left w))
      (λ w. ⊎_elim
      up
      (λ v. record {
        a = p.a - 1;
        b = p.b + 2;
        left = v.1;
        right = t.next p.b q.b p.right q.right (omega (arith, p.at, q.at));
        at = omega (arith, p.at, v.0);
      })
      (beside n s p.a p.left))
      (lt_or_le p.a q.a);
}

pair_plus : {S T : ℕ → Type 0} → Pair S → (d : ℕ) → T d → Pair (Plus S T)
pair_plus n d q = record {
  c = n.c + d;
  low = record { a = n.c; b = d; left = n.low; right = q; at = refl };
  high = record { a = n.c + 1; b = d; left = n.high; right = q; at = omega arith };
}

-- where there is no number there is nothing to show
empty : {S : ℕ → Type 0} → ((k : ℕ) → S k → ⊥) → Kind S
empty f = inl (record { next = λ a b p q l. absurd (f a p) })

run_kind : {S T : ℕ → Type 0} → Pair S → Spaced 1 S → Spaced 2 T → (Kind (Plus S T) → ⊥) → ⊥
run_kind {S} {T} n s t f = whether ((d : ℕ) × T d) (λ w. f (⊎_elim
    (λ q. inr (pair_plus n q.0 q.1, run_plus n s t))
    (λ none. empty (λ k p. none (p.b, p.right)))
    w))

plus_swap : {S T : ℕ → Type 0} (k : ℕ) → Plus S T k → Plus T S k
plus_swap k p = record { a = p.b; b = p.a; left = p.right; right = p.left; at = omega (arith, p.at) }

pub kind_plus : {S T : ℕ → Type 0} → Kind S → Kind T → (Kind (Plus S T) → ⊥) → ⊥
kind_plus p q f = ⊎_elim
    (λ s. ⊎_elim
    (λ t. f (inl (spaced_plus s t)))
    (λ t. run_kind t.0 t.1 s (λ k. f (kind_same plus_swap plus_swap k)))
    q)
    (λ s. ⊎_elim
    (λ t. run_kind s.0 s.1 t f)
    (λ t. f (inr (pair_plus s.0 t.0.c t.0.low, spaced_plus s.1 t.1)))
    q)
    p

-- ---- numbers below 3
module _ {S : ℕ → Type 0} (small : (k : ℕ) → S k → k < 3) where
  without_1 : (S 1 → ⊥) → Spaced 2 S
  without_1 none = record {
    next = λ a b p q l. ⊎_elim
        (λ w. ⊎_elim
        (λ v. absurd (none (subst S (omega arith) q)))
        (λ v. subst S (omega (arith, small b q)) q)
        (lt_or_le b 2))
        (λ w. absurd (none (subst S (omega (arith, small b q)) p)))
        (lt_or_le a 1);
  }

  with_1 : S 1 → Spaced 1 S
  with_1 one = record {
    next = λ a b p q l. ⊎_elim
        (λ w. subst S (omega arith) one)
        (λ w. subst S (omega (arith, small b q)) q)
        (lt_or_le a 1);
  }

  alone : (S 0 → ⊥) → (S 2 → ⊥) → Spaced 2 S
  alone no0 no2 = record {
    next = λ a b p q l. ⊎_elim
        (λ w. absurd (no0 (subst S (omega arith) p)))
        (λ w. absurd (no2 (subst S (omega (arith, small b q)) q)))
        (lt_or_le a 1);
  }

  pub kind_of_three : (Kind S → ⊥) → ⊥
  kind_of_three f = whether (S 1) (λ w. ⊎_elim
      (λ one. whether (S 0) (λ u. whether (S 2) (λ v. f (⊎_elim
      (λ zero. inr (record { c = 0; low = zero; high = one }, with_1 one))
      (λ no0. ⊎_elim (λ two. inr (record { c = 1; low = one; high = two }, with_1 one)) (λ no2. inl (alone no0 no2)) v)
      u))))
      (λ none. f (inl (without_1 none)))
      w)
