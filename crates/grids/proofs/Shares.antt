-- The load in ten-thousandths: both equations together leave one quotient and one remainder, those of the division, and the promise one answer.
use Rattle.std.specs.Prelude.{Ok, Err}
use mathlib.Core.Path.{◌≡◌, refl, sym, ◌∙◌, ap, ap₂, subst}
use mathlib.Core.Logic.{◌≢◌, ◌⊎◌, inl, inr}
use mathlib.Core.Bool.{Bool, true, false, cond, not}
use mathlib.Core.List.{List, [], ◌∷◌}
use Prim.Native.Nat.{ℕ, zero, suc, ◌+◌, ◌*◌, ◌/◌, ◌%◌, ◌≤◌, ◌<◌, zero-le, suc-le-suc}
use native.Mathlib.Omega.{arith}
use native.Mathlib.Decide.{dec_le}
use native.Mathlib.Nat.{div-add-mod', mod-lt, mul-le-mul_right}
use lib.Arith.{digits_div, digits_mod}
use lib.Dec.{T, eqb, eqb→eq}
use lib.ListN.{length}
use Rattle.plane.specs.Lists.{keep}
use Rattle.plane.proofs.Member.{length_keep}
use Rattle.plane.proofs.Tests.{T_dec, clash, eq-eqb}
use Rattle.words.specs.Ground.{first_of}
use Rattle.words.proofs.Refusals.{clear, ground_small, ground_once}
use Rattle.grids.specs.Frame.{full, unmeasured, load}
use Rattle.grids.specs.Share.{ShareAnswer, exact, told, quotient, remainder, measured, share_tests, TenThousandths, Shared}

-- ---- the equations

-- quotient and remainder by n are those of the division by n, and so there is one of each
pub by_division : (n m q r : ℕ) → q * n + r ≡ m → r < n → (q ≡ m / n) × (r ≡ m % n)
by_division n m q r e l = (sym (digits_div q l) ∙ ap (λ k. k / n) e, sym (digits_mod q l) ∙ ap (λ k. k % n) e)

pub division_once : (n m q r q' r' : ℕ) → q * n + r ≡ m → r < n → q' * n + r' ≡ m → r' < n → (q ≡ q') × (r ≡ r')
division_once n m q r q' r' e l e' l' =
    let d = by_division n m q r e l in
    let d' = by_division n m q' r' e' l' in
    (d.0 ∙ sym d'.0, d.1 ∙ sym d'.1)

-- at most 10,000, where no more cells are occupied than there are: one more would be 10,001 × n
pub most : (n k q r : ℕ) → q * n + r ≡ 10000 * k → r < n → k ≤ n → q ≤ 10000
most n k q r e l few = go (dec_le q 10000)
  where
    go : Dec (q ≤ 10000) → q ≤ 10000
    go (yes h) = h
    go (no over) = let m = mul-le-mul_right {m = 10001} {n = q} n (omega arith) in absurd (omega arith)

-- no more cells are occupied than there are, nor than were measured
pub load_most : (f : List ℕ) → load f ≤ length f
unfolding load
load_most f = length_keep (λ v. eqb v full) f

pub measured_most : (f : List ℕ) → measured f ≤ length f
unfolding measured
measured_most f = length_keep (λ v. not (eqb v unmeasured)) f

-- a test that holds wherever another does keeps no fewer
keep_more : {A : Type 0} (p q : A → Bool) → ((a : A) → T (p a) → T (q a)) → (xs : List A) → length (keep p xs) ≤ length (keep q xs)
keep_more p q h [] = zero-le
keep_more {A} p q h (x ∷ xs) = go (p x) (q x) (h x) (keep_more p q h xs)
  where
    go : (a b : Bool) → (T a → T b) → length (keep p xs) ≤ length (keep q xs)
        → length (cond a (x ∷ keep p xs) (keep p xs)) ≤ length (cond b (x ∷ keep q xs) (keep q xs))
    go true true k l = suc-le-suc l
    go true false k l = absurd (k tt)
    go false true k l = omega arith
    go false false k l = l

load_measured : (f : List ℕ) → load f ≤ measured f
unfolding load measured
load_measured f = keep_more (λ v. eqb v full) (λ v. not (eqb v unmeasured)) (λ v t. occupied_measured v (eqb→eq v full t)) f
  where
    occupied_measured : (v : ℕ) → v ≡ full → T (not (eqb v unmeasured))
    occupied_measured v e = subst (λ n. T (not (eqb n unmeasured))) (sym e) tt

-- ---- the answer

pub told_once : (a b : ShareAnswer) → told a ≡ told b → a ≡ b
told_once (Ok s) (Ok t) e = ap₂ exact (ap (λ t. t.1) e) (ap (λ t. t.2) e)
told_once (Ok s) (Err g) e = absurd (let n = ap (λ t. t.0) e in let l = (ground_small g).0 in omega arith)
told_once (Err g) (Ok s) e = absurd (let n = ap (λ t. t.0) e in let l = (ground_small g).0 in omega arith)
told_once (Err g) (Err h) e = ap Err (ground_once g h (ap (λ t. t.0) e))

-- what is divided is said by three numbers
share_told : (f : List ℕ) (a : ShareAnswer) → TenThousandths f a → told a ≡ (0, 10000 * load f / measured f, 10000 * load f % measured f)
share_told f a p =
    let d = by_division (measured f) (10000 * load f) (quotient a) (remainder a) p.whole p.below in
    tripled p.answer d.0 d.1
  where
    tripled : {t : ℕ × ℕ × ℕ} {k q r : ℕ} → t.0 ≡ k → t.1 ≡ q → t.2 ≡ r → t ≡ (k, q, r)
    tripled {t} {k} {q} {r} e f g = ap (λ k. (k, t.1, t.2)) e ∙ ap (λ q. (k, q, t.2)) f ∙ ap (λ r. (k, q, r)) g

-- and the quotient is at most 10,000
pub at_most : (f : List ℕ) (a : ShareAnswer) → TenThousandths f a → quotient a ≤ 10000
at_most f a p = most (measured f) (load f) (quotient a) (remainder a) p.whole p.below (load_measured f)

-- the promise leaves one answer
pub shared_once : (W H : ℕ) (f : List ℕ) (a b : ShareAnswer) → Shared W H f a → Shared W H f b → a ≡ b
shared_once W H f a b p q = told_once a b (go (T_dec (eqb n 0)))
  where
    n : ℕ
    n = first_of (share_tests W H f)

    go : T (eqb n 0) ⊎ T (not (eqb n 0)) → told a ≡ told b
    go (inl t) = let e = eqb→eq n 0 t in share_told f a (p.done e) ∙ sym (share_told f b (q.done e))
    go (inr t) =
        let some : first_of (share_tests W H f) ≢ 0 = λ e. clash (eqb n 0) t (eq-eqb e) in
        (p.refused some).0 ∙ sym (q.refused some).0

-- ---- a frame that no ground refuses can be divided

-- it has a measured cell
pub some_measured : (W H : ℕ) (f : List ℕ) → first_of (share_tests W H f) ≡ 0 → 0 < measured f
unfolding share_tests
some_measured W H f z = go (measured f) (clear (share_tests W H f) tt z).1.1.1.0
  where
    go : (n : ℕ) → T (not (eqb n 0)) → 0 < n
    go zero t = absurd t
    go (suc n) t = omega arith

-- a division gives what is promised
pub can_share : (W H : ℕ) (f : List ℕ) → first_of (share_tests W H f) ≡ 0 → TenThousandths f (exact (10000 * load f / measured f) (10000 * load f % measured f))
can_share W H f z = record {
  answer = refl;
  whole = div-add-mod' (10000 * load f) (measured f);
  below = mod-lt (10000 * load f) (some_measured W H f z);
}
