-- The bits of a packed number are those that it was packed from, whatever stands above them.
use mathlib.Core.Path.{◌≡◌, refl, sym, ◌∙◌, ap, subst}
use mathlib.Core.Logic.{◌↔◌, inl}
use mathlib.Core.List.{List, [], ◌∷◌}
use mathlib.Core.Bool.{Bool, true, false, cond}
use Prim.Native.Nat.{ℕ, zero, suc, ◌+◌, ◌*◌, ◌/◌, ◌%◌, ◌^◌, ◌<◌, zero-le, suc-le-suc}
use native.Mathlib.Omega.{arith}
use native.Mathlib.Nat.{div-add-mod, mul-mod_right, zero-div, pow-succ', div-div-eq-div-mul, add-suc, suc-add, le_of_suc-le-suc, not-suc-le-zero}
use native.Mathlib.Nat.{add-zero, zero-add, mul_assoc}
use lib.Dec.{T, eqb, eqb→eq}
use lib.ListN.{length}
use Rattle.plane.specs.Lists.{In, bits, up_to, packed}
use Rattle.plane.proofs.Member.{In-keep, up_to_In, In-up_to}
use Rattle.plane.proofs.Tests.{eq-eqb, same_test}

-- one bit more below
half : (c : Bool) (r : ℕ) → (cond c 1 0 + 2 * r) / 2 ≡ r
half true r = omega arith
half false r = omega arith

low : (c : Bool) (r : ℕ) → (cond c 1 0 + 2 * r) / 1 % 2 ≡ cond c 1 0
low true r = omega arith
low false r = omega arith

halves : (x i : ℕ) → x / 2 ^ suc i ≡ x / 2 / 2 ^ i
halves x i = ap (λ m. x / m) (pow-succ' 2 i) ∙ sym (div-div-eq-div-mul x 2 (2 ^ i))

packed_digit : (b : ℕ → Bool) (i k n : ℕ) → i < n → packed b k n / 2 ^ i % 2 ≡ cond (b (k + i)) 1 0
unfolding packed
packed_digit b i k zero h = absurd (not-suc-le-zero h)
packed_digit b zero k (suc n) h = low (b k) (packed b (suc k) n) ∙ ap (λ j. cond (b j) 1 0) (sym (add-zero k))
packed_digit b (suc i) k (suc n) h =
    ap (λ m. m % 2) (halves (cond (b k) 1 0 + 2 * packed b (suc k) n) i) ∙ ap (λ m. m / 2 ^ i % 2) (half (b k) (packed b (suc k) n))
    ∙ packed_digit b i (suc k) n (le_of_suc-le-suc h) ∙ ap (λ j. cond (b j) 1 0) (suc-add k i ∙ sym (add-suc k i))

pub packed_below : (b : ℕ → Bool) (k n : ℕ) → packed b k n < 2 ^ n
unfolding packed
packed_below b k zero = omega arith
packed_below b k (suc n) = subst (λ m. packed b k (suc n) < m) (sym (pow-succ' 2 n)) (next (b k) (packed b (suc k) n) (2 ^ n) (packed_below b (suc k) n))
  where
    next : (c : Bool) (r m : ℕ) → r < m → cond c 1 0 + 2 * r < 2 * m
    next true r m h = omega arith
    next false r m h = omega arith

even : (n q : ℕ) → 2 ^ suc n * q ≡ 2 * (2 ^ n * q)
even n q = ap (λ m. m * q) (pow-succ' 2 n) ∙ mul_assoc 2 (2 ^ n) q

-- what stands above the lowest n bits does not change them
above : (n i q c : ℕ) → i < n → (2 ^ n * q + c) / 2 ^ i % 2 ≡ c / 2 ^ i % 2
above zero i q c h = absurd (not-suc-le-zero h)
above (suc n) zero q c h = ap (λ m. (m + c) / 1 % 2) (even n q) ∙ flat0 (2 ^ n * q) c
  where
    flat0 : (x c : ℕ) → (2 * x + c) / 1 % 2 ≡ c / 1 % 2
    flat0 x c = omega arith
above (suc n) (suc i) q c h =
    ap (λ m. m % 2) (halves (2 ^ suc n * q + c) i) ∙ ap (λ m. (m + c) / 2 / 2 ^ i % 2) (even n q) ∙ ap (λ m. m / 2 ^ i % 2) (split (2 ^ n * q) c)
    ∙ above n i q (c / 2) (le_of_suc-le-suc h) ∙ ap (λ m. m % 2) (sym (halves c i))
  where
    split : (x c : ℕ) → (2 * x + c) / 2 ≡ x + c / 2
    split x c = omega arith

one_true : (c : Bool) → ◌≡◌ {A = ℕ} (cond c 1 0) 1 → T c
one_true true e = tt
one_true false e = absurd (let z : 0 ≡ 1 = e in omega arith)

true_one : (c : Bool) → T c → ◌≡◌ {A = ℕ} (cond c 1 0) 1
true_one true t = refl
true_one false t = absurd t

-- q above the n bits that are packed
pub bits_packed : (b : ℕ → Bool) (n q x : ℕ) → In (bits n (2 ^ n * q + packed b 0 n)) x ↔ ((x < n) × T (b x))
bits_packed b n q x = (
  λ h. let r = (In-keep set (up_to n) x).0 h in
      let l = up_to_In n x r.0 in
      (l, one_true (b x) (sym (digit l) ∙ eqb→eq (w / 2 ^ x % 2) 1 r.1)),
  λ h. (In-keep set (up_to n) x).1 (In-up_to n x h.0, eq-eqb (digit h.0 ∙ true_one (b x) h.1)),
)
  where
    w : ℕ
    w = 2 ^ n * q + packed b 0 n

    set : ℕ → Bool
    set k = eqb (w / 2 ^ k % 2) 1

    digit : x < n → w / 2 ^ x % 2 ≡ cond (b x) 1 0
    digit l = above n x q (packed b 0 n) l ∙ packed_digit b x 0 n l ∙ ap (λ j. cond (b j) 1 0) (zero-add x)

-- ---- numbers without bits

-- where the lowest n bits are 0, so is what they make
low_zero : (n w : ℕ) → ((k : ℕ) → k < n → w / 2 ^ k % 2 ≡ 0) → w % 2 ^ n ≡ 0
low_zero zero w h = omega arith
low_zero (suc n) w h = go (low_zero n (w / 2) (λ k l. ap (λ x. x % 2) (sym (halves w k)) ∙ h (suc k) (suc-le-suc l)))
  where
    q : ℕ
    q = w / 2 / 2 ^ n

    double : (w m r p : ℕ) → w / 1 % 2 ≡ 0 → m + r ≡ w / 2 → r ≡ 0 → p ≡ 2 * m → w ≡ p
    double w m r p a b c d = omega arith

    -- w is q times 2 ^ (n + 1)
    go : w / 2 % 2 ^ n ≡ 0 → w % 2 ^ suc n ≡ 0
    go z =
        ap (λ x. x % 2 ^ suc n) (double w (2 ^ n * q) (w / 2 % 2 ^ n) (2 ^ suc n * q) (h 0 (suc-le-suc zero-le)) (div-add-mod (w / 2) (2 ^ n)) z (even n q))
        ∙ mul-mod_right (2 ^ suc n) q

-- a number has no bit below n exactly where its lowest n bits make 0
pub no_bits : (n w : ℕ) → eqb (length (bits n w)) 0 ≡ eqb (w % 2 ^ n) 0
no_bits n w = same_test (eqb (length (bits n w)) 0) (eqb (w % 2 ^ n) 0) to from
  where
    set : ℕ → Bool
    set k = eqb (w / 2 ^ k % 2) 1

    even_digit : (x : ℕ) → ¬ (x % 2 ≡ 1) → x % 2 ≡ 0
    even_digit x h = omega arith

    none : (xs : List ℕ) → ((x : ℕ) → In xs x → ⊥) → length xs ≡ 0
    none [] h = refl
    none (x ∷ xs) h = absurd (h x (inl refl))

    some : (xs : List ℕ) (x : ℕ) → length xs ≡ 0 → In xs x → ⊥
    some [] x e h = elim h [ ]
    some (y ∷ xs) x e h = omega arith

    to : T (eqb (length (bits n w)) 0) → T (eqb (w % 2 ^ n) 0)
    to t = eq-eqb (low_zero n w (λ k l. even_digit (w / 2 ^ k) (λ e. some (bits n w) k (eqb→eq (length (bits n w)) 0 t) (has k l e))))
      where
        has : (k : ℕ) → k < n → w / 2 ^ k % 2 ≡ 1 → In (bits n w) k
        has k l e = (In-keep set (up_to n) k).1 (In-up_to n k l, eq-eqb e)

    from : T (eqb (w % 2 ^ n) 0) → T (eqb (length (bits n w)) 0)
    from t = eq-eqb (none (bits n w) (λ k h. let r = (In-keep set (up_to n) k).0 h in clear k (up_to_In n k r.0) (eqb→eq (w / 2 ^ k % 2) 1 r.1)))
      where
        split : w ≡ 2 ^ n * (w / 2 ^ n) + 0
        split = sym (div-add-mod w (2 ^ n)) ∙ ap (λ x. 2 ^ n * (w / 2 ^ n) + x) (eqb→eq (w % 2 ^ n) 0 t)

        clear : (k : ℕ) → k < n → w / 2 ^ k % 2 ≡ 1 → ⊥
        clear k l e =
            let z : w / 2 ^ k % 2 ≡ 0 = ap (λ x. x / 2 ^ k % 2) split ∙ above n k (w / 2 ^ n) 0 l ∙ ap (λ x. x % 2) (zero-div (2 ^ k)) in
            let o : ◌≡◌ {A = ℕ} 0 1 = sym z ∙ e in
            omega arith
