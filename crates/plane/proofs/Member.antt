-- Membership in lists, and tests over all members of a list, each by induction on the list.
use mathlib.Core.Path.{◌≡◌, refl, sym, ◌∙◌, ap, subst}
use mathlib.Core.Logic.Iff
use mathlib.Core.Logic.{◌↔◌, ◌⊎◌, inl, inr}
use mathlib.Core.Bool.{Bool, true, false, not, cond, ◌&&◌, ◌||◌}
use mathlib.Core.List.{List, [], ◌∷◌, ◌++◌, map}
use Prim.Native.Nat.{ℕ, zero, suc, ◌+◌, ◌-◌, ◌≤◌, ◌<◌, suc-le-suc}
use native.Mathlib.Omega.{arith}
use native.Mathlib.Nat.{le_refl, le_trans, le-suc}
use native.Mathlib.Decide.{ℕ_discrete, dec_le}
use native.Mathlib.Numerals.{add-one}
use lib.Dec.{T, T_not, not_T}
use lib.ListN.{length, get_or, drop, length-drop, drop_of_length-le}
use lib.Seq.{drop-cons}
use Rattle.plane.specs.Lists.{In, any, all, keep, any_next, flat, count_from, up_to}
use Rattle.plane.proofs.Tests.{T_and, T_or, not_or, cond_ind}

-- ---- membership

module _ {A : Type 0} where
  pub In-append : (xs ys : List A) (a : A) → In (xs ++ ys) a ↔ (In xs a ⊎ In ys a)
  In-append [] ys a = (inr, pick)
    where
      pick : ⊥ ⊎ In ys a → In ys a
      pick (inl f) = absurd f
      pick (inr t) = t
  In-append (x ∷ xs) ys a = (to (In-append xs ys a).0, from (In-append xs ys a).1)
    where
      shift : In xs a ⊎ In ys a → ((a ≡ x) ⊎ In xs a) ⊎ In ys a
      shift (inl h) = inl (inr h)
      shift (inr h) = inr h

      to : (In (xs ++ ys) a → In xs a ⊎ In ys a) → (a ≡ x) ⊎ In (xs ++ ys) a → ((a ≡ x) ⊎ In xs a) ⊎ In ys a
      to ih (inl e) = inl (inl e)
      to ih (inr h) = shift (ih h)

      from : (In xs a ⊎ In ys a → In (xs ++ ys) a) → ((a ≡ x) ⊎ In xs a) ⊎ In ys a → (a ≡ x) ⊎ In (xs ++ ys) a
      from ih (inl (inl e)) = inl e
      from ih (inl (inr h)) = inr (ih (inl h))
      from ih (inr h) = inr (ih (inr h))

  -- some member of x ∷ xs has Q where x has it or some member of xs has it
  some_cons : {R : Type 0} (Q : A → Type 0) (x : A) (xs : List A) → R ↔ ((a : A) × In xs a × Q a) → (Q x ⊎ R) ↔ ((a : A) × In (x ∷ xs) a × Q a)
  some_cons {R} Q x xs rest = (to, λ h. from h.0 h.1 h.2)
    where
      to : Q x ⊎ R → (a : A) × In (x ∷ xs) a × Q a
      to (inl q) = (x, inl refl, q)
      to (inr r) = let h = rest.0 r in (h.0, inr h.1, h.2)

      from : (a : A) → (a ≡ x) ⊎ In xs a → Q a → Q x ⊎ R
      from a (inl e) q = inl (subst Q e q)
      from a (inr h) q = inr (rest.1 (a, h, q))

  pub In-any : (f : A → Bool) (xs : List A) → T (any f xs) ↔ ((a : A) × In xs a × T (f a))
  In-any f [] = (λ t. absurd t, λ h. absurd h.1)
  In-any f (x ∷ xs) = Iff.trans (T_or (f x) (any f xs)) (some_cons (λ a. T (f a)) x xs (In-any f xs))

  pub In-all : (f : A → Bool) (xs : List A) → T (all f xs) → (a : A) → In xs a → T (f a)
  In-all f [] t a h = absurd h
  In-all f (x ∷ xs) t a (inl e) = subst (λ z. T (f z)) (sym e) ((T_and (f x) (all f xs)).0 t).0
  In-all f (x ∷ xs) t a (inr h) = In-all f xs ((T_and (f x) (all f xs)).0 t).1 a h

  pub all_In : (f : A → Bool) (xs : List A) → ((a : A) → In xs a → T (f a)) → T (all f xs)
  all_In f [] h = tt
  all_In f (x ∷ xs) h = (T_and (f x) (all f xs)).1 (h x (inl refl), all_In f xs (λ a k. h a (inr k)))

  pub In-keep : (f : A → Bool) (xs : List A) (a : A) → In (keep f xs) a ↔ (In xs a × T (f a))
  In-keep f [] a = (λ h. absurd h, λ h. absurd h.0)
  In-keep f (x ∷ xs) a = go (f x) refl (In-keep f xs a)
    where
      pick : f x ≡ true → (In xs a × T (f a) → In (keep f xs) a) → ((a ≡ x) ⊎ In xs a) → T (f a) → (a ≡ x) ⊎ In (keep f xs) a
      pick q k (inl e) t = inl e
      pick q k (inr h) t = inr (k (h, t))

      drop' : f x ≡ false → (In xs a × T (f a) → In (keep f xs) a) → ((a ≡ x) ⊎ In xs a) → T (f a) → In (keep f xs) a
      drop' q k (inl e) t = absurd (subst T q (subst (λ z. T (f z)) e t))
      drop' q k (inr h) t = k (h, t)

      to : f x ≡ true → (In (keep f xs) a → In xs a × T (f a)) → (a ≡ x) ⊎ In (keep f xs) a → ((a ≡ x) ⊎ In xs a) × T (f a)
      to q k (inl e) = (inl e, subst (λ z. T (f z)) (sym e) (subst T (sym q) tt))
      to q k (inr h) = let r = k h in (inr r.0, r.1)

      go : (b : Bool) → f x ≡ b → In (keep f xs) a ↔ (In xs a × T (f a)) → In (cond b (x ∷ keep f xs) (keep f xs)) a ↔ (((a ≡ x) ⊎ In xs a) × T (f a))
      go true q ih = (to q ih.0, λ h. pick q ih.1 h.0 h.1)
      go false q ih = (λ h. let r = ih.0 h in (inr r.0, r.1), λ h. drop' q ih.1 h.0 h.1)

  pub length_keep : (f : A → Bool) (xs : List A) → length (keep f xs) ≤ length xs
  length_keep f [] = le_refl 0
  length_keep f (x ∷ xs) =
      let ih = length_keep f xs in
      cond_ind (f x) (x ∷ keep f xs) (keep f xs) (λ l. length l ≤ suc (length xs)) (λ _. suc-le-suc ih) (λ _. le_trans ih (le-suc (length xs)))

  pub any_no : (f : A → Bool) (xs : List A) → ((a : A) → In xs a → T (not (f a))) → T (not (any f xs))
  any_no f [] h = tt
  any_no f (x ∷ xs) h = (not_or (f x) (any f xs)).1 (h x (inl refl), any_no f xs (λ a k. h a (inr k)))

  pub no_any : (f : A → Bool) (xs : List A) → T (not (any f xs)) → (a : A) → In xs a → T (not (f a))
  no_any f xs t a h = not_T (f a) (λ u. T_not (any f xs) t ((In-any f xs).1 (a, h, u)))

module _ {A B : Type 0} where
  pub In-map : (f : A → B) (xs : List A) (b : B) → In (map f xs) b ↔ ((a : A) × In xs a × (b ≡ f a))
  In-map f [] b = (λ h. absurd h, λ h. absurd h.1)
  In-map f (x ∷ xs) b = some_cons (λ a. b ≡ f a) x xs (In-map f xs b)

  pub In-flat : (f : A → List B) (xs : List A) (b : B) → In (flat f xs) b ↔ ((a : A) × In xs a × In (f a) b)
  In-flat f [] b = (λ h. absurd h, λ h. absurd h.1)
  In-flat f (x ∷ xs) b = Iff.trans (In-append (f x) (flat f xs) b) (some_cons (λ a. In (f a) b) x xs (In-flat f xs b))

pub In-count_from : (k n a : ℕ) → k ≤ a → a < k + n → In (count_from k n) a
In-count_from k zero a h l = absurd (none k a h l)
  where
    none : (k a : ℕ) → k ≤ a → a < k + 0 → ⊥
    none k a h l = omega arith
In-count_from k (suc n) a h l = go (ℕ_discrete a k) (λ h'. In-count_from (suc k) n a h' (over k n a l))
  where
    over : (k n a : ℕ) → a < k + suc n → a < suc k + n
    over k n a l = omega arith

    past : (k a : ℕ) → k ≤ a → ¬ (a ≡ k) → suc k ≤ a
    past k a h q = omega arith

    go : Dec (a ≡ k) → (suc k ≤ a → In (count_from (suc k) n) a) → (a ≡ k) ⊎ In (count_from (suc k) n) a
    go (yes e) r = inl e
    go (no q) r = inr (r (past k a h q))

pub In-up_to : (n a : ℕ) → a < n → In (up_to n) a
In-up_to n a h = In-count_from 0 n a (omega arith) (omega arith)

pub count_from_In : (k n a : ℕ) → In (count_from k n) a → (k ≤ a) × (a < k + n)
count_from_In k zero a h = absurd h
count_from_In k (suc n) a (inl e) = omega arith
count_from_In k (suc n) a (inr h) = let r = count_from_In (suc k) n a h in omega arith

pub up_to_In : (n a : ℕ) → In (up_to n) a → a < n
up_to_In n a h = let r = count_from_In 0 n a h in omega arith

-- a test that is computed for 0, 1, .. , n − 1 holds at each
pub each_below : (f : ℕ → Bool) (n : ℕ) → T (all f (up_to n)) → (a : ℕ) → a < n → T (f a)
each_below f n t a h = In-all f (up_to n) t a (In-up_to n a h)

-- a member with the least measure
pub least_member : {A : Type 0} (g : A → ℕ) (xs : List A) (c : A) → In xs c → (b : A) × In xs b × ((a : A) → In xs a → g b ≤ g a)
least_member {A} g xs c h = let r = go xs c in (r.0, here r.0 r.1, r.3)
  where
    here : (b : A) → (b ≡ c) ⊎ In xs b → In xs b
    here b (inl e) = subst (In xs) (sym e) h
    here b (inr k) = k

    -- the least of c and the members of ys
    Least : List A → A → Type 0
    Least ys c = (b : A) × ((b ≡ c) ⊎ In ys b) × (g b ≤ g c) × ((a : A) → In ys a → g b ≤ g a)

    go : (ys : List A) (c : A) → Least ys c
    go [] c = (c, inl refl, le_refl (g c), λ a k. absurd k)
    go (y ∷ ys) c = pick (go ys c) (dec_le (g y) (g (go ys c).0))
      where
        step : (b : A) → (b ≡ c) ⊎ In ys b → (b ≡ c) ⊎ ((b ≡ y) ⊎ In ys b)
        step b (inl e) = inl e
        step b (inr k) = inr (inr k)

        pick : (r : Least ys c) → Dec (g y ≤ g r.0) → Least (y ∷ ys) c
        pick r (yes q) = (y, inr (inl refl), (let s = r.2 in omega arith), down)
          where
            down : (a : A) → (a ≡ y) ⊎ In ys a → g y ≤ g a
            down a (inl e) = subst (λ z. g y ≤ g z) (sym e) (le_refl (g y))
            down a (inr k) = let s = r.3 a k in omega arith
        pick r (no q) = (r.0, step r.0 r.1, r.2, down)
          where
            down : (a : A) → (a ≡ y) ⊎ In ys a → g r.0 ≤ g a
            down a (inl e) = subst (λ z. g r.0 ≤ g z) (sym e) (omega arith)
            down a (inr k) = r.3 a k

-- ---- a loop that tries each place of a list: what is left to try, from place i on

module _ {A : Type 0} (l : List A) (i : ℕ) (d : A) where
  pub any_hit : (f : A → Bool) → i < length l → f (get_or l i d) ≡ true → any f (drop i l) ≡ true
  any_hit f h e = ap (any f) (drop-cons l i d h) ∙ ap (λ b. b || any f (drop (suc i) l)) e

  pub any_miss : (f : A → Bool) → i < length l → f (get_or l i d) ≡ false → any f (drop i l) ≡ any f (drop (i + 1) l)
  any_miss f h e = ap (any f) (drop-cons l i d h) ∙ ap (λ b. b || any f (drop (suc i) l)) e ∙ ap (λ n. any f (drop n l)) (sym (add-one i))

pub any_end : {A : Type 0} (l : List A) (i : ℕ) (f : A → Bool) → length l ≤ i → any f (drop i l) ≡ false
any_end l i f h = ap (any f) (drop_of_length-le l h)

-- the same of neighbours: place i and the place before it
module _ {A : Type 0} (l : List A) (i : ℕ) (d : A) (f : A → A → Bool) (z : 1 ≤ i) (h : i < length l) where
  -- the two are tried, and then the rest
  next_one : any_next f (drop (i - 1) l) ≡ (f (get_or l (i - 1) d) (get_or l i d) || any_next f (drop i l))
  next_one = ap (any_next f) (first ∙ ap (λ xs. get_or l (i - 1) d ∷ xs) second) ∙ ap (λ xs. f (get_or l (i - 1) d) (get_or l i d) || any_next f xs) (sym second)
    where
      up : suc (i - 1) ≡ i
      up = omega arith

      first : drop (i - 1) l ≡ get_or l (i - 1) d ∷ drop i l
      first = drop-cons l (i - 1) d (omega arith) ∙ ap (λ n. get_or l (i - 1) d ∷ drop n l) up

      second : drop i l ≡ get_or l i d ∷ drop (suc i) l
      second = drop-cons l i d h

  pub next_hit : f (get_or l (i - 1) d) (get_or l i d) ≡ true → any_next f (drop (i - 1) l) ≡ true
  next_hit e = next_one ∙ ap (λ b. b || any_next f (drop i l)) e

  pub next_miss : f (get_or l (i - 1) d) (get_or l i d) ≡ false → any_next f (drop (i - 1) l) ≡ any_next f (drop (i + 1 - 1) l)
  next_miss e = let back : i ≡ i + 1 - 1 = omega arith in next_one ∙ ap (λ b. b || any_next f (drop i l)) e ∙ ap (λ n. any_next f (drop n l)) back

pub next_end : {A : Type 0} (l : List A) (i : ℕ) (f : A → A → Bool) → length l ≤ i → any_next f (drop (i - 1) l) ≡ false
next_end {A} l i f h = short (drop (i - 1) l) (let e = length-drop (i - 1) l in omega arith)
  where
    short : (xs : List A) → length xs ≤ 1 → any_next f xs ≡ false
    short [] h = refl
    short (x ∷ []) h = refl
    short (x ∷ y ∷ xs) h = absurd (omega arith)

-- tests of the results of g are tests of what g was applied to
module _ {A B : Type 0} (g : A → B) where
  pub not_all_map : (f : B → Bool) (xs : List A) → not (all f (map g xs)) ≡ any (λ x. not (f (g x))) xs
  not_all_map f [] = refl
  not_all_map f (x ∷ xs) = go (f (g x)) ∙ ap (λ b. not (f (g x)) || b) (not_all_map f xs)
    where
      go : (b : Bool) → not (b && all f (map g xs)) ≡ (not b || not (all f (map g xs)))
      go true = refl
      go false = refl

  pub next_map : (f : B → B → Bool) (xs : List A) → any_next f (map g xs) ≡ any_next (λ x y. f (g x) (g y)) xs
  next_map f [] = refl
  next_map f (x ∷ []) = refl
  next_map f (x ∷ y ∷ xs) = ap (λ b. f (g x) (g y) || b) (next_map f (y ∷ xs))
