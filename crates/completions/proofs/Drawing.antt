-- Lists drawn from others, one mask a turn: those that fit, and then those without a number before those with it.
use mathlib.Core.Path.{◌≡◌, sym, ap, subst, ◌∙◌}
use mathlib.Core.Logic.{◌⊎◌, inl, inr, ⊎_elim}
use mathlib.Core.List.{List}
use Prim.Native.Nat.{ℕ, ◌+◌, ◌-◌, ◌≤◌, ◌<◌}
use native.Mathlib.Omega.{arith}
use lib.ListN.{length, get_or, set, take, length-set, length-take}
use Rattle.std.specs.Prelude.{Some}
use lib.Seq.{get_or-set_same, get_or-set_other}
use Rattle.plane.proofs.Tests.{lt_or_le}
use Rattle.completions.specs.Completing.{Among, Fit, number_in}
use Rattle.completions.specs.Pools.{Fitting, Split, Divided}
use Rattle.completions.proofs.Nodes.{to_part, of_part}
use Rattle.completions.proofs.Loops.{upto, among_more, among_one, put_kept, put_new, put_was, set_above, set_below}

-- after j of cand: those that fit are the first n of list
pub record FittedTo (nums need cand list : List ℕ) (n j : ℕ) : Type 0 where
  pub few : n ≤ j
  pub long : length list ≡ 512
  pub all : (m : ℕ) → m < 512 → Among cand j m → Fit (number_in nums) need m → Among list n m
  pub only : (m : ℕ) → Among list n m → Among cand j m
  pub fit : (m : ℕ) → Among list n m → (m < 512) × Fit (number_in nums) need m

module _ (nums need cand : List ℕ) where
  pub fitted_more : (list : List ℕ) (n j k v : ℕ) → j < 512 → v ≡ get_or cand j 0 → k ≤ 1 → (1 ≤ k → (v < 512) × Fit (number_in nums) need v)
      → (v < 512 → Fit (number_in nums) need v → 1 ≤ k)
      → FittedTo nums need cand list n j → FittedTo nums need cand (set list n v) (n + k) (j + 1)
  fitted_more list n j k v l e one fits fit h =
      let few = h.few in
      let long = h.long in
      record {
        few = omega arith;
        long = length-set list n v ∙ long;
        all = λ m b a f. ⊎_elim
            (λ w. put_kept list n k v m (h.all m b w f))
            (λ w. let d : m ≡ v = w ∙ sym e in
            subst (λ (s : ℕ). Among (set list n v) (n + k) s) (sym d) (put_new list n k v (omega arith)
            (fit (subst (λ (s : ℕ). s < 512) d b) (subst (Fit (number_in nums) need) d f))))
            (among_one cand j m a);
        only = λ m a. ⊎_elim
            (λ w. among_more cand j (j + 1) m (omega arith) (h.only m w))
            (λ w. record { at = j; before = omega arith; is = sym e ∙ sym w.1 })
            (put_was list n k v m (omega arith) one a);
        fit = λ m a. ⊎_elim
            (h.fit m)
            (λ w. subst (λ (s : ℕ). (s < 512) × Fit (number_in nums) need s) (sym w.1) (fits w.0))
            (put_was list n k v m (omega arith) one a);
      }

-- after j of the first n of xs: those without number i are the first p of list, and those with it the first q of other
pub record SplitTo (nums xs : List ℕ) (i : ℕ) (list other : List ℕ) (p q j : ℕ) : Type 0 where
  pub few : p + q ≡ j
  pub list_long : length list ≡ 512
  pub other_long : length other ≡ 512
  pub all : (m : ℕ) → m < 512 → Among xs j m → Among list p m ⊎ Among other q m
  pub only : (m : ℕ) → Among list p m ⊎ Among other q m → Among xs j m
  pub without : (m : ℕ) → m < 512 → Among list p m → number_in nums i m ≡ 0
  pub having : (m : ℕ) → Among other q m → 0 < number_in nums i m

module _ (nums xs : List ℕ) (i : ℕ) where
  -- k is 1 where v has the number, and 0 where it has not
  pub split_more : (list other : List ℕ) (p q j k v : ℕ) → j < 512 → v ≡ get_or xs j 0 → k ≤ 1 → (1 ≤ k → 0 < number_in nums i v)
      → (k ≡ 0 → v < 512 → number_in nums i v ≡ 0)
      → SplitTo nums xs i list other p q j → SplitTo nums xs i (set list p v) (set other q v) (p + (1 - k)) (q + k) (j + 1)
  split_more list other p q j k v l e one Some-of zero_of h =
      let few = h.few in
      let ll = h.list_long in
      let ol = h.other_long in
      record {
        few = omega arith;
        list_long = length-set list p v ∙ ll;
        other_long = length-set other q v ∙ ol;
        all = λ m b a. ⊎_elim
            (λ w. ⊎_elim (λ u. inl (put_kept list p (1 - k) v m u)) (λ u. inr (put_kept other q k v m u)) (h.all m b w))
            (λ w. let d : m ≡ v = w ∙ sym e in ⊎_elim
            (λ (u : k < 1). inl (subst (λ (s : ℕ). Among (set list p v) (p + (1 - k)) s) (sym d) (put_new list p (1 - k) v (omega arith) (omega arith))))
            (λ (u : 1 ≤ k). inr (subst (λ (s : ℕ). Among (set other q v) (q + k) s) (sym d) (put_new other q k v (omega arith) u)))
            (lt_or_le k 1))
            (among_one xs j m a);
        only = λ m a. ⊎_elim
            (λ w. ⊎_elim (λ u. among_more xs j (j + 1) m (omega arith) (h.only m (inl u))) (λ u. last m u.1)
            (put_was list p (1 - k) v m (omega arith) (omega arith) w))
            (λ w. ⊎_elim (λ u. among_more xs j (j + 1) m (omega arith) (h.only m (inr u))) (λ u. last m u.1) (put_was other q k v m (omega arith) one w))
            a;
        without = λ m b a. ⊎_elim
            (h.without m b)
            (λ u. let g = u.0 in let d = u.1 in
            subst (λ (s : ℕ). number_in nums i s ≡ 0) (sym d) (zero_of (omega arith) (subst (λ (s : ℕ). s < 512) d b)))
            (put_was list p (1 - k) v m (omega arith) (omega arith) a);
        having = λ m a. ⊎_elim (h.having m) (λ u. subst (λ (s : ℕ). 0 < number_in nums i s) (sym u.1) (Some-of u.0))
            (put_was other q k v m (omega arith) one a);
      }
    where
      last : (m : ℕ) → m ≡ v → Among xs (j + 1) m
      last m d = record { at = j; before = omega arith; is = sym e ∙ sym d }

-- after t of other behind the p of list
pub record AppendedTo (list₀ list other : List ℕ) (p t : ℕ) : Type 0 where
  pub long : length list ≡ 512
  pub first : (m : ℕ) → Among list₀ p m → Among list p m
  pub back : (m : ℕ) → Among list p m → Among list₀ p m
  pub behind : (m : ℕ) → Among other t m → Among list (p + t) m
  pub after : (u : ℕ) → u < t → get_or list (p + u) 0 ≡ get_or other u 0
  pub only : (m : ℕ) → Among list (p + t) m → Among list₀ p m ⊎ Among other t m

module _ (list₀ other : List ℕ) (p : ℕ) where
  pub appended_more : (list : List ℕ) (t : ℕ) → p + t < 512 → AppendedTo list₀ list other p t → AppendedTo list₀
      (set list (p + t) (get_or other t 0)) other p (t + 1)
  appended_more list t l h = record {
    long = length-set list (p + t) (get_or other t 0) ∙ h.long;
    first = λ m a. set_above list p (p + t) (get_or other t 0) m (omega arith) (h.first m a);
    back = λ m a. h.back m (set_below list p (p + t) (get_or other t 0) m (omega arith) a);
    behind = λ m a. let long = h.long in let e : p + t + 1 ≡ p + (t + 1) = omega arith in subst
        (λ (n : ℕ). Among (set list (p + t) (get_or other t 0)) n m) e (⊎_elim
        (λ w. put_kept list (p + t) 1 (get_or other t 0) m (h.behind m w))
        (λ w. subst (λ (s : ℕ). Among (set list (p + t) (get_or other t 0)) (p + t + 1) s) (sym w)
        (put_new list (p + t) 1 (get_or other t 0) (omega arith) (omega arith)))
        (among_one other t m a));
    after = λ u q.
        let long = h.long in
        upto (λ k. get_or (set list (p + t) (get_or other t 0)) (p + k) 0 ≡ get_or other k 0) t
        (λ k w. get_or-set_other list (p + t) (p + k) (get_or other t 0) 0 (λ e. omega arith) ∙ h.after k w)
        (get_or-set_same list (p + t) (get_or other t 0) 0 (omega arith)) u q;
    only = λ m a.
        let long = h.long in
        ⊎_elim
        (λ w. ⊎_elim (λ u. inl u) (λ u. inr (among_more other t (t + 1) m (omega arith) u)) (h.only m w))
        (λ w. inr (record { at = t; before = omega arith; is = sym w.1 }))
        (put_was list (p + t) 1 (get_or other t 0) m (omega arith) (omega arith) (among_more _ (p + (t + 1)) (p + t + 1) m (omega arith) a));
  }

-- what stands behind the first p is of the other list
pub behind_is : (xs other : List ℕ) (p q j : ℕ) → ((t : ℕ) → t < q → get_or xs (p + t) 0 ≡ get_or other t 0) → p ≤ j → j < p + q → Among other q (get_or xs j 0)
behind_is xs other p q j f l b =
    let e : p + (j - p) ≡ j = omega arith in
    record { at = j - p; before = omega arith; is = sym (f (j - p) (omega arith)) ∙ ap (λ (u : ℕ). get_or xs u 0) e }

-- ---- a list divided by a number that is needed

-- those that fit, as a list of their own
fitting_part : (nums need cand some : List ℕ) (n : ℕ) → length some ≡ 512 → Fitting nums need cand (length cand) some n
    → Fitting nums need cand (length cand) (take n some) n
fitting_part nums need cand some n long f =
    let room = f.room in
    let e : length (take n some) ≡ n = omega (arith, length-take n some) in
    record {
      all = λ m b a g. subst (λ (u : ℕ). Among (take n some) u m) e (to_part some n m (omega arith) (f.all m b a g));
      only = λ m a. f.only m (of_part some n n m (omega arith) a);
      fit = λ m a. f.fit m (of_part some n n m (omega arith) a);
      few = f.few;
      room = f.room;
    }

pub divided_by : (nums need cand list some list' : List ℕ) (n i p : ℕ) → i < 18 → length cand ≤ 512 → 0 < get_or need i 0 → length some ≡ 512
    → Fitting nums need cand (length cand) some n → (length list ≡ 512 → Split nums (take n some) (length (take n some)) i list' p)
    → Divided nums need cand list list' (Some (record { number = i; without = p; count = n }))
divided_by nums need cand list some list' n i p l room z wide few split =
    let f = fitting_part nums need cand some n wide few in
    let under = f.room in
    let e : length (take n some) ≡ n = omega (arith, length-take n some) in (
      l,
      λ long. let s = subst (λ (u : ℕ). Split nums (take n some) u i list' p) e (split long) in record {
        room = room;
        needed = z;
        all = λ m b a g. s.all m b (f.all m b a g);
        only = λ m a. f.only m (s.only m a);
        fit = λ m a. f.fit m (s.only m a);
        without = s.without;
        having = s.having;
        order = s.order;
        few = f.few;
        long = s.long;
      },
    )
