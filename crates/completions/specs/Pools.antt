-- The list of masks that a partial sum is left with: those of a list that fit what is needed, those without some number that is needed before those with it.
use Rattle.std.specs.Prelude.{◌≡◌, ◌⊎◌, List, ℕ, ◌+◌, ◌≤◌, ◌<◌, length, get_or, Option, MatchOption}
use Rattle.completions.specs.declared.Branch.{Branch}
use Rattle.completions.specs.Completing.{Among, Fit, number_in}

-- those of the first n of xs that are masks and fit what is needed are the first n' of xs'
pub record Fitting (nums need xs : List ℕ) (n : ℕ) (xs' : List ℕ) (n' : ℕ) : Type 0 where
  pub all : (m : ℕ) → m < 512 → Among xs n m → Fit (number_in nums) need m → Among xs' n' m
  pub only : (m : ℕ) → Among xs' n' m → Among xs n m
  pub fit : (m : ℕ) → Among xs' n' m → (m < 512) × Fit (number_in nums) need m
  pub few : n' ≤ n
  pub room : n' ≤ 512

-- the first n of xs are the first n of xs', of which the first p are without number i and the others have it
pub record Split (nums xs : List ℕ) (n i : ℕ) (xs' : List ℕ) (p : ℕ) : Type 0 where
  pub all : (m : ℕ) → m < 512 → Among xs n m → Among xs' n m
  pub only : (m : ℕ) → Among xs' n m → Among xs n m
  pub without : (m : ℕ) → m < 512 → Among xs' p m → number_in nums i m ≡ 0
  pub having : (j : ℕ) → p ≤ j → j < n → 0 < number_in nums i (get_or xs' j 0)
  pub order : p ≤ n
  pub long : length xs' ≡ 512

-- xs has the first p of list and then the first q of other
pub record Appended (list : List ℕ) (p : ℕ) (other : List ℕ) (q : ℕ) (xs : List ℕ) : Type 0 where
  pub first : (m : ℕ) → Among list p m → Among xs (p + q) m
  pub behind : (m : ℕ) → Among other q m → Among xs (p + q) m
  pub back : (m : ℕ) → Among xs p m → Among list p m
  pub after : (t : ℕ) → t < q → get_or xs (p + t) 0 ≡ get_or other t 0
  pub only : (m : ℕ) → Among xs (p + q) m → Among list p m ⊎ Among other q m
  pub long : length xs ≡ 512

-- the list has the candidates that fit, divided by a number that is needed
pub record Parts (nums need cand list : List ℕ) (r : Branch) : Type 0 where
  pub room : length cand ≤ 512
  pub needed : 0 < get_or need r.number 0
  pub all : (m : ℕ) → m < 512 → Among cand (length cand) m → Fit (number_in nums) need m → Among list r.count m
  pub only : (m : ℕ) → Among list r.count m → Among cand (length cand) m
  pub fit : (m : ℕ) → Among list r.count m → (m < 512) × Fit (number_in nums) need m
  pub without : (m : ℕ) → m < 512 → Among list r.without m → number_in nums r.number m ≡ 0
  pub having : (j : ℕ) → r.without ≤ j → j < r.count → 0 < number_in nums r.number (get_or list j 0)
  pub order : r.without ≤ r.count
  pub few : r.count ≤ length cand
  pub long : length list ≡ 512

-- no number is needed, or the candidates are over 512; the list is as it was
pub record Undivided (need cand list list' : List ℕ) : Type 0 where
  pub none : length cand ≤ 512 → (i : ℕ) → i < 18 → get_or need i 0 ≡ 0
  pub still : list' ≡ list

-- the list is divided where a number is needed and the candidates are 512 at most. That the list has 512 words is its type's to say
abbrev pub Divided : List ℕ → List ℕ → List ℕ → List ℕ → List ℕ → Option Branch → Type 0
Divided nums need cand list list' r =
    MatchOption r (Undivided need cand list list') (λ b. (b.number < 18) × (length list ≡ 512 → Parts nums need cand list' b))
