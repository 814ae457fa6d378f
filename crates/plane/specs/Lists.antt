-- Lists as finite sets, and tests that are computed over them.
use Rattle.std.specs.Prelude.{◌≡◌, ◌⊎◌, Bool, true, false, cond, ◌&&◌, ◌||◌, List, [], ◌∷◌, ◌++◌, ℕ, zero, suc, ◌+◌, ◌*◌, ◌/◌, ◌%◌, ◌^◌, eqb}

module _ {A : Type 0} where
  -- a is a member of the list
  abbrev pub In : List A → A → Type 0
  In [] a = ⊥
  In (x ∷ xs) a = (a ≡ x) ⊎ In xs a

  abbrev pub any : (A → Bool) → List A → Bool
  any f [] = false
  any f (x ∷ xs) = f x || any f xs

  abbrev pub all : (A → Bool) → List A → Bool
  all f [] = true
  all f (x ∷ xs) = f x && all f xs

  -- the members that pass
  abbrev pub keep : (A → Bool) → List A → List A
  keep f [] = []
  keep f (x ∷ xs) = let r = keep f xs in cond (f x) (x ∷ r) r

  -- some two neighbours pass
  abbrev pub any_next : (A → A → Bool) → List A → Bool
  any_next f [] = false
  any_next f (x ∷ []) = false
  any_next f (x ∷ y ∷ ys) = f x y || any_next f (y ∷ ys)

abbrev pub flat : {A B : Type 0} → (A → List B) → List A → List B
flat f [] = []
flat f (x ∷ xs) = f x ++ flat f xs

-- k, k + 1, .. , n numbers in all
abbrev pub count_from : ℕ → ℕ → List ℕ
count_from k zero = []
count_from k (suc n) = k ∷ count_from (suc k) n

-- 0, 1, .. , n − 1
abbrev pub up_to : ℕ → List ℕ
up_to n = count_from 0 n

-- the numbers, below n, of the bits that are set in w; bit 0 is the lowest
abbrev pub bits : ℕ → ℕ → List ℕ
bits n w = keep (λ k. eqb (w / 2 ^ k % 2) 1) (up_to n)

-- the number whose n lowest bits are given by b, from b k on
unfoldable pub packed : (ℕ → Bool) → ℕ → ℕ → ℕ
packed b k zero = 0
packed b k (suc n) = cond (b k) 1 0 + 2 * packed b (suc k) n
