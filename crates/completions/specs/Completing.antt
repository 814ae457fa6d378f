-- What the quick search answers of a partial sum: that no masks of a list complete it to the target. Masks are taken in any order and any of them more than
-- once; which are permitted, and the numbers of each, are parameters.
use Rattle.std.specs.Prelude.{◌≡◌, Bool, ◌⊎◌, List, ◌∷◌, ℕ, suc, ◌+◌, ◌*◌, ◌≤◌, ◌<◌, T, length, get_or, Option, MatchOption}
use Rattle.plane.specs.Lists.{In}
use Rattle.edges.specs.Edges.{summed}
use Rattle.rows.specs.Cells.{Cells, Same, Sum, Residue, At, AtMask, AtOrigin, AtSum, chosen}
use Rattle.completions.specs.declared.Here.{Here}

-- the masks L, each permitted, complete Y to A
pub record Fills (permitted : ℕ → Bool) (A Y : Cells) (L : List ℕ) : Type 0 where
  pub masks : (m : ℕ) → In L m → T (permitted m)
  pub whole : Same A (Sum Y (AtSum L))

-- m is one of the first n of xs
pub record Among (xs : List ℕ) (n m : ℕ) : Type 0 where
  pub at : ℕ
  pub before : at < n
  pub is : get_or xs at 0 ≡ m

-- each of L is one of the first n of xs
abbrev pub From : List ℕ → ℕ → List ℕ → Type 0
From xs n L = (m : ℕ) → In L m → Among xs n m

-- no k masks or fewer of the first n of xs complete Y to A
pub record None (permitted : ℕ → Bool) (A Y : Cells) (xs : List ℕ) (n k : ℕ) : Type 0 where
  pub no : (L : List ℕ) → Fills permitted A Y L → From xs n L → length L ≤ k → ⊥

-- none of them with m among them
pub record NoneThrough (permitted : ℕ → Bool) (A Y : Cells) (xs : List ℕ) (n k m : ℕ) : Type 0 where
  pub no : (L : List ℕ) → Fills permitted A Y (m ∷ L) → From xs n L → length L < k → ⊥

-- of the first n of xs those from r on were tried: what completes Y to A has none of them
pub record Spent (permitted : ℕ → Bool) (A Y : Cells) (xs : List ℕ) (n r k : ℕ) : Type 0 where
  pub left : (L : List ℕ) → Fills permitted A Y L → From xs n L → length L ≤ k → From xs r L
  pub gone : (j : ℕ) → r ≤ j → j < n → NoneThrough permitted A Y xs n k (get_or xs j 0)

-- what is known of a partial sum Y: the residue of the target, and the eighteen numbers that what completes it has in all
pub record Open (permitted : ℕ → Bool) (num : ℕ → ℕ → ℕ) (A Y T : Cells) (need : List ℕ) : Type 0 where
  pub left : Same T (Residue A Y)
  pub counts : (L : List ℕ) → Fills permitted A Y L → (i : ℕ) → i < 18 → summed (num i) L ≡ get_or need i 0

-- no number of m is above what is needed
pub record Fit (num : ℕ → ℕ → ℕ) (need : List ℕ) (m : ℕ) : Type 0 where
  pub below : (i : ℕ) → i < 18 → num i m ≤ get_or need i 0

-- b has the cells of m and leaves no less of T than m does: in the place of m it completes what m completes
pub record Replaces (T : Cells) (m b : ℕ) : Type 0 where
  pub cells : (x y : ℕ) → AtMask m x y → AtMask b x y
  pub rest : (x y : ℕ) → Residue T (AtMask m) x y → Residue T (AtMask b) x y

-- ---- as programs handle them

-- number i of the mask m in a flat table of eighteen numbers for each mask
abbrev pub number_in : List ℕ → ℕ → ℕ → ℕ
number_in nums i m = get_or nums (m * 18 + i) 0

-- X has a cell in column 0 and one in column w, one in row 0 and one in row h
pub record Spans (X : Cells) (w h : ℕ) : Type 0 where
  pub left : (y : ℕ) × X 0 y
  pub right : (y : ℕ) × X w y
  pub low : (x : ℕ) × X x 0
  pub high : (x : ℕ) × X x h

-- what is known of each permitted mask: it is one of 512, it reaches from 0 to its width and height, and it has one or the other
pub record Masks (permitted : ℕ → Bool) (nums : List ℕ) : Type 0 where
  pub below : (m : ℕ) → T (permitted m) → m < 512
  pub spans : (m : ℕ) → T (permitted m) → Spans (AtMask m) (number_in nums 16 m) (number_in nums 17 m)
  pub some : (m : ℕ) → T (permitted m) → 1 ≤ number_in nums 16 m + number_in nums 17 m

-- the target of a state, and its partial sum
abbrev pub aim_of : Here → Cells
aim_of here = At here.target

abbrev pub partial_sum : Here → Cells
partial_sum here = AtSum (chosen here.path here.len)

-- the width and the height that are needed, together
abbrev pub extents_of : Here → ℕ
extents_of here = get_or here.need 16 0 + get_or here.need 17 0

-- what a state keeps: the path has the masks of the partial sum, rest its residue, and need the numbers that are needed
pub record Ready (permitted : ℕ → Bool) (nums : List ℕ) (here : Here) : Type 0 where
  pub known : Masks permitted nums
  pub state : Open permitted (number_in nums) (aim_of here) (partial_sum here) (At here.rest) here.need

-- r is the state below by the mask m
pub record Below (nums : List ℕ) (here : Here) (m : ℕ) (r : Here) : Type 0 where
  pub same : r.target ≡ here.target
  pub longer : (chosen r.path r.len ≡ m ∷ chosen here.path here.len) × (r.len ≡ here.len + 1)
  pub falls : extents_of r < extents_of here
  pub ready : (permitted : ℕ → Bool) → Ready permitted nums here → T (permitted m) → Ready permitted nums r

-- nothing completes the sum with the mask m, where the path has room for it
pub record Passed (nums : List ℕ) (here : Here) (m : ℕ) : Type 0 where
  pub no : here.len < 32 → (permitted : ℕ → Bool) → Ready permitted nums here → T (permitted m) → (L : List ℕ)
      → Fills permitted (aim_of here) (Sum (partial_sum here) (AtMask m)) L → ⊥

-- the state below by the mask m, or that nothing completes the sum with m; a path of 32 has no room for m
abbrev pub Stepped : List ℕ → Here → ℕ → Option Here → Type 0
Stepped nums here m r = MatchOption r (Passed nums here m) (λ b. (here.len < 32) × Below nums here m b)

-- each mask of a list is permitted
abbrev pub Allowed : (ℕ → Bool) → List ℕ → Type 0
Allowed permitted xs = (m : ℕ) → Among xs (length xs) m → T (permitted m)

-- nothing completes the sum of a state with k masks of a list or fewer
pub record NoneHere (nums : List ℕ) (here : Here) (cand : List ℕ) (k : ℕ) : Type 0 where
  pub no : (permitted : ℕ → Bool) → Ready permitted nums here → Allowed permitted cand → None permitted (aim_of here) (partial_sum here) cand (length cand) k

-- nor with the mask before r among them, where those from r on were tried
pub record NoneBefore (nums : List ℕ) (here : Here) (list : List ℕ) (r k : ℕ) : Type 0 where
  pub no : (permitted : ℕ → Bool) → Ready permitted nums here → Allowed permitted list → Spent permitted (aim_of here) (partial_sum here) list (length list) r k
      → (j : ℕ) → suc j ≡ r → NoneThrough permitted (aim_of here) (partial_sum here) list r k (get_or list j 0)

-- ---- sums and residues by a mask

-- the target is not the sum of the cells of t, the mask m and the masks of the path
abbrev pub Differs : List ℕ → List ℕ → List ℕ → ℕ → ℕ → Type 0
Differs target t path len m = Same (At target) (Sum (Sum (At t) (AtMask m)) (AtSum (chosen path len))) → ⊥

-- what is left of the cells has not the extents that are needed, or nothing was gained of them
abbrev pub Unmet : Cells → List ℕ → List ℕ → Type 0
Unmet X need left = (Spans X (get_or left 16 0) (get_or left 17 0) → ⊥) ⊎ ((get_or left 16 0 ≡ get_or need 16 0) × (get_or left 17 0 ≡ get_or need 17 0))

-- ---- from the start

-- no k masks of a list or fewer sum to the cells, where need has the cells' numbers
pub record NoSum (cells need nums cand : List ℕ) (k : ℕ) : Type 0 where
  pub no : (permitted : ℕ → Bool) → Masks permitted nums → Open permitted (number_in nums) (At cells) AtOrigin (At cells) need → Allowed permitted cand
      → None permitted (At cells) AtOrigin cand (length cand) k
