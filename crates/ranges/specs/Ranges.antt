-- What is written to an image of cells, row 0 first: a range of its indices, its first columns and rows, or its first bytes. Row y, column x of w columns
-- stands at y * w + x.
use Rattle.std.specs.Prelude.{◌≡◌, Bool, not, List, ◌++◌, ℕ, ◌+◌, ◌*◌, ◌<◌, ◌≤◌, T, length, get_or, drop}

-- d' is f on the indices from p to e, and d elsewhere
pub record Ranged {A : Type 0} (z : A) (p e : ℕ) (f : ℕ → A) (d d' : List A) : Type 0 where
  pub len : length d' ≡ length d
  pub at : (k : ℕ) → p ≤ k → k < e → get_or d' k z ≡ f k
  pub below : (k : ℕ) → k < p → get_or d' k z ≡ get_or d k z
  pub above : (k : ℕ) → e ≤ k → get_or d' k z ≡ get_or d k z

-- d' is d with F at each cell of w columns and h rows; past them it is unchanged
pub record Laid (F : ℕ → ℕ → ℕ) (w h : ℕ) (d d' : List ℕ) : Type 0 where
  pub len : length d' ≡ length d
  pub at : (x y : ℕ) → x < w → y < h → get_or d' (y * w + x) 0 ≡ F x y
  pub past : (k : ℕ) → w * h ≤ k → get_or d' k 0 ≡ get_or d k 0

-- the image d whose first n bytes are written with those of g; the rest is unchanged
abbrev pub over_front : ℕ → List ℕ → List ℕ → List ℕ
over_front n g d = g ++ drop n d

-- work was done on the image d where the test t holds, and d was left alone where it does not; r says which, and d' is d then
pub record Fitted (t : Bool) (Work : Type 0) (d : List ℕ) (r : Bool) (d' : List ℕ) : Type 0 where
  pub answer : r ≡ t
  pub done : T t → Work
  pub kept : T (not t) → d' ≡ d

-- the image d was written over with the grid g of n bytes where t holds
abbrev pub Written : Bool → ℕ → List ℕ → List ℕ → Bool → List ℕ → Type 0
Written t n g d r d' = Fitted t (d' ≡ over_front n g d) d r d'
