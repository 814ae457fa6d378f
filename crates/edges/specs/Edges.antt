-- Eighteen numbers of a set of cells that add up under ⊕. Sixteen directions, in their order around, each have a greatest value on the set (the support
-- function). A number is the greatest values of two directions less so many times that of the direction between, which is how long the set's edge there is;
-- the last two numbers are the width and the height. All is said in ℕ: a direction's value is what it counts ahead less what it counts behind.
use Rattle.std.specs.Prelude.{◌≡◌, List, [], ◌∷◌, ℕ, ◌+◌, ◌*◌, ◌≤◌, get_or}
use Rattle.rows.specs.Cells.{Cells}

-- direction i is (plus_x i − minus_x i, plus_y i − minus_y i): (1,0) (2,1) (1,1) (1,2) (0,1) (−1,2) (−1,1) (−2,1), and these turned round
unfoldable pub plus_x : ℕ → ℕ
plus_x i = get_or (1 ∷ 2 ∷ 1 ∷ 1 ∷ 0 ∷ 0 ∷ 0 ∷ 0 ∷ 0 ∷ 0 ∷ 0 ∷ 0 ∷ 0 ∷ 1 ∷ 1 ∷ 2 ∷ []) i 0

-- how far direction i goes along y, where it goes up in y
unfoldable pub plus_y : ℕ → ℕ
plus_y i = get_or (0 ∷ 1 ∷ 1 ∷ 2 ∷ 1 ∷ 2 ∷ 1 ∷ 1 ∷ 0 ∷ 0 ∷ 0 ∷ 0 ∷ 0 ∷ 0 ∷ 0 ∷ 0 ∷ []) i 0

-- how far direction i goes along x, where it goes down in x
unfoldable pub minus_x : ℕ → ℕ
minus_x i = get_or (0 ∷ 0 ∷ 0 ∷ 0 ∷ 0 ∷ 1 ∷ 1 ∷ 2 ∷ 1 ∷ 2 ∷ 1 ∷ 1 ∷ 0 ∷ 0 ∷ 0 ∷ 0 ∷ []) i 0

-- how far direction i goes along y, where it goes down in y
unfoldable pub minus_y : ℕ → ℕ
minus_y i = get_or (0 ∷ 0 ∷ 0 ∷ 0 ∷ 0 ∷ 0 ∷ 0 ∷ 0 ∷ 0 ∷ 1 ∷ 1 ∷ 2 ∷ 1 ∷ 2 ∷ 1 ∷ 1 ∷ []) i 0

-- what direction i counts ahead at (x, y)
abbrev pub ahead : ℕ → ℕ → ℕ → ℕ
ahead i x y = plus_x i * x + plus_y i * y

-- what direction i counts behind at (x, y); the direction's value there is what it counts ahead less this
abbrev pub behind : ℕ → ℕ → ℕ → ℕ
behind i x y = minus_x i * x + minus_y i * y

-- direction i has its greatest value on X at (x, y)
pub record Top (i : ℕ) (X : Cells) (x y : ℕ) : Type 0 where
  pub cell : X x y
  pub above : (u v : ℕ) → X u v → ahead i u v + behind i x y ≤ ahead i x y + behind i u v

-- the direction before the one that number i is of; of the width and the height, one of the two opposite directions
unfoldable pub first_direction : ℕ → ℕ
first_direction i = get_or (15 ∷ 0 ∷ 1 ∷ 2 ∷ 3 ∷ 4 ∷ 5 ∷ 6 ∷ 7 ∷ 8 ∷ 9 ∷ 10 ∷ 11 ∷ 12 ∷ 13 ∷ 14 ∷ 0 ∷ 4 ∷ []) i 0

-- the direction after the one that number i is of; of the width and the height, the other of the two
unfoldable pub second_direction : ℕ → ℕ
second_direction i = get_or (1 ∷ 2 ∷ 3 ∷ 4 ∷ 5 ∷ 6 ∷ 7 ∷ 8 ∷ 9 ∷ 10 ∷ 11 ∷ 12 ∷ 13 ∷ 14 ∷ 15 ∷ 0 ∷ 8 ∷ 12 ∷ []) i 0

-- the direction that number i is of; of the width and the height, which have none, any
unfoldable pub middle_of : ℕ → ℕ
middle_of i = get_or (0 ∷ 1 ∷ 2 ∷ 3 ∷ 4 ∷ 5 ∷ 6 ∷ 7 ∷ 8 ∷ 9 ∷ 10 ∷ 11 ∷ 12 ∷ 13 ∷ 14 ∷ 15 ∷ 0 ∷ 0 ∷ []) i 0

-- how many times the direction of number i is the sum of its two neighbours
unfoldable pub times_of : ℕ → ℕ
times_of i = get_or (4 ∷ 1 ∷ 3 ∷ 1 ∷ 4 ∷ 1 ∷ 3 ∷ 1 ∷ 4 ∷ 1 ∷ 3 ∷ 1 ∷ 4 ∷ 1 ∷ 3 ∷ 1 ∷ 0 ∷ 0 ∷ []) i 0

-- number i of X is v: the greatest values of its first and its second direction, less so many times that of its middle direction
pub record Number (i : ℕ) (X : Cells) (v : ℕ) : Type 0 where
  pub x1 : ℕ
  pub y1 : ℕ
  pub x2 : ℕ
  pub y2 : ℕ
  pub x3 : ℕ
  pub y3 : ℕ
  pub first : Top (first_direction i) X x1 y1
  pub second : Top (second_direction i) X x2 y2
  pub middle : Top (middle_of i) X x3 y3
  pub value : v + (behind (first_direction i) x1 y1 + behind (second_direction i) x2 y2 + times_of i * ahead (middle_of i) x3 y3)
      ≡ ahead (first_direction i) x1 y1 + ahead (second_direction i) x2 y2 + times_of i * behind (middle_of i) x3 y3

-- the sum of f over a list
abbrev pub summed : (ℕ → ℕ) → List ℕ → ℕ
summed f [] = 0
summed f (m ∷ ms) = f m + summed f ms
