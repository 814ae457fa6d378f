-- Cells of the window, as programs handle them: sets of cells (x, y) counted from 0, with ⊕ and ⊖ on them, the cells of rows of bits and of a mask, and
-- where a set of cells stands on the plane. The laws say that these are the plane's own ⊕ and ⊖.
use Rattle.std.specs.Prelude.{◌≡◌, List, [], ◌∷◌, ℕ, zero, suc, ◌+◌, ◌*◌, ◌/◌, ◌%◌, ◌^◌, ◌<◌, get_or}
use Rattle.plane.specs.Point.{Point, ◌+ᵖ◌, point}

-- a set of cells is what it says of each cell (x, y)
abbrev pub Cells : Type 1
Cells = ℕ → ℕ → Type 0

-- the same cells
pub record Same (X Y : Cells) : Type 0 where
  pub to : (x y : ℕ) → X x y → Y x y
  pub from : (x y : ℕ) → Y x y → X x y

-- (x, y) lies in X ⊕ Y: it is the sum of a cell of X and a cell of Y
pub record Sum (X Y : Cells) (x y : ℕ) : Type 0 where
  pub x1 : ℕ
  pub y1 : ℕ
  pub x2 : ℕ
  pub y2 : ℕ
  pub left : X x1 y1
  pub right : Y x2 y2
  pub at_x : x1 + x2 ≡ x
  pub at_y : y1 + y2 ≡ y

-- (x, y) lies in the residue X ⊖ Y: each cell of Y, moved by (x, y), lies in X
pub record Residue (X Y : Cells) (x y : ℕ) : Type 0 where
  pub all : (i j : ℕ) → Y i j → X (x + i) (y + j)

-- bit i of n
abbrev pub bit : ℕ → ℕ → ℕ
bit n i = n / 2 ^ i % 2

-- the cells of rows: cell (x, y) is bit x of row y
abbrev pub At : List ℕ → Cells
At rows x y = bit (get_or rows y 0) x ≡ 1

-- the cells of a mask: cell (i, j), i and j from 0 to 2, is bit 3j + i
pub record AtMask (m : ℕ) (i j : ℕ) : Type 0 where
  pub column : i < 3
  pub row : j < 3
  pub set : bit m (3 * j + i) ≡ 1

-- the cell (0, 0) alone
pub record AtOrigin (x y : ℕ) : Type 0 where
  pub at_x : x ≡ 0
  pub at_y : y ≡ 0

-- the sum of a list of masks; with none that is one cell
abbrev pub AtSum : List ℕ → Cells
AtSum [] = AtOrigin
AtSum (m ∷ ms) = Sum (AtMask m) (AtSum ms)

-- the n masks that an array holds from its start, the first of them at n − 1
unfoldable pub chosen : List ℕ → ℕ → List ℕ
chosen masks zero = []
chosen masks (suc n) = get_or masks n 0 ∷ chosen masks n

-- z is the part of X that lies in the window
pub record CutTo (X : Cells) (z : List ℕ) : Type 0 where
  pub to : (x y : ℕ) → At z x y → X x y
  pub from : (x y : ℕ) → X x y → x < 16 → y < 16 → At z x y

-- the points of X, moved by d
pub record Points (X : Cells) (d p : Point) : Type 0 where
  pub x : ℕ
  pub y : ℕ
  pub cell : X x y
  pub at : point (x, y) +ᵖ d ≡ p
