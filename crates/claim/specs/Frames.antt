-- What the owner's demand 2 speaks of, in the documents' own words: what grids, parts and arriving rows are, by the rules of document 02, W5, on the plane. Of
-- the crates below it names frames with a value outside them.
use Rattle.std.specs.Prelude.{◌≡◌, ◌⊎◌, Bool, true, false, List, ℕ, suc, ◌+◌, ◌-◌, ◌*◌, ◌<◌, pos, nat_abs, ◌-ℤ◌, length, get_or, drop}
use Rattle.plane.specs.Point.{Point, PointSet, ◌+ᵖ◌, ◌-ᵖ◌}
use Rattle.words.specs.Ground.{stated, result}
use Rattle.words.specs.Ground.{Answer}
use Rattle.grids.specs.Frame.{free, full, frame, grid_size}
use Rattle.grids.specs.declared.Around.{Around}
use Rattle.grids.specs.declared.Around.TheVariants.{Free, Occupied}
use Rattle.cleaning.specs.declared.Operation.{Operation}
use Rattle.cleaning.specs.declared.Operation.TheVariants.{Dilation, Erosion, Opening, Closing}

-- ---- the rules

-- v is a if some cell is a, else b if some is b, else c
abbrev pub Else : ℕ → ℕ → ℕ → (ℕ → Type 0) → ℕ → Type 0
Else a b c Some v = ((v ≡ a) × Some a) ⊎ (((v ≡ b) × (¬ Some a) × Some b) ⊎ ((v ≡ c) × (¬ Some a) × (¬ Some b)))

-- dilation gives 1 if some covered cell is 1, else 2 if some is 2, else 0; the cells covered at p are p − a, for each point a of A
abbrev pub Dilated : PointSet → (Point → ℕ) → Point → ℕ → Type 0
Dilated A f p = Else 1 2 0 (λ v. (a : Point) × A a × (f (p -ᵖ a) ≡ v))

-- erosion gives 0 if some covered cell is 0, else 2 if some is 2, else 1; the cells covered at p are p + a
abbrev pub Eroded : PointSet → (Point → ℕ) → Point → ℕ → Type 0
Eroded A f p = Else 0 2 1 (λ v. (a : Point) × A a × (f (p +ᵖ a) ≡ v))

-- the picture g is the dilation, or the erosion, of the picture f
abbrev pub DilationOf : PointSet → (Point → ℕ) → (Point → ℕ) → Type 0
DilationOf A f g = (p : Point) → Dilated A f p (g p)

abbrev pub ErosionOf : PointSet → (Point → ℕ) → (Point → ℕ) → Type 0
ErosionOf A f g = (p : Point) → Eroded A f p (g p)

-- ---- grids, of either kind (document 02, W3)

-- the plane cell that the byte in column x and row y is
abbrev pub byte_at : Around → ℕ → ℕ → Point
byte_at Free x y = (pos x, pos y)
byte_at Occupied x y = (pos x -ℤ pos 15, pos y -ℤ pos 15)

-- how far a plane cell is from the first byte's
abbrev pub from_start : Around → Point → Point
from_start Free p = p
from_start Occupied p = p +ᵖ (pos 15, pos 15)

-- what the plane is outside the grid, and around a frame
abbrev pub beyond : Around → ℕ
beyond Free = 0
beyond Occupied = 1

-- the plane as the grid g, and what is outside it, has it
abbrev pub grid_plane : Around → ℕ → ℕ → List ℕ → Point → ℕ
grid_plane k W H g p = frame (beyond k) (W + 15) (H + 15) g (from_start k p)

-- 0 is answered, and the image i then is i': each byte of its grid is what Is says of its plane cell; its length and the bytes past the grid stay
pub record GridIs (k : Around) (W H : ℕ) (Is : Point → ℕ → Type 0) (i : List ℕ) (r : Answer) (i' : List ℕ) : Type 0 where
  pub answer : stated r ≡ result 0
  pub size : length i' ≡ length i
  pub past : drop (grid_size W H) i' ≡ drop (grid_size W H) i
  pub cell : (x y : ℕ) → x < W + 15 → y < H + 15 → Is (byte_at k x y) (get_or i' (y * (W + 15) + x) 0)

-- what a single stage gives of a picture, by erosion or by dilation
abbrev pub StageGives : Bool → PointSet → (Point → ℕ) → Point → ℕ → Type 0
StageGives true A f = Eroded A f
StageGives false A f = Dilated A f

-- ---- the four operations

-- the picture g that an operation makes of the frame and the points A: erosion alone reads cells outside the frame as occupied, opening and closing as free, in
-- both their halves
abbrev pub OperationGives : Operation → ℕ → ℕ → List ℕ → PointSet → (Point → ℕ) → Type 0
OperationGives Dilation W H f A g = DilationOf A (frame free W H f) g
OperationGives Erosion W H f A g = ErosionOf A (frame full W H f) g
OperationGives Opening W H f A g = (h : Point → ℕ) × ErosionOf A (frame free W H f) h × DilationOf A h g
OperationGives Closing W H f A g = (h : Point → ℕ) × DilationOf A (frame free W H f) h × ErosionOf A h g

-- W × H cells p are the picture that the operation makes, cut to the frame at the end
pub record PartIs (op : Operation) (W H : ℕ) (f : List ℕ) (A : PointSet) (p : List ℕ) : Type 0 where
  pub picture : Point → ℕ
  pub gives : OperationGives op W H f A picture
  pub size : length p ≡ W * H
  pub cell : (x y : ℕ) → x < W → y < H → get_or p (y * W + x) 0 ≡ picture (pos x, pos y)

-- ---- an arriving row

-- row r lies farther from row 0, and from the last of H rows, than each point of A from its row
abbrev pub Farther : PointSet → ℕ → ℕ → Type 0
Farther A H r = (p : Point) → A p → (nat_abs p.1 < r) × (nat_abs p.1 < H - 1 - r)

-- 0 is answered; the live frame has its rows 1 to H − 1 then, and the arriving row as the last; of the kept frame, a row that lies farther from both ends than
-- the points A reach is the next row of before, and every other is what dilation by A gives of the live frame as it is then
pub record RowShows (A : PointSet) (W H : ℕ) (row live kept : List ℕ) (s : Answer) (live' kept' : List ℕ) : Type 0 where
  pub answer : stated s ≡ result 0
  pub live_size : length live' ≡ W * H
  pub next : (x r : ℕ) → x < W → suc r < H → get_or live' (r * W + x) 0 ≡ get_or live (suc r * W + x) 0
  pub last : (x r : ℕ) → x < W → suc r ≡ H → get_or live' (r * W + x) 0 ≡ get_or row x 0
  pub kept_size : length kept' ≡ W * H
  pub far : (x r : ℕ) → x < W → r < H → Farther A H r → get_or kept' (r * W + x) 0 ≡ get_or kept (suc r * W + x) 0
  pub near : (x r : ℕ) → x < W → r < H → ¬ Farther A H r → Dilated A (frame free W H live') (pos x, pos r) (get_or kept' (r * W + x) 0)
