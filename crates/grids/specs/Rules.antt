-- Document 02, W5: what dilation and erosion give at a point of the plane, by the cells that are covered there. The points may be any set.
use Rattle.std.specs.Prelude.{◌≡◌, ◌⊎◌, Bool, true, false, ℕ}
use Rattle.plane.specs.Point.{Point, PointSet, ◌+ᵖ◌, ◌-ᵖ◌}

-- the cells covered at p are p − a for dilation and p + a for erosion, for each point a of the shape
abbrev pub covered : Bool → Point → Point → Point
covered false p a = p -ᵖ a
covered true p a = p +ᵖ a

-- some covered cell is v
abbrev pub SomeCovered : Bool → PointSet → (Point → ℕ) → Point → ℕ → Type 0
SomeCovered erode A f p v = (a : Point) × A a × (f (covered erode p a) ≡ v)

-- 1 if some is 1, else 2 if some is 2, else 0
abbrev pub Greatest : (ℕ → Type 0) → ℕ → Type 0
Greatest Some v = ((v ≡ 1) × Some 1) ⊎ (((v ≡ 2) × (¬ Some 1) × Some 2) ⊎ ((v ≡ 0) × (¬ Some 1) × (¬ Some 2)))

-- 0 if some is 0, else 2 if some is 2, else 1
abbrev pub Least : (ℕ → Type 0) → ℕ → Type 0
Least Some v = ((v ≡ 0) × Some 0) ⊎ (((v ≡ 2) × (¬ Some 0) × Some 2) ⊎ ((v ≡ 1) × (¬ Some 0) × (¬ Some 2)))

-- dilation, or erosion, of the picture f by the points A gives v at p
abbrev pub Gives : Bool → PointSet → (Point → ℕ) → Point → ℕ → Type 0
Gives false A f p v = Greatest (SomeCovered false A f p) v
Gives true A f p v = Least (SomeCovered true A f p) v

-- and gives the picture g
abbrev pub Makes : Bool → PointSet → (Point → ℕ) → (Point → ℕ) → Type 0
Makes erode A f g = (p : Point) → Gives erode A f p (g p)
