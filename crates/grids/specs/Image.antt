-- Pictures: a value at each point of the plane. Rows of cells read as a picture and back, and dilation and erosion of a picture by a list of points,
-- with the greater and the lesser of two values given. The values may be of any type.
use Rattle.std.specs.Prelude.{Bool, true, false, cond, ◌&&◌, List, [], ◌∷◌, map, ℕ, ◌+◌, ◌*◌, ltb, ℤ, pos, negsuc, get_or}
use Rattle.plane.specs.Lists.{flat, up_to}
use Rattle.plane.specs.Point.{Point, ◌+ᵖ◌, ◌-ᵖ◌}

module _ {A : Type 0} where
  -- the value at (x, y) of W columns and H rows of values, row 0 first; outside them it is v
  unfoldable pub value_at : A → ℕ → ℕ → List A → ℤ → ℤ → A
  value_at v W H l (pos x) (pos y) = cond (ltb x W && ltb y H) (get_or l (y * W + x) v) v
  value_at v W H l (pos x) (negsuc y) = v
  value_at v W H l (negsuc x) y = v

  abbrev pub view : A → ℕ → ℕ → List A → Point → A
  view v W H l p = value_at v W H l p.0 p.1

  -- the values of a picture at the cells of W columns and H rows, row 0 first
  unfoldable pub cells : ℕ → ℕ → (Point → A) → List A
  cells W H f = flat (λ y. map (λ x. f (pos x, pos y)) (up_to W)) (up_to H)

  -- a list of values and the seed e taken together, two at a time
  abbrev pub fold : (A → A → A) → A → List A → A
  fold pick e [] = e
  fold pick e (v ∷ vs) = pick v (fold pick e vs)

  -- the cells covered at p are p − a for dilation, for each a of the list, and the greatest value of them is taken
  abbrev pub dilated : (A → A → A) → A → List Point → (Point → A) → Point → A
  dilated greater least P f p = fold greater least (map (λ a. f (p -ᵖ a)) P)

  -- the cells covered at p are p + a for erosion, and the least value of them is taken
  abbrev pub eroded : (A → A → A) → A → List Point → (Point → A) → Point → A
  eroded lesser greatest P f p = fold lesser greatest (map (λ a. f (p +ᵖ a)) P)

  -- a picture taken through a list of points, by erosion or by dilation, with the pick of two values and the seed that the kind has
  abbrev pub taken : Bool → (A → A → A) → A → List Point → (Point → A) → Point → A
  taken true pick e P f = eroded pick e P f
  taken false pick e P f = dilated pick e P f
