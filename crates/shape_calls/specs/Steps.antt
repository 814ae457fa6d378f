-- The steps of the calls on shape lists: a list read into a shape, and a shape written into a list. What the calls promise is in shapes/specs/Calls.antt.
use Rattle.std.specs.Prelude.{◌≡◌, ◌⊎◌, not, List, [], ◌∷◌, map, ℕ}
use Rattle.plane.specs.Lists.{In}
use Rattle.plane.specs.Point.{Point, Cell, point, ◌-ᵖ◌, ◌≐◌}
use Rattle.words.specs.Ground.{Test}
use Rattle.shapes.specs.Calls.{short_output}
use Rattle.lists.specs.Held.{held_cells, held_anchor}
use Rattle.elements.specs.declared.Shape.{Shape}
use Rattle.elements.specs.Standing.{points_of, Sound, no_shape}

-- the points that any list holds as a shape list: its cells less its anchor. Of an accepted list, they are the shape's points
abbrev pub held_points : List ℕ → List Point
held_points ws = map (λ c. point c -ᵖ point (held_anchor ws)) (held_cells ws)

-- the list holds a cell
abbrev pub SomeHeld : List ℕ → Type 0
SomeHeld ws = (c : Cell) × In (held_cells ws) c

-- s is the shape of the points A
pub record StandsFor (A : List Point) (s : Shape) : Type 0 where
  pub sound : Sound s
  pub points : In (points_of s) ≐ In A

-- what the methods return: a shape, or none
abbrev pub Returned : Shape → Type 0
Returned s = Sound s ⊎ (s ≡ no_shape)

-- grounds 8 and 9 for a shape that is written: what is no shape is out of range
abbrev pub writing_tests : Shape → List ℕ → List Test
writing_tests s out = (8, not s.fits) ∷ (9, short_output 17 out) ∷ []
