-- When a value is the new shape of the points A: it is a shape that stands for them; or it is no shape, and A is out of range or made of none.
use mathlib.Core.Path.{◌≡◌, subst}
use mathlib.Core.Bool.{not}
use mathlib.Core.List.{List}
use lib.Dec.{T}
use Rattle.plane.specs.Lists.{In}
use Rattle.plane.specs.Point.{Point, ◌≐◌}
use Rattle.plane.proofs.Tests.{clash}
use Rattle.shapes.specs.Shape.{out_of_range}
use Rattle.elements.specs.declared.Shape.{Shape}
use Rattle.elements.specs.Standing.{points_of, Sound, no_shape, Made}
use Rattle.shapes.proofs.Range.{range_same}

-- no shape is made of what is none
pub made_none : (Given : Type 0) (A : List Point) (r : Shape) → (Given → ⊥) → r ≡ no_shape → Made Given A r
made_none Given A r f e = record { made = λ g. absurd (f g); far = λ _. e; none = λ _. e }

-- nor of points out of range
pub made_far : (Given : Type 0) (A : List Point) (r : Shape) → (T (not (out_of_range A)) → ⊥) → r ≡ no_shape → Made Given A r
made_far Given A r f e = record { made = λ _ t. absurd (f t); far = λ _. e; none = λ _. e }

-- points in range are those of a value that is a shape and stands for them
pub made_in : (Given : Type 0) (A : List Point) (s : Shape) → Given → In (points_of s) ≐ In A → Sound s → Made Given A s
made_in Given A s g e S = record {
  made = λ _ _. (S, e);
  far = λ u. absurd (clash (out_of_range A) (subst (λ b. T (not b)) (range_same (points_of s) A e) S.range) u);
  none = λ f. absurd (f g);
}
