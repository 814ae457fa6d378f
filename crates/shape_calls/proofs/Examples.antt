-- Worked cases of the grounds of a shape that is written.
use mathlib.Core.Path.{◌≡◌, refl}
use mathlib.Core.Bool.{true}
use mathlib.Core.List.{◌∷◌}
use lib.ListN.{replicate}
use Rattle.words.specs.Ground.{first_of}
use Rattle.elements.specs.Standing.{no_shape}
use Rattle.elements.specs.declared.Shape.{Shape}
use Rattle.shape_calls.specs.Steps.{writing_tests}

-- one cell at the origin
abbrev cell : Shape
cell = record { fits = true; x = 15; y = 15; rows = 1 ∷ replicate 15 0 }

-- 17 words are enough and 16 are not, and what is no shape comes before that
room_17 : first_of (writing_tests cell (replicate 17 0)) ≡ 0
room_17 = refl

room_16 : first_of (writing_tests cell (replicate 16 0)) ≡ 9
room_16 = refl

range_first : first_of (writing_tests no_shape (replicate 16 0)) ≡ 8
range_first = refl
