-- Document 01, "Shapes" and "Words": shape lists, the points that one stands for, grounds 1 to 4 on it, and ground 8 on a set of points.
use Rattle.std.specs.Prelude.{Bool, ◌||◌, List, [], ◌∷◌, map, ℕ, leb, ltb, eqb, ℤ, nat_abs, length, get_or, drop}
use Rattle.plane.specs.Extent.{span, width, height}
use Rattle.plane.specs.Lists.{any, any_next, flat}
use Rattle.plane.specs.Point.{Point, Cell, point, ◌-ᵖ◌}
use Rattle.words.specs.Ground.{Test}
use Rattle.words.specs.Word.{wrong_kind, extra_bit, anchor_kind, row_kind, anchor_x, anchor_y, row_y, row_columns}

-- a shape list is one anchor and then its rows
abbrev pub anchor : List ℕ → Cell
anchor ws = (anchor_x (get_or ws 0 0), anchor_y (get_or ws 0 0))

abbrev pub rows : List ℕ → List ℕ
rows ws = drop 1 ws

abbrev pub row_cells : ℕ → List Cell
row_cells w = map (λ x. (x, row_y w)) (row_columns w)

-- the cells of the window, x and y from 0 to 15
unfoldable pub shape_cells : List ℕ → List Cell
shape_cells ws = flat row_cells (rows ws)

-- its points are (x − ax, y − ay)
unfoldable pub shape_points : List ℕ → List Point
unfolding shape_cells
shape_points ws = map (λ c. point c -ᵖ point (anchor ws)) (shape_cells ws)

-- ---- grounds

-- ground 1: a list is too short or too long
abbrev pub not_within : ℕ → ℕ → List ℕ → Bool
not_within low high ws = ltb (length ws) low || ltb high (length ws)

abbrev pub wrong_shape_length : List ℕ → Bool
wrong_shape_length ws = not_within 2 17 ws

-- ground 2: a word's kind isn't the one its place calls for
abbrev pub wrong_shape_kinds : List ℕ → Bool
wrong_shape_kinds ws = wrong_kind anchor_kind (get_or ws 0 0) || any (wrong_kind row_kind) (rows ws)

-- ground 3: a bit that its kind doesn't name is set
abbrev pub wrong_shape_bits : List ℕ → Bool
wrong_shape_bits ws = extra_bit anchor_kind (get_or ws 0 0) || any (extra_bit row_kind) (rows ws)

-- ground 4: a row has no column, or its y isn't above the row before
abbrev pub empty_row : ℕ → Bool
empty_row w = eqb (length (row_columns w)) 0

abbrev pub not_rising : ℕ → ℕ → Bool
not_rising v w = leb (row_y w) (row_y v)

abbrev pub wrong_shape_rows : List ℕ → Bool
wrong_shape_rows ws = any empty_row (rows ws) || any_next not_rising (rows ws)

-- grounds 1 to 4, each tried over the whole list before the next
unfoldable pub shape_tests : List ℕ → List Test
shape_tests ws = (1, wrong_shape_length ws) ∷ (2, wrong_shape_kinds ws) ∷ (3, wrong_shape_bits ws) ∷ (4, wrong_shape_rows ws) ∷ []

-- ground 8: points have w or h above 15, or an x or y below −15 or above 15
abbrev pub too_far : ℤ → Bool
too_far z = ltb 15 (nat_abs z)

unfoldable pub out_of_range : List Point → Bool
unfolding span
out_of_range A = ltb 15 (width A) || ltb 15 (height A) || any (λ p. too_far p.0 || too_far p.1) A
