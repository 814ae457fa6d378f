-- The numbers of the full mask, each tested over its whole table; two such masks together are 4 wide. And the first cell of a row, or that there is none.
use mathlib.Core.Path.{refl}
use mathlib.Core.Bool.{Bool, ◌&&◌}
use mathlib.Core.List.{[], ◌∷◌}
use Prim.Native.Nat.{ℕ, ◌+◌, ◌*◌, ◌<◌, zero-le}
use native.Mathlib.Omega.{arith}
use lib.Dec.{leb, leb→le, ltb, ltb→lt, eqb, eqb→eq, lit<}
use lib.ListN.{get_or}
use Rattle.plane.specs.Lists.{all, up_to}
use Rattle.plane.proofs.Tests.{T_and}
use Rattle.plane.proofs.Member.{each_below}
use Rattle.rows.specs.Cells.{bit, AtMask, AtSum}
use Rattle.edges.specs.Edges.{plus_x, plus_y, minus_x, minus_y, ahead, behind, Top, first_direction, second_direction, middle_of, times_of, Number}
use Rattle.edges.specs.Numbers.{FirstIn, FirstFound}
use Rattle.edges.proofs.Adding.{number_sum, number_origin}
use Rattle.edges.proofs.Directions.{inside}

-- the corner of the full mask where direction i is greatest
corner_x : ℕ → ℕ
corner_x i = get_or (2 ∷ 2 ∷ 2 ∷ 2 ∷ 2 ∷ 0 ∷ 0 ∷ 0 ∷ 0 ∷ 0 ∷ 0 ∷ 0 ∷ 2 ∷ 2 ∷ 2 ∷ 2 ∷ []) i 0

corner_y : ℕ → ℕ
corner_y i = get_or (0 ∷ 2 ∷ 2 ∷ 2 ∷ 2 ∷ 2 ∷ 2 ∷ 2 ∷ 0 ∷ 0 ∷ 0 ∷ 0 ∷ 0 ∷ 0 ∷ 0 ∷ 0 ∷ []) i 0

-- it is a cell, and none of the nine cells has a greater value
corner : ℕ → Bool
corner i = ltb (corner_x i) 3 && (ltb (corner_y i) 3 && eqb (bit 511 (3 * corner_y i + corner_x i)) 1)

not_above_lem : ℕ → ℕ → ℕ → Bool
not_above_lem i u v = leb (ahead i u v + behind i (corner_x i) (corner_y i)) (ahead i (corner_x i) (corner_y i) + behind i u v)

-- each of the sixteen directions is greatest at its corner
top : (i : ℕ) → i < 16 → Top i (AtMask 511) (corner_x i) (corner_y i)
unfolding plus_x plus_y minus_x minus_y corner_x corner_y corner not_above_lem
top i l =
    let c = (T_and (ltb (corner_x i) 3) (ltb (corner_y i) 3 && eqb (bit 511 (3 * corner_y i + corner_x i)) 1)).0 (each_below corner 16 tt i l) in
    let d = (T_and (ltb (corner_y i) 3) (eqb (bit 511 (3 * corner_y i + corner_x i)) 1)).0 c.1 in
    record {
      cell = record { column = ltb→lt (corner_x i) 3 c.0; row = ltb→lt (corner_y i) 3 d.0; set = eqb→eq _ _ d.1 };
      above = λ u v h. leb→le _ _
          (each_below (not_above_lem i u) 3 (each_below (λ u. all (not_above_lem i u) (up_to 3)) 3
          (each_below (λ i. all (λ u. all (not_above_lem i u) (up_to 3)) (up_to 3)) 16 tt i l) u h.column) v h.row);
    }

-- the eighteen numbers of the full mask: four edges 2 long, no other, 2 wide and 2 high
full_number : ℕ → ℕ
full_number i = get_or (2 ∷ 0 ∷ 0 ∷ 0 ∷ 2 ∷ 0 ∷ 0 ∷ 0 ∷ 2 ∷ 0 ∷ 0 ∷ 0 ∷ 2 ∷ 0 ∷ 0 ∷ 0 ∷ 2 ∷ 2 ∷ []) i 0

-- what a direction counts ahead and behind at its corner
abbrev ahead_most : ℕ → ℕ
ahead_most i = ahead i (corner_x i) (corner_y i)

abbrev behind_most : ℕ → ℕ
behind_most i = behind i (corner_x i) (corner_y i)

-- a number is that of its three directions, each at its corner
by_corners : ℕ → Bool
by_corners i = eqb (full_number i + (behind_most (first_direction i) + behind_most (second_direction i) + times_of i * ahead_most (middle_of i)))
    (ahead_most (first_direction i) + ahead_most (second_direction i) + times_of i * behind_most (middle_of i))

full : (i : ℕ) → i < 18 → Number i (AtMask 511) (full_number i)
unfolding plus_x plus_y minus_x minus_y first_direction second_direction middle_of times_of corner_x corner_y full_number by_corners
full i l = record {
  x1 = corner_x (first_direction i);
  y1 = corner_y (first_direction i);
  x2 = corner_x (second_direction i);
  y2 = corner_y (second_direction i);
  x3 = corner_x (middle_of i);
  y3 = corner_y (middle_of i);
  first = top (first_direction i) (omega (arith, (inside i l).first));
  second = top (second_direction i) (omega (arith, (inside i l).second));
  middle = top (middle_of i) (omega (arith, (inside i l).middle));
  value = eqb→eq _ _ (each_below by_corners 18 tt i l);
}

pub width_of_two : Number 16 (AtSum (511 ∷ 511 ∷ [])) 4
unfolding full_number
width_of_two = let w = full 16 (lit< tt) in number_sum w (number_sum w number_origin)

-- column 0 is the first of a row with column 0 alone
first_column_lem : FirstIn 1 0
first_column_lem = record { cell = refl; all = λ x h. zero-le }

-- a row without a cell is answered by 16
no_column : FirstFound 0 16
no_column = record { some = λ p. absurd (omega arith); none = λ e. refl }
