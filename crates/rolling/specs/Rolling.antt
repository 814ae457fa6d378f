-- Document 02, W1: a row arrives in the live frame, and the dilated frame kept beside it is brought up to date. What a call promises.
use Rattle.std.specs.Prelude.{◌≡◌, Bool, false, not, ◌&&◌, ◌||◌, List, [], ◌∷◌, ◌++◌, ℕ, suc, ◌+◌, ◌-◌, ◌*◌, ◌<◌, max, T, ltb, eqb, pos, nat_abs, length, get_or, drop}
use Rattle.plane.specs.Lists.{In}
use Rattle.plane.specs.Point.{Point, PointSet}
use Rattle.words.specs.Ground.{Test, stated, result, Answered}
use Rattle.words.specs.Ground.{Answer}
use Rattle.shapes.specs.Plan.{plan_points, plan_tests}
use Rattle.grids.specs.Frame.{bad_size, wrong_length, bad_cell}
use Rattle.grids.specs.Rules.{Gives}
use Rattle.cleaning.specs.Operation.{as_read}
use Rattle.cleaning.specs.declared.Operation.TheVariants.{Dilation}

-- ---- the frames

-- a new row arrives as the last row, row 0 leaves, and the others move by one
abbrev pub rolled : ℕ → List ℕ → List ℕ → List ℕ
rolled W live row = drop W live ++ row

-- the greatest |y| of a list of points; 0 of none
unfoldable pub greatest_y : List Point → ℕ
greatest_y [] = 0
greatest_y (p ∷ P) = max (nat_abs p.1) (greatest_y P)

-- row r lies farther than Y from row 0 and from the last row, H − 1
abbrev pub farther : ℕ → ℕ → ℕ → Bool
farther H Y r = ltb Y r && ltb Y (H - 1 - r)

-- the dilation of the frame f by the points A gives v at the point p
abbrev pub DilatedTo : ℕ → ℕ → List ℕ → PointSet → Point → ℕ → Type 0
DilatedTo W H f A p v = Gives false A (as_read Dilation W H f) p v

-- ---- grounds

-- ground 15: the arriving row isn't W cells long
abbrev pub wrong_row : ℕ → List ℕ → Bool
wrong_row W row = not (eqb (length row) W)

-- grounds 1 to 3 and 5 to 8 of the plan, 11, 12 over both frames, 15, and 13 over both frames and the row
unfoldable pub arrival_tests : List ℕ → ℕ → ℕ → List ℕ → List ℕ → List ℕ → List Test
unfolding plan_tests
arrival_tests plan W H row live kept =
    plan_tests plan
    ++ (11, bad_size W H)
    ∷ (12, wrong_length W H live || wrong_length W H kept)
    ∷ (15, wrong_row W row)
    ∷ (13, bad_cell live || bad_cell kept || bad_cell row)
    ∷ []

-- ---- the call

-- the live frame is live' then and the kept frame kept': rows that after the move lie farther from row 0 and from the last row than the greatest |y| of the
-- points P are only moved, even in a kept frame that was wrong; the others are worked out anew
pub record Rolled (P : List Point) (W H : ℕ) (row live kept live' kept' : List ℕ) : Type 0 where
  pub shown : live' ≡ rolled W live row
  pub size : length kept' ≡ W * H
  pub moved : (x r : ℕ) → x < W → r < H → T (farther H (greatest_y P) r) → get_or kept' (r * W + x) 0 ≡ get_or kept (suc r * W + x) 0
  pub anew : (x r : ℕ) → x < W → r < H → T (not (farther H (greatest_y P) r)) → DilatedTo W H live' (In P) (pos x, pos r) (get_or kept' (r * W + x) 0)

-- where a ground holds, the first is the answer and both frames stay as they are; else the result is 0 and the row arrived
abbrev pub Arrived : List ℕ → ℕ → ℕ → List ℕ → List ℕ → List ℕ → Answer → List ℕ → List ℕ → Type 0
Arrived plan W H row live kept r live' kept' =
    Answered (arrival_tests plan W H row live kept) r ((live' ≡ live) × (kept' ≡ kept))
    ((stated r ≡ result 0) × Rolled (plan_points plan) W H row live kept live' kept')
