-- Stages and how far they go, by arithmetic on the mask: one test, computed over the 512 masks and carried to each.
use mathlib.Core.Path.{◌≡◌, refl}
use mathlib.Core.Bool.{Bool, true, false, not, cond, ◌&&◌, ◌||◌}
use mathlib.Core.Logic.{◌⊎◌, inl, inr}
use Prim.Native.Nat.{ℕ, ◌+◌, ◌/◌, ◌%◌, ◌≤◌, ◌<◌}
use native.Mathlib.Omega.{arith}
use lib.Dec.{T, ltb, leb, eqb, eqb→eq, leb→le}
use Rattle.plane.specs.Extent.{x_of, y_of}
use Rattle.plane.specs.Lists.{all, any, up_to, In}
use Rattle.plane.specs.Point.{Cell}
use Rattle.plane.proofs.Member.{each_below, In-any, In-all}
use Rattle.plane.proofs.Tests.{T_and, T_or, clash}
use Rattle.masks.specs.Mask.{stage, mask_cells}
use Rattle.masks.proofs.Bounds.{along}
use Rattle.masks.proofs.Cells.{stage_below}
use Rattle.stage_steps.specs.Reach.{last_row, last_column, reach}

-- ---- the test of a stage

-- what the code tests of a mask below 512
abbrev pub tested : ℕ → Bool
tested m = not (eqb (m % 8) 0) && (not (eqb (m % 2 + m / 8 % 2 + m / 64 % 2) 0) && not (eqb m 1))

agree : Bool → Bool → Bool
agree true b = b
agree false b = not b

agree_eq : (a b : Bool) → T (agree a b) → a ≡ b
unfolding agree
agree_eq true true t = refl
agree_eq true false t = absurd t
agree_eq false true t = absurd t
agree_eq false false t = refl

stage_test : ℕ → Bool
unfolding stage agree
stage_test m = agree (stage m) (tested m)

stage_table : T (all stage_test (up_to 512))
unfolding stage_test
stage_table = tt

pub stage_is : (m : ℕ) → m < 512 → stage m ≡ tested m
unfolding stage_test
stage_is m h = agree_eq (stage m) (tested m) (each_below stage_test 512 stage_table m h)

pub stage_large : (m : ℕ) → 512 ≤ m → stage m ≡ false
stage_large m h = none (stage m) (stage_below m)
  where
    none : (b : Bool) → (T b → m < 512) → b ≡ false
    none true f = absurd (let l = f tt in omega arith)
    none false f = refl

-- ---- how far a stage goes

-- the number of a cell that `reach` looks at: its row, or its column
abbrev pub number_of : Bool → Cell → ℕ
number_of down c = cond down c.1 c.0

-- no cell is past the reach, and some cell is at it
fits_one : Bool → ℕ → Bool
unfolding mask_cells
fits_one down m = all (λ c. leb (number_of down c) (reach down m)) (mask_cells m) && any (λ c. eqb (number_of down c) (reach down m)) (mask_cells m)

-- a stage's reaches are its extents, and they are not both 0
right : ℕ → Bool
unfolding along stage fits_one
right m =
    not (stage m)
    || (eqb (last_column m) (along x_of m) && eqb (last_row m) (along y_of m)) && (fits_one false m && fits_one true m) && leb 1 (last_column m + last_row m)

right_table : T (all right (up_to 512))
unfolding right
right_table = tt

module _ (m : ℕ) (t : T (stage m)) where
  parts : (T (eqb (last_column m) (along x_of m)) × T (eqb (last_row m) (along y_of m))) × (T (fits_one false m) × T (fits_one true m))
      × T (leb 1 (last_column m + last_row m))
  unfolding right
  parts = go ((T_or (not (stage m)) _).0 (each_below right 512 right_table m (stage_below m t)))
    where
      ex : Bool
      ex = eqb (last_column m) (along x_of m) && eqb (last_row m) (along y_of m)

      fs : Bool
      fs = fits_one false m && fits_one true m

      go : T (not (stage m)) ⊎ T (ex && fs && leb 1 (last_column m + last_row m))
          → (T (eqb (last_column m) (along x_of m)) × T (eqb (last_row m) (along y_of m))) × (T (fits_one false m) × T (fits_one true m))
          × T (leb 1 (last_column m + last_row m))
      go (inl n) = absurd (clash (stage m) n t)
      go (inr a) =
          let u = (T_and (ex && fs) (leb 1 (last_column m + last_row m))).0 a in
          let v = (T_and ex fs).0 u.0 in
          ((T_and (eqb (last_column m) (along x_of m)) (eqb (last_row m) (along y_of m))).0 v.0, (T_and (fits_one false m) (fits_one true m)).0 v.1, u.1)

  pub reach_is : (reach false m ≡ along x_of m) × (reach true m ≡ along y_of m)
  reach_is = (eqb→eq (last_column m) (along x_of m) parts.0.0, eqb→eq (last_row m) (along y_of m) parts.0.1)

  pub reach_some : 1 ≤ reach false m + reach true m
  reach_some = leb→le 1 (last_column m + last_row m) parts.2

  one : (down : Bool) → T (fits_one down m)
  one false = parts.1.0
  one true = parts.1.1

  both : (down : Bool) → T (all (λ c. leb (number_of down c) (reach down m)) (mask_cells m)) × T (any (λ c. eqb (number_of down c) (reach down m)) (mask_cells m))
  unfolding fits_one
  both down =
      (T_and (all (λ c. leb (number_of down c) (reach down m)) (mask_cells m)) (any (λ c. eqb (number_of down c) (reach down m)) (mask_cells m))).0 (one down)

  pub reach_all : (down : Bool) (c : Cell) → In (mask_cells m) c → number_of down c ≤ reach down m
  reach_all down c h = leb→le (number_of down c) (reach down m) (In-all (λ c. leb (number_of down c) (reach down m)) (mask_cells m) (both down).0 c h)

  pub reach_cell : (down : Bool) → (c : Cell) × In (mask_cells m) c × (number_of down c ≡ reach down m)
  reach_cell down =
      let r = (In-any (λ c. eqb (number_of down c) (reach down m)) (mask_cells m)).0 (both down).1 in
      (r.0, r.1, eqb→eq (number_of down r.0) (reach down m) r.2)

pub reach_small : (down : Bool) (m : ℕ) → reach down m ≤ 2
reach_small down m = go down
  where
    low : (a b : Bool) → cond a 2 (cond b 1 0) ≤ 2
    low true b = omega arith
    low false true = omega arith
    low false false = omega arith

    go : (down : Bool) → reach down m ≤ 2
    go true = low (leb 64 m) (leb 8 m)
    go false = low (ltb 0 (m / 4 % 2 + m / 32 % 2 + m / 256 % 2)) (ltb 0 (m / 2 % 2 + m / 16 % 2 + m / 128 % 2))
