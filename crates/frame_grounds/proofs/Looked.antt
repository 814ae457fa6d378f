-- With the greatest number that was found the grounds are those of the frame, or of the grid.
use mathlib.Core.Path.{◌≡◌, refl, ◌∙◌, ap}
use mathlib.Core.Bool.{Bool, true, false, cond, not, ◌||◌}
use mathlib.Core.List.{List}
use Prim.Native.Nat.{ℕ, ◌≤◌}
use native.Mathlib.Omega.{arith}
use lib.Dec.{ltb}
use lib.ListN.{get_or, take}
use Rattle.plane.proofs.Tests.{T_false}
use Rattle.words.specs.Ground.{first_of}
use Rattle.words.specs.Word.{wrong_kind, extra_bit, stage_kind, stage_mask}
use Rattle.words.proofs.Refusals.{clear}
use Rattle.masks.specs.Mask.{stage}
use Rattle.grids.specs.Frame.{highest, bad_size, wrong_length, bad_cell, short_image, grid_size, frame_tests}
use Rattle.grids.specs.Grid.{work_tests, stage_tests}
use Rattle.cell_steps.specs.Leaves.{greatest_of}
use Rattle.cell_steps.proofs.Loops.{greatest_at, greatest_bad}
use Rattle.frame_grounds.specs.Looking.{greatest_cell, greatest_byte, frame_tests_by, work_tests_by, stage_tests_by}

-- a test behind two others counts where both fail, behind one where that fails
behind_two : (a b c c' : Bool) (n : ℕ) → (a ≡ false → b ≡ false → c ≡ c') → cond a 11 (cond b 12 (cond c 13 n)) ≡ cond a 11 (cond b 12 (cond c' 13 n))
behind_two true b c c' n h = refl
behind_two false true c c' n h = refl
behind_two false false c c' n h = ap (λ d. cond d 13 n) (h refl refl)

behind_one : (a c c' : Bool) (n : ℕ) → (a ≡ false → c ≡ c') → cond a 11 (cond c 13 n) ≡ cond a 11 (cond c' 13 n)
behind_one true c c' n h = refl
behind_one false c c' n h = ap (λ d. cond d 13 n) (h refl)

-- ---- what was found

module _ (W H : ℕ) (f : List ℕ) where
  pub cell_unsized : bad_size W H ≡ true → greatest_cell W H f ≡ 0
  unfolding greatest_cell
  cell_unsized e = ap (λ c. cond (c || wrong_length W H f) 0 (greatest_of f)) e

  pub cell_cut : wrong_length W H f ≡ true → greatest_cell W H f ≡ 0
  unfolding greatest_cell
  cell_cut e = ap (λ c. cond (bad_size W H || c) 0 (greatest_of f)) e ∙ ap (λ c. cond c 0 (greatest_of f)) (or_true (bad_size W H))
    where
      or_true : (b : Bool) → (b || true) ≡ true
      or_true true = refl
      or_true false = refl

  pub cell_all : bad_size W H ≡ false → wrong_length W H f ≡ false → greatest_cell W H f ≡ greatest_of f
  unfolding greatest_cell
  cell_all a b = ap (λ c. cond (c || wrong_length W H f) 0 (greatest_of f)) a ∙ ap (λ c. cond c 0 (greatest_of f)) b

  -- so no cell is above it
  pub cell_below : bad_size W H ≡ false → wrong_length W H f ≡ false → (i : ℕ) → get_or f i 0 ≤ greatest_cell W H f
  cell_below a b i = omega (arith, cell_all a b, greatest_at f i)

module _ (W H : ℕ) (g : List ℕ) where
  pub byte_unsized : bad_size W H ≡ true → greatest_byte W H g ≡ 0
  unfolding greatest_byte
  byte_unsized e = ap (λ c. cond c 0 (greatest_of (take (grid_size W H) g))) e

  pub byte_all : bad_size W H ≡ false → greatest_byte W H g ≡ greatest_of (take (grid_size W H) g)
  unfolding greatest_byte
  byte_all e = ap (λ c. cond c 0 (greatest_of (take (grid_size W H) g))) e

  pub byte_below : bad_size W H ≡ false → (i : ℕ) → get_or (take (grid_size W H) g) i 0 ≤ greatest_byte W H g
  byte_below a i = omega (arith, byte_all a, greatest_at (take (grid_size W H) g) i)

-- ---- the grounds

module _ (W H : ℕ) (f : List ℕ) where
  pub cell_decides : bad_size W H ≡ false → wrong_length W H f ≡ false → ltb highest (greatest_cell W H f) ≡ bad_cell f
  cell_decides a b = ap (ltb highest) (cell_all W H f a b) ∙ greatest_bad f

  pub frame_by : first_of (frame_tests_by W H f (greatest_cell W H f)) ≡ first_of (frame_tests W H f)
  unfolding frame_tests_by frame_tests
  frame_by = behind_two (bad_size W H) (wrong_length W H f) (ltb highest (greatest_cell W H f)) (bad_cell f) 0 cell_decides

  pub work_by : (i j : List ℕ) → first_of (work_tests_by W H f (greatest_cell W H f) i j) ≡ first_of (work_tests W H f i j)
  unfolding work_tests_by work_tests
  work_by i j =
      behind_two (bad_size W H) (wrong_length W H f) (ltb highest (greatest_cell W H f)) (bad_cell f)
      (cond (short_image W H i || short_image W H j) 14 0) cell_decides

  pub size_passes_by : (n : ℕ) → first_of (frame_tests_by W H f n) ≡ 0 → bad_size W H ≡ false
  unfolding frame_tests_by
  size_passes_by n z = T_false (bad_size W H) (clear (frame_tests_by W H f n) tt z).0

pub stage_by : (w W H : ℕ) (g i : List ℕ) → first_of (stage_tests_by w W H g (greatest_byte W H g) i) ≡ first_of (stage_tests w W H g i)
unfolding stage_tests_by stage_tests
stage_by w W H g i =
    ap (λ n. cond (wrong_kind stage_kind w) 2 (cond (extra_bit stage_kind w) 3 (cond (not (stage (stage_mask w))) 7 n)))
    (behind_one (bad_size W H) (ltb highest (greatest_byte W H g)) (bad_cell (take (grid_size W H) g))
    (cond (short_image W H g || short_image W H i) 14 0) byte_decides)
  where
    byte_decides : bad_size W H ≡ false → ltb highest (greatest_byte W H g) ≡ bad_cell (take (grid_size W H) g)
    byte_decides a = ap (ltb highest) (byte_all W H g a) ∙ greatest_bad (take (grid_size W H) g)
