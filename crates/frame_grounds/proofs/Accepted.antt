-- What is known of a frame that no ground refuses: its sides pass, and it has few enough cells that their number fits.
use mathlib.Core.Path.{◌≡◌}
use mathlib.Core.Bool.{false}
use mathlib.Core.List.{List}
use Prim.Native.Nat.{ℕ, ◌*◌, ◌≤◌}
use native.Mathlib.Omega.{arith}
use lib.Dec.{eqb, eqb→eq}
use lib.ListN.{length}
use borrow.Author.Tests.{eqb-true, not-false}
use Rattle.plane.proofs.Tests.{T_false, un_not}
use Rattle.words.specs.Ground.{first_of}
use Rattle.words.proofs.Refusals.{Clear, clear}
use Rattle.grids.specs.Frame.{frame_tests, bad_size, wrong_length}
use Rattle.frame_grounds.proofs.Sides.{few_cells}

-- ground 12 does not hold
pub right_length : (w h : ℕ) (f : List ℕ) → wrong_length w h f ≡ false → length f ≡ w * h
right_length w h f e = eqb-true (length f) (w * h) (not-false (eqb (length f) (w * h)) e)

module _ (w h : ℕ) (f : List ℕ) (z : first_of (frame_tests w h f) ≡ 0) where
  pub frame_clear : Clear (frame_tests w h f)
  unfolding frame_tests
  frame_clear = clear (frame_tests w h f) tt z

  pub size_passes : bad_size w h ≡ false
  unfolding frame_tests
  size_passes = T_false (bad_size w h) frame_clear.0

  pub length_passes : wrong_length w h f ≡ false
  unfolding frame_tests
  length_passes = T_false (wrong_length w h f) frame_clear.1.0

  pub frame_length : length f ≡ w * h
  unfolding frame_tests
  frame_length = eqb→eq (length f) (w * h) (un_not (eqb (length f) (w * h)) frame_clear.1.0)

  pub countable : length f ≤ 0x7fffffff
  countable = omega (arith, frame_length, few_cells w h size_passes)
