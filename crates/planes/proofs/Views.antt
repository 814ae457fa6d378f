-- A picture of cells where a plane counts them, from column 2 and row 8 on: the cell, or the value outside by the side on which the point lies.
use mathlib.Core.Path.{◌≡◌, ap, ◌∙◌}
use mathlib.Core.Logic.{⊎_elim}
use mathlib.Core.Bool.{Bool}
use mathlib.Core.List.{List}
use Prim.Native.Nat.{ℕ, suc, ◌+◌, ◌-◌, ◌<◌, ◌≤◌}
use native.Mathlib.Nat.{mul_comm}
use native.Mathlib.Omega.{arith}
use lib.IntN.{ℤ, pos, ◌-ℤ◌}
use Rattle.plane.specs.Point.{Point}
use Rattle.plane.proofs.Integer.{diff_ge, diff_lt}
use Rattle.plane.proofs.Tests.{lt_or_le}
use Rattle.masks.specs.Mask.{mask_points}
use Rattle.grids.specs.Image.{value_at, view, cells}
use Rattle.planes.specs.Bits.{bits_over}
use Rattle.grids.proofs.Pictures.{get_d_cells, length_cells}
use Rattle.ranges.proofs.Values.{value_in, value_right, value_under, value_left, value_above}
use Rattle.planes.specs.Planes.{after_stage}

-- outside C columns and R rows a picture of cells has the value outside; column a of row b is its cell (0, 0)
module _ (a b v C R : ℕ) (l : List ℕ) (x y : ℕ) where
  out_left : x < a → value_at v C R l (pos x -ℤ pos a) (pos y -ℤ pos b) ≡ v
  out_left u = ap (λ (c : ℤ). value_at v C R l c (pos y -ℤ pos b)) (diff_lt x a u) ∙ value_left v l C R (a - suc x) (pos y -ℤ pos b)

  in_x : a ≤ x → value_at v C R l (pos x -ℤ pos a) (pos y -ℤ pos b) ≡ value_at v C R l (pos (x - a)) (pos y -ℤ pos b)
  in_x u = ap (λ (c : ℤ). value_at v C R l c (pos y -ℤ pos b)) (diff_ge x a u)

  pub in_both : a ≤ x → b ≤ y → value_at v C R l (pos x -ℤ pos a) (pos y -ℤ pos b) ≡ value_at v C R l (pos (x - a)) (pos (y - b))
  in_both u t = in_x u ∙ ap (λ (c : ℤ). value_at v C R l (pos (x - a)) c) (diff_ge y b t)

  pub out_above : y < b → value_at v C R l (pos x -ℤ pos a) (pos y -ℤ pos b) ≡ v
  out_above t = ⊎_elim
      (λ (u : x < a). out_left u)
      (λ (u : a ≤ x). in_x u ∙ ap (λ (c : ℤ). value_at v C R l (pos (x - a)) c) (diff_lt y b t) ∙ value_above v l C R (x - a) (b - suc y))
      (lt_or_le x a)

  out_right : b ≤ y → C + a ≤ x → value_at v C R l (pos x -ℤ pos a) (pos y -ℤ pos b) ≡ v
  out_right t u = in_both (omega arith) t ∙ value_right v l C R (x - a) (y - b) (omega arith)

  -- on either side
  pub out_side : b ≤ y → (a ≤ x → x < C + a → ⊥) → value_at v C R l (pos x -ℤ pos a) (pos y -ℤ pos b) ≡ v
  out_side t n = ⊎_elim
      (λ (u : x < a). out_left u)
      (λ (u : a ≤ x). ⊎_elim (λ (w : x < C + a). absurd (n u w)) (λ (w : C + a ≤ x). out_right t w) (lt_or_le x (C + a)))
      (lt_or_le x a)

  pub out_under : R + b ≤ y → value_at v C R l (pos x -ℤ pos a) (pos y -ℤ pos b) ≡ v
  out_under t = ⊎_elim
      (λ (u : x < a). out_left u)
      (λ (u : a ≤ x). ⊎_elim
      (λ (w : x < C + a). in_both u (omega arith) ∙ value_under v l C R (x - a) (y - b) (omega arith) (omega arith))
      (λ (w : C + a ≤ x). out_right (omega arith) w)
      (lt_or_le x (C + a)))
      (lt_or_le x a)

-- inside them it has the cell
pub cell_in : (v C R : ℕ) (f : Point → ℕ) (x y : ℕ) → 2 ≤ x → x < C + 2 → 8 ≤ y → y < R + 8
    → view v C R (cells C R f) (pos x -ℤ pos 2, pos y -ℤ pos 8) ≡ f (pos (x - 2), pos (y - 8))
cell_in v C R f x y u u' t t' =
    in_both 2 8 v C R (cells C R f) x y u t
    ∙ value_in v (cells C R f) C R (omega (arith, length_cells C R f, mul_comm C R)) (x - 2) (y - 8) (omega arith) (omega arith)
    ∙ get_d_cells C R f (x - 2) (y - 8) 0 (omega arith) (omega arith)

-- ---- the picture after a stage, which has the value outside

module _ (erode : Bool) (v C R m : ℕ) (f : Point → ℕ) (x y : ℕ) where
  after_cells : List ℕ
  after_cells = cells C R (bits_over erode (mask_points m) f)

  pub after_above : y < 8 → after_stage erode v C R m f (pos x -ℤ pos 2, pos y -ℤ pos 8) ≡ v
  unfolding after_stage after_cells
  after_above u = out_above 2 8 v C R after_cells x y u

  pub after_side : 8 ≤ y → (2 ≤ x → x < C + 2 → ⊥) → after_stage erode v C R m f (pos x -ℤ pos 2, pos y -ℤ pos 8) ≡ v
  unfolding after_stage after_cells
  after_side u n = out_side 2 8 v C R after_cells x y u n

  pub after_under : R + 8 ≤ y → after_stage erode v C R m f (pos x -ℤ pos 2, pos y -ℤ pos 8) ≡ v
  unfolding after_stage after_cells
  after_under u = out_under 2 8 v C R after_cells x y u

  pub after_in : 2 ≤ x → x < C + 2 → 8 ≤ y → y < R + 8
      → after_stage erode v C R m f (pos x -ℤ pos 2, pos y -ℤ pos 8) ≡ bits_over erode (mask_points m) f (pos (x - 2), pos (y - 8))
  unfolding after_stage
  after_in u u' t t' = cell_in v C R (bits_over erode (mask_points m) f) x y u u' t t'
