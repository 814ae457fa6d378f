-- Columns and rows against the flat index: row y, column x of a grid of w columns stands at y * w + x.
use mathlib.Core.Path.{◌≡◌, ap}
use mathlib.Core.Logic.{⊎_elim}
use Prim.Native.Nat.{ℕ, ◌+◌, ◌*◌, ◌<◌, ◌≤◌}
use native.Mathlib.Nat.{mul-le-mul_right, add-mul, mul_comm}
use native.Mathlib.Omega.{arith}
use Rattle.plane.proofs.Tests.{lt_or_le}

-- a row ends before a later one begins
pub rows_apart : (w y y' : ℕ) → y < y' → y * w + w ≤ y' * w
rows_apart w y y' l =
    let a : (y + 1) * w ≤ y' * w = mul-le-mul_right w (omega arith) in omega (arith, add-mul y 1 w)

-- a cell of the grid stands within it
pub flat_lt : (w h x y : ℕ) → x < w → y < h → y * w + x < w * h
flat_lt w h x y lx ly = omega (arith, rows_apart w y h ly, mul_comm w h)

-- two cells of the grid that stand at one index are one cell
pub flat_inj : (w x y x' y' : ℕ) → x < w → x' < w → y * w + x ≡ y' * w + x' → x ≡ x'
flat_inj w x y x' y' l l' e =
    ⊎_elim
    (λ (u : y < y'). absurd (let a = rows_apart w y y' u in omega arith))
    (λ (u : y' ≤ y). ⊎_elim (λ (v : y' < y). absurd (let a = rows_apart w y' y v in omega arith))
    (λ (v : y ≤ y'). let q : y ≡ y' = omega arith in omega (arith, ap (λ (n : ℕ). n * w) q)) (lt_or_le y' y))
    (lt_or_le y y')
