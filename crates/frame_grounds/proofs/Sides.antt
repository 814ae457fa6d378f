-- What is known of sides that ground 11 does not refuse: how long they are, and how many cells a frame and its grid have.
use mathlib.Core.Path.{◌≡◌}
use mathlib.Core.Bool.{false}
use Prim.Native.Nat.{ℕ, ◌+◌, ◌*◌, ◌≤◌}
use native.Mathlib.Omega.{arith}
use native.Mathlib.Nat.{mul-le-mul}
use borrow.Author.Tests.{ltb-false}
use lib.Dec.{ltb, eqb}
use Rattle.plane.proofs.Tests.{or_none}
use Rattle.grids.specs.Frame.{bad_side, bad_size, grid_size}

pub sides : (w h : ℕ) → bad_size w h ≡ false → (w ≤ 240) × (h ≤ 240)
sides w h e =
    let u = or_none (bad_side w) (bad_side h) e in
    (at_most w u.0, at_most h u.1)
  where
    at_most : (n : ℕ) → bad_side n ≡ false → n ≤ 240
    at_most n e = ltb-false 240 n (or_none (eqb n 0) (ltb 240 n) e).1

pub few_cells : (w h : ℕ) → bad_size w h ≡ false → w * h ≤ 57600
few_cells w h e = let u = sides w h e in mul-le-mul u.0 u.1

pub small_grid : (w h : ℕ) → bad_size w h ≡ false → grid_size w h ≤ 65025
small_grid w h e =
    let u = sides w h e in
    let a : w + 15 ≤ 255 = omega arith in
    let b : h + 15 ≤ 255 = omega arith in
    mul-le-mul a b
