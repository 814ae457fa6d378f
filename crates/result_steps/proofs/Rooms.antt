-- Images with room for the grid.
use mathlib.Core.Path.{◌≡◌, ap, ◌∙◌}
use mathlib.Core.Bool.{Bool, true, false, cond}
use mathlib.Core.List.{List}
use Prim.Native.Nat.{ℕ, ◌+◌, ◌≤◌}
use native.Mathlib.Nat.{mul-le-mul}
use native.Mathlib.Omega.{arith}
use lib.Dec.{T}
use lib.ListN.{length}
use Rattle.grids.specs.Frame.{bad_size, grid_size}
use Rattle.planes.specs.Planes.{byte_rows, plane_size, second_at, unpack_fits}
use Rattle.planes.proofs.OnGrids.{plane_fits, planes_fit, grid_unpack}
use Rattle.frame_grounds.proofs.Sides.{sides}
use Rattle.cleaning.proofs.Starts.{frame_in_grid}
use Rattle.turn_steps.specs.Turns.{plane_bytes, PlaneRoom}
use Rattle.result_steps.specs.Cutting.{Room}

-- what a plane takes, where the sides pass
pub plane_is : (W H : ℕ) {n : ℕ} → bad_size W H ≡ false → n ≡ plane_bytes W H → n ≡ plane_size (W + 15) (H + 15)
plane_is W H s e = e ∙ ap (λ b. cond b 0 (plane_size (W + 15) (H + 15))) s

-- a second plane starts and ends within the grid
second_fits : (two : Bool) (W H : ℕ) → W ≤ 240 → H ≤ 240
    → let o = second_at two (W + 15) (H + 15) in (o ≤ 65535) × (o + plane_size (W + 15) (H + 15) ≤ grid_size W H)
second_fits false W H w h = (omega arith, omega (arith, plane_fits W H))
second_fits true W H w h =
    let m : byte_rows (H + 15) + 2 ≤ 34 = omega arith in
    let n : W + 15 + 2 ≤ 257 = omega arith in
    (omega (arith, mul-le-mul m n), planes_fit W H)

-- they have it for the plane, and for the cut
pub room_planes : {W H : ℕ} {i j : List ℕ} → Room W H i j → PlaneRoom W H i j
room_planes {W} {H} r = let f = plane_fits W H in record { sides = r.sides; first = omega (arith, r.first); second = omega (arith, r.second) }

module _ {W H : ℕ} {i j : List ℕ} (r : Room W H i j) (p d : List ℕ) (hp : grid_size W H ≤ length p) (hd : grid_size W H ≤ length d) where
  pub room_cut : (two : Bool) {o : ℕ} (a b : ℕ) → o ≡ second_at two (W + 15) (H + 15) → a ≤ 45 → b ≤ 45
      → T (unpack_fits o W H (W + 15) (H + 15) a b (length p) (length d))
  room_cut two {o} a b e ha hb =
      let s = sides W H r.sides in
      let f = second_fits two W H s.0 s.1 in
      grid_unpack W H s.0 s.1 o W H a b (length p) (length d) (omega (arith, e, f.0)) (omega arith) (omega arith) (omega arith) (omega arith)
      (omega (arith, e, f.1)) (omega (arith, frame_in_grid W H))
