-- A plane whose sides fit is small.
use Prim.Native.Nat.{ℕ, ◌+◌, ◌*◌, ◌≤◌}
use native.Mathlib.Nat.{mul-le-mul_right}
use native.Mathlib.Omega.{arith}
use Rattle.planes.specs.Planes.{byte_rows}

pub size_small : (C R : ℕ) → C ≤ 65535 → R ≤ 65535 → (byte_rows R + 2) * (C + 2) ≤ 8195 * 65537
size_small C R h l = let r : (byte_rows R + 2) * (C + 2) ≤ 8195 * (C + 2) = mul-le-mul_right (C + 2) (omega arith) in omega arith
