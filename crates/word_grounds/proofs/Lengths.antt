-- What is known of a list that ground 1 does not refuse: how long it is.
use mathlib.Core.Path.{◌≡◌}
use mathlib.Core.Bool.{false}
use mathlib.Core.List.{List}
use Prim.Native.Nat.{ℕ, ◌≤◌}
use borrow.Author.Tests.{ltb-false}
use lib.Dec.{ltb}
use lib.ListN.{length}
use Rattle.plane.proofs.Tests.{or_none}
use Rattle.shapes.specs.Shape.{not_within}

pub within : (low high : ℕ) (ws : List ℕ) → not_within low high ws ≡ false → (low ≤ length ws) × (length ws ≤ high)
within low high ws e =
    let u = or_none (ltb (length ws) low) (ltb high (length ws)) e in
    (ltb-false (length ws) low u.0, ltb-false high (length ws) u.1)
