-- The value of a picture of rows at a point: the cell that stands there, or the value outside, by the side on which the point lies.
use mathlib.Core.Path.{◌≡◌, refl}
use mathlib.Core.List.{List}
use Prim.Native.Nat.{ℕ, ◌+◌, ◌*◌, ◌<◌, ◌≤◌}
use native.Mathlib.Omega.{arith}
use lib.IntN.{ℤ, pos, negsuc}
use lib.ListN.{length, get_or}
use borrow.Author.Tests.{lt-ltb, le-ltb}
use Rattle.grids.specs.Image.{value_at}
use Rattle.ranges.proofs.FlatRows.{flat_lt}
use Rattle.ranges.proofs.Whole.{get_d_any}

module _ (v : ℕ) (g : List ℕ) (w h : ℕ) where
  pub value_in : w * h ≤ length g → (a b : ℕ) → a < w → b < h → value_at v w h g (pos a) (pos b) ≡ get_or g (b * w + a) 0
  unfolding value_at
  value_in fits a b u t = rw (lt-ltb a w u, lt-ltb b h t) (get_d_any g (b * w + a) v 0 (omega (arith, flat_lt w h a b u t)))

  pub value_right : (a b : ℕ) → w ≤ a → value_at v w h g (pos a) (pos b) ≡ v
  unfolding value_at
  value_right a b u = rw (le-ltb a w u)

  pub value_under : (a b : ℕ) → a < w → h ≤ b → value_at v w h g (pos a) (pos b) ≡ v
  unfolding value_at
  value_under a b u t = rw (lt-ltb a w u, le-ltb b h t)

  pub value_left : (n : ℕ) (b : ℤ) → value_at v w h g (negsuc n) b ≡ v
  unfolding value_at
  value_left n (pos b) = refl
  value_left n (negsuc b) = refl

  pub value_above : (a n : ℕ) → value_at v w h g (pos a) (negsuc n) ≡ v
  unfolding value_at
  value_above a n = refl
