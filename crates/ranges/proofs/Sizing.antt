-- Sizes that fit: their products do too; and what follows of an image that was written.
use mathlib.Core.Path.{◌≡◌, sym, subst}
use mathlib.Core.Bool.{Bool, true, not}
use mathlib.Core.List.{List}
use Prim.Native.Nat.{ℕ, ◌*◌, ◌≤◌}
use native.Mathlib.Nat.{mul-le-mul_right}
use native.Mathlib.Omega.{arith}
use lib.Dec.{T}
use Rattle.ranges.specs.Ranges.{Fitted}

pub product_le : (w h : ℕ) → w ≤ 65535 → h ≤ 65535 → w * h ≤ 65535 * 65535
product_le w h l k = let r = mul-le-mul_right {m = w} {n = 65535} h l in omega arith

-- a test that is true holds
pub holds : {t : Bool} → t ≡ true → T t
holds e = subst T (sym e) tt

module _ {Work : Type 0} (t : Bool) (d : List ℕ) where
  pub was_done : {d' : List ℕ} → t ≡ true → Work → Fitted t Work d true d'
  was_done e w = record { answer = sym e; done = λ u. w; kept = λ u. absurd (subst (λ b. T (not b)) e u) }
