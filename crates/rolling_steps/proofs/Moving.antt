-- Bytes moved towards the start of a list, and the row behind them.
use mathlib.Core.Path.{◌≡◌, sym, ap, ◌∙◌, subst}
use mathlib.Core.Logic.{◌⊎◌, inl, inr}
use mathlib.Core.List.{List, ◌++◌}
use Prim.Native.Nat.{ℕ, ◌+◌, ◌-◌, ◌≤◌, ◌<◌, min, zero-le}
use native.Mathlib.Omega.{arith}
use native.Mathlib.Nat.{le_refl}
use lib.ListN.{length, get_or, drop, length-append, length-drop, get_or-append}
use lib.Seq.{ext_get_or, get_or-drop, get_or-append-add}
use borrow.Rule.Slice.PartMut.{mid_of, put_mid, mid_len}
use Rattle.plane.proofs.Tests.{lt_or_le}
use Rattle.ranges.specs.Ranges.{Ranged}
use Rattle.ranges.proofs.Ranges.{ranged_part}
use Rattle.rolling.specs.Rolling.{rolled}

-- all but the last w bytes moved up by w, and the last w copied from the row
module _ (w : ℕ) (row live : List ℕ) {up : List ℕ} (long : length row ≡ w) (room : w ≤ length live)
    (r : Ranged 0 0 (length live - w) (λ k. get_or live (k + w) 0) live up) where
  pub rolled_by : {ys : List ℕ} → Ranged 0 0 (min (length (mid_of (length up - w) (length up - (length up - w)) up)) (length row)) (λ k. get_or row k 0)
      (mid_of (length up - w) (length up - (length up - w)) up) ys
      → put_mid (length up - w) (length up - (length up - w)) up ys ≡ rolled w live row
  rolled_by {ys} c = ext_get_or 0 new (drop w live ++ row) (s.len ∙ size) (λ k h. at k (lt_or_le k (length live - w)) (subst (λ m. k < m) (s.len ∙ r.len) h))
    where
      new : List ℕ
      new = put_mid (length up - w) (length up - (length up - w)) up ys

      whole : min (length (mid_of (length up - w) (length up - (length up - w)) up)) (length row)
          ≡ length (mid_of (length up - w) (length up - (length up - w)) up)
      whole = let m = mid_len (length up - w) (length up) up (le_refl _) in omega (arith, m, long, r.len)

      s : Ranged 0 (length up - w) (length up) (λ k. get_or row (k - (length up - w)) 0) up new
      s = ranged_part {a = length up - w} {e = length up} (omega arith) (le_refl _)
          (subst (λ i. Ranged 0 0 i (λ k. get_or row k 0) (mid_of (length up - w) (length up - (length up - w)) up) ys) whole c)

      size : length up ≡ length (drop w live ++ row)
      size = omega (arith, r.len, length-append (drop w live) row, length-drop w live, long)

      at : (k : ℕ) → (k < length live - w) ⊎ (length live - w ≤ k) → k < length live → get_or new k 0 ≡ get_or (drop w live ++ row) k 0
      at k (inl l) h =
          let e : k + w ≡ w + k = omega arith in
          s.below k (omega (arith, r.len)) ∙ r.at k zero-le l ∙ ap (λ i. get_or live i 0) e ∙ sym (get_or-drop w live k 0)
          ∙ sym (get_or-append (drop w live) row 0 k (omega (arith, length-drop w live)))
      at k (inr l) h =
          let e : length (drop w live) + (k - (length up - w)) ≡ k = omega (arith, length-drop w live, r.len) in
          s.at k (omega (arith, r.len)) (omega (arith, r.len)) ∙ sym (get_or-append-add (drop w live) row (k - (length up - w)) 0)
          ∙ ap (λ i. get_or (drop w live ++ row) i 0) e
