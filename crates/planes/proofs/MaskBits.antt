-- The fold over a mask's points is the join over its nine bits, one after the other.
use mathlib.Core.Path.{◌≡◌, refl, sym, ◌∙◌, ap}
use mathlib.Core.Logic.{◌⊎◌, inl, inr, ⊎_elim}
use mathlib.Core.Bool.{Bool, true, false}
use mathlib.Core.List.{map}
use Prim.Native.Nat.{ℕ, zero, suc, ◌+◌, ◌/◌, ◌%◌, ◌<◌}
use native.Mathlib.Nat.{add-zero, add-suc, suc-add}
use native.Mathlib.Omega.{arith}
use lib.IntN.{pos}
use Rattle.plane.specs.Lists.{keep, count_from}
use Rattle.plane.specs.Point.{Point, point}
use Rattle.masks.specs.Mask.{mask_cells, mask_points}
use Rattle.grids.specs.Image.{fold}
use Rattle.grids.proofs.Fold.{Semilattice}
use Rattle.planes.specs.MaskBits.{has_bit, over_bits}

-- the point of bit k
abbrev pub bit_point : ℕ → Point
bit_point k = (pos (k % 3), pos (k / 3))

pub on_bit : (t : Bool) → (t ≡ true) ⊎ (t ≡ false)
on_bit true = inl refl
on_bit false = inr refl

module _ {A : Type 0} (pick : A → A → A) (e : A) (L : Semilattice pick) (g : Point → A) (m : ℕ) where
  -- the points of the bits of m from k on, n bits in all, taken together
  from : ℕ → ℕ → A
  from k n = fold pick e (map g (map point (map (λ k. (k % 3, k / 3)) (keep (has_bit m) (count_from k n)))))

  below : ℕ → A
  below k = over_bits pick e (λ k. g (bit_point k)) m k

  -- the seed is taken in already, on both sides
  seed_from : (k n : ℕ) → pick e (from k n) ≡ from k n
  unfolding from
  seed_from k zero = L.idem e
  seed_from k (suc n) = ⊎_elim
      (λ (h : has_bit m k ≡ true). rw h (
      sym (L.assoc e (g (bit_point k)) (from (suc k) n))
      ∙ ap (λ z. pick z (from (suc k) n)) (L.comm e (g (bit_point k)))
      ∙ L.assoc (g (bit_point k)) e (from (suc k) n)
      ∙ ap (pick (g (bit_point k))) (seed_from (suc k) n)))
      (λ (h : has_bit m k ≡ false). rw h (seed_from (suc k) n))
      (on_bit (has_bit m k))

  seed_below : (k : ℕ) → pick (below k) e ≡ below k
  unfolding below over_bits
  seed_below zero = L.idem e
  seed_below (suc k) = ⊎_elim
      (λ (h : has_bit m k ≡ true). rw h (
      L.assoc (below k) (g (bit_point k)) e
      ∙ ap (pick (below k)) (L.comm (g (bit_point k)) e)
      ∙ sym (L.assoc (below k) e (g (bit_point k)))
      ∙ ap (λ z. pick z (g (bit_point k))) (seed_below k)))
      (λ (h : has_bit m k ≡ false). rw h (seed_below k))
      (on_bit (has_bit m k))

  below_set : (k : ℕ) → has_bit m k ≡ true → pick (below k) (g (bit_point k)) ≡ below (suc k)
  unfolding below over_bits
  below_set k h = rw h

  below_clear : (k : ℕ) → has_bit m k ≡ false → below k ≡ below (suc k)
  unfolding below over_bits
  below_clear k h = rw h

  -- those below k and those from k on
  both : (k n : ℕ) → pick (below k) (from k n) ≡ below (k + n)
  unfolding from
  both k zero = seed_below k ∙ ap below (sym (add-zero k))
  both k (suc n) =
      let next : pick (below (suc k)) (from (suc k) n) ≡ below (k + suc n) = both (suc k) n ∙ ap below (suc-add k n ∙ sym (add-suc k n)) in
      ⊎_elim
      (λ (h : has_bit m k ≡ true). rw h (
      sym (L.assoc (below k) (g (bit_point k)) (from (suc k) n)) ∙ ap (λ z. pick z (from (suc k) n)) (below_set k h) ∙ next))
      (λ (h : has_bit m k ≡ false). rw h (ap (λ z. pick z (from (suc k) n)) (below_clear k h) ∙ next))
      (on_bit (has_bit m k))

  pub mask_fold : fold pick e (map g (mask_points m)) ≡ over_bits pick e (λ k. g (bit_point k)) m 9
  unfolding from below mask_cells over_bits
  mask_fold = sym (seed_from 0 9) ∙ both 0 9

-- equal readings at the bits give equal results
module _ {A : Type 0} (op : A → A → A) (e : A) (f f' : ℕ → A) (m : ℕ) where
  pub over_ap : (b : ℕ) → ((k : ℕ) → k < b → f k ≡ f' k) → over_bits op e f m b ≡ over_bits op e f' m b
  unfolding over_bits
  over_ap zero q = refl
  over_ap (suc b) q =
      let r : over_bits op e f m b ≡ over_bits op e f' m b = over_ap b (λ k l. q k (omega arith)) in
      let s : f b ≡ f' b = q b (omega arith) in
      rw (r, s)
