-- The sum of a list of masks, as a set.
use mathlib.Core.Path.{sym}
use mathlib.Core.List.{List, ◌∷◌, map}
use Prim.Native.Nat.{ℕ}
use Rattle.plane.specs.Lists.{In}
use Rattle.plane.specs.Point.{Point, ◌+ᵖ◌, ◌≐◌, ◌⊕◌}
use Rattle.plane.proofs.Algebra.{≐_refl, ≐_sym, ≐_trans, ⊕_cong, ⊕_comm, ⊕_assoc}
use Rattle.plane.proofs.Member.{In-map, In-flat}
use Rattle.masks.specs.Chain.{sums, sum_of}
use Rattle.masks.specs.Mask.{mask_points, Mask}

-- the list of all sums has the points of the sum of the sets
pub sums_is : (A B : List Point) → In (sums A B) ≐ In A ⊕ In B
sums_is A B p = (
  λ h. let r = (In-flat (λ a. map (λ b. a +ᵖ b) B) A p).0 h in let s = (In-map (λ b. r.0 +ᵖ b) B p).0 r.2 in (r.0, s.0, r.1, s.1, sym s.2),
  λ h. (In-flat (λ a. map (λ b. a +ᵖ b) B) A p).1 (h.0, h.2, (In-map (λ b. h.0 +ᵖ b) B p).1 (h.1, h.3, sym h.4)),
)

pub sum_cons : (m : ℕ) (ms : List ℕ) → In (sum_of (m ∷ ms)) ≐ Mask m ⊕ In (sum_of ms)
unfolding sum_of
sum_cons m ms = sums_is (mask_points m) (sum_of ms)

-- two neighbours change places
pub sum_swap : (m n : ℕ) (ms : List ℕ) → In (sum_of (m ∷ n ∷ ms)) ≐ In (sum_of (n ∷ m ∷ ms))
sum_swap m n ms = ≐_trans (two m n) (≐_trans (⊕_cong (⊕_comm (Mask m) (Mask n)) (≐_refl (In (sum_of ms)))) (≐_sym (two n m)))
  where
    two : (a b : ℕ) → In (sum_of (a ∷ b ∷ ms)) ≐ Mask a ⊕ Mask b ⊕ In (sum_of ms)
    two a b = ≐_trans (sum_cons a (b ∷ ms)) (≐_trans (⊕_cong (≐_refl (Mask a)) (sum_cons b ms)) (≐_sym (⊕_assoc (Mask a) (Mask b) (In (sum_of ms)))))

pub sum_tail : (m : ℕ) (ms ns : List ℕ) → In (sum_of ms) ≐ In (sum_of ns) → In (sum_of (m ∷ ms)) ≐ In (sum_of (m ∷ ns))
sum_tail m ms ns e = ≐_trans (sum_cons m ms) (≐_trans (⊕_cong (≐_refl (Mask m)) e) (≐_sym (sum_cons m ns)))
