-- Laws of sums and differences of sets of points, and of sets that are moved. Each is shown point by point, from the laws of the first block: points are a
-- commutative group.
use mathlib.Core.Path.{◌≡◌, refl, sym, ◌∙◌, ap, subst}
use mathlib.Core.Logic.Iff
use mathlib.Core.Logic.{◌↔◌}
use lib.IntN.{+ℤ_assoc, +ℤ_comm, +ℤ_idr, +ℤ_invr}
use Rattle.plane.specs.Point.{Point, ◌+ᵖ◌, negᵖ, ◌-ᵖ◌, origin, PointSet, ◌≐◌, ◌⊕◌, ◌⊖◌, moved, only, opening, closing}

-- ---- points are a commutative group

pub +ᵖ_assoc : (a b c : Point) → (a +ᵖ b) +ᵖ c ≡ a +ᵖ (b +ᵖ c)
unfolding ◌+ᵖ◌
+ᵖ_assoc a b c = λ i. (+ℤ_assoc a.0 b.0 c.0 i, +ℤ_assoc a.1 b.1 c.1 i)

pub +ᵖ_comm : (a b : Point) → a +ᵖ b ≡ b +ᵖ a
unfolding ◌+ᵖ◌
+ᵖ_comm a b = λ i. (+ℤ_comm a.0 b.0 i, +ℤ_comm a.1 b.1 i)

pub +ᵖ_origin : (a : Point) → a +ᵖ origin ≡ a
unfolding ◌+ᵖ◌
+ᵖ_origin a = λ i. (+ℤ_idr a.0 i, +ℤ_idr a.1 i)

pub +ᵖ_neg : (a : Point) → a +ᵖ negᵖ a ≡ origin
unfolding ◌+ᵖ◌ negᵖ
+ᵖ_neg a = λ i. (+ℤ_invr a.0 i, +ℤ_invr a.1 i)

pub +ᵖ_left : (a b c : Point) → a +ᵖ (b +ᵖ c) ≡ b +ᵖ (a +ᵖ c)
+ᵖ_left a b c = sym (+ᵖ_assoc a b c) ∙ ap (λ x. x +ᵖ c) (+ᵖ_comm a b) ∙ +ᵖ_assoc b a c

pub +ᵖ_cancel : (a d : Point) → a +ᵖ d -ᵖ d ≡ a
+ᵖ_cancel a d = +ᵖ_assoc a d (negᵖ d) ∙ ap (λ x. a +ᵖ x) (+ᵖ_neg d) ∙ +ᵖ_origin a

pub subᵖ_cancel : (a d : Point) → a -ᵖ d +ᵖ d ≡ a
subᵖ_cancel a d = +ᵖ_assoc a (negᵖ d) d ∙ ap (λ x. a +ᵖ x) (+ᵖ_comm (negᵖ d) d ∙ +ᵖ_neg d) ∙ +ᵖ_origin a

-- ---- the same points: an equivalence, and a congruence

pub ≐_refl : (X : PointSet) → X ≐ X
≐_refl X p = (λ h. h, λ h. h)

pub ≐_sym : {X Y : PointSet} → X ≐ Y → Y ≐ X
≐_sym e p = ((e p).1, (e p).0)

pub ≐_trans : {X Y Z : PointSet} → X ≐ Y → Y ≐ Z → X ≐ Z
≐_trans e f p = (λ h. (f p).0 ((e p).0 h), λ h. (e p).1 ((f p).1 h))

pub ⊕_cong : {X Y A B : PointSet} → X ≐ Y → A ≐ B → X ⊕ A ≐ Y ⊕ B
⊕_cong e f p = (λ h. (h.0, h.1, (e h.0).0 h.2, (f h.1).0 h.3, h.4), λ h. (h.0, h.1, (e h.0).1 h.2, (f h.1).1 h.3, h.4))

pub ⊖_cong : {X Y A B : PointSet} → X ≐ Y → A ≐ B → X ⊖ A ≐ Y ⊖ B
⊖_cong e f p = (λ h b k. (e (p +ᵖ b)).0 (h b ((f b).1 k)), λ h b k. (e (p +ᵖ b)).1 (h b ((f b).0 k)))

pub moved_cong : {X Y : PointSet} (d : Point) → X ≐ Y → moved d X ≐ moved d Y
moved_cong d e p = e (p -ᵖ d)

-- ---- sums

pub ⊕_comm : (X Y : PointSet) → X ⊕ Y ≐ Y ⊕ X
⊕_comm X Y p = (swap X Y, swap Y X)
  where
    swap : (X Y : PointSet) → (X ⊕ Y) p → (Y ⊕ X) p
    swap X Y h = (h.1, h.0, h.3, h.2, +ᵖ_comm h.1 h.0 ∙ h.4)

pub ⊕_assoc : (X A B : PointSet) → (X ⊕ A) ⊕ B ≐ X ⊕ (A ⊕ B)
⊕_assoc X A B p = (
  λ h. let s = h.2 in (s.0, s.1 +ᵖ h.1, s.2, (s.1, h.1, s.3, h.3, refl), sym (+ᵖ_assoc s.0 s.1 h.1) ∙ ap (λ x. x +ᵖ h.1) s.4 ∙ h.4),
  λ h. let s = h.3 in (h.0 +ᵖ s.0, s.1, (h.0, s.0, h.2, s.2, refl), s.3, +ᵖ_assoc h.0 s.0 s.1 ∙ ap (λ x. h.0 +ᵖ x) s.4 ∙ h.4),
)

pub ⊕_only : (X : PointSet) (d : Point) → X ⊕ only d ≐ moved d X
⊕_only X d p = (
  λ h. subst X (sym (+ᵖ_cancel h.0 d) ∙ ap (λ x. x -ᵖ d) (ap (λ x. h.0 +ᵖ x) (sym h.3) ∙ h.4)) h.2,
  λ h. (p -ᵖ d, d, h, refl, subᵖ_cancel p d),
)

-- ---- differences

-- taking away the sum of two sets is taking away one and then the other
pub ⊖-⊖ : (X A B : PointSet) → (X ⊖ A) ⊖ B ≐ X ⊖ (A ⊕ B)
⊖-⊖ X A B p = (
  λ h c s. subst X (regroup s.0 s.1 ∙ ap (λ x. p +ᵖ x) s.4) (h s.1 s.3 s.0 s.2),
  λ h b k a l. subst X (sym (regroup a b)) (h (a +ᵖ b) (a, b, l, k, refl)),
)
  where
    regroup : (a b : Point) → (p +ᵖ b) +ᵖ a ≡ p +ᵖ (a +ᵖ b)
    regroup a b = +ᵖ_assoc p b a ∙ ap (λ x. p +ᵖ x) (+ᵖ_comm b a)

-- what a sum with Y reaches, it reaches from what the difference with Y leaves: pruning the search by Y loses nothing
pub prune : (A C Y : PointSet) → A ≐ C ⊕ Y → A ≐ (A ⊖ Y) ⊕ Y
prune A C Y e p = (
  λ h. let s = (e p).0 h in (s.0, s.1, (λ b k. (e (s.0 +ᵖ b)).1 (s.0, b, s.2, k, refl)), s.3, s.4),
  λ h. subst A h.4 (h.2 h.1 h.3),
)

-- ---- moves

pub moved-⊕ : (d : Point) (X A : PointSet) → moved d (X ⊕ A) ≐ X ⊕ moved d A
moved-⊕ d X A = ≐_trans (≐_sym (⊕_only (X ⊕ A) d)) (≐_trans (⊕_assoc X A (only d)) (⊕_cong (≐_refl X) (⊕_only A d)))

pub moved-⊕_left : (d : Point) (X A : PointSet) → moved d (X ⊕ A) ≐ moved d X ⊕ A
moved-⊕_left d X A = ≐_trans (moved_cong d (⊕_comm X A)) (≐_trans (moved-⊕ d A X) (⊕_comm A (moved d X)))

-- eroding by a moved set moves the result the other way
pub ⊖_moved : (d : Point) (X A : PointSet) (p : Point) → (X ⊖ moved d A) p ↔ (X ⊖ A) (p +ᵖ d)
⊖_moved d X A p = (
  λ h b k. subst X (sym (+ᵖ_assoc p d b ∙ ap (λ x. p +ᵖ x) (+ᵖ_comm d b))) (h (b +ᵖ d) (subst A (sym (+ᵖ_cancel b d)) k)),
  λ h b k. subst X (+ᵖ_assoc p d (b -ᵖ d) ∙ ap (λ x. p +ᵖ x) (+ᵖ_comm d (b -ᵖ d) ∙ subᵖ_cancel b d)) (h (b -ᵖ d) k),
)

-- moves add up
pub moved_moved : (d e : Point) (X : PointSet) → moved d (moved e X) ≐ moved (d +ᵖ e) X
moved_moved d e X p = (subst X both, subst X (sym both))
  where
    start : Point
    start = p -ᵖ d -ᵖ e

    -- d and e added again lead back to p
    again : start +ᵖ (d +ᵖ e) ≡ p
    again = ap (λ x. start +ᵖ x) (+ᵖ_comm d e) ∙ sym (+ᵖ_assoc start e d) ∙ ap (λ x. x +ᵖ d) (subᵖ_cancel (p -ᵖ d) e) ∙ subᵖ_cancel p d

    both : start ≡ p -ᵖ (d +ᵖ e)
    both = sym (+ᵖ_cancel start (d +ᵖ e)) ∙ ap (λ x. x -ᵖ (d +ᵖ e)) again

pub moved_both : (d e : Point) (X Y : PointSet) → moved d X ⊕ moved e Y ≐ moved (d +ᵖ e) (X ⊕ Y)
moved_both d e X Y = ≐_trans (≐_sym (moved-⊕_left d X (moved e Y))) (≐_trans (moved_cong d (≐_sym (moved-⊕ e X Y))) (moved_moved d e (X ⊕ Y)))

pub moved_origin : (X : PointSet) → moved origin X ≐ X
moved_origin X p = (subst X (same p), subst X (sym (same p)))
  where
    same : (p : Point) → p -ᵖ origin ≡ p
    same p = sym (+ᵖ_origin (p -ᵖ origin)) ∙ subᵖ_cancel p origin

-- opening and closing do not depend on where the set stands
pub opening_moved : (d : Point) (X A : PointSet) → opening X (moved d A) ≐ opening X A
opening_moved d X A p = (
  λ h. (h.0 +ᵖ d, h.1 -ᵖ d, (⊖_moved d X A h.0).0 h.2, h.3, shift h.0 h.1 ∙ h.4),
  λ h. let left = subst (X ⊖ A) (sym (subᵖ_cancel h.0 d)) h.2 in
      let in-A = subst A (sym (+ᵖ_cancel h.1 d)) h.3 in
      (h.0 -ᵖ d, h.1 +ᵖ d, (⊖_moved d X A (h.0 -ᵖ d)).1 left, in-A, shift' h.0 h.1 ∙ h.4),
)
  where
    shift : (a b : Point) → (a +ᵖ d) +ᵖ (b -ᵖ d) ≡ a +ᵖ b
    shift a b = +ᵖ_assoc a d (b -ᵖ d) ∙ ap (λ x. a +ᵖ x) (+ᵖ_comm d (b -ᵖ d) ∙ subᵖ_cancel b d)

    shift' : (a b : Point) → (a -ᵖ d) +ᵖ (b +ᵖ d) ≡ a +ᵖ b
    shift' a b = ap (λ x. (a -ᵖ d) +ᵖ x) (+ᵖ_comm b d) ∙ sym (+ᵖ_assoc (a -ᵖ d) d b) ∙ ap (λ x. x +ᵖ b) (subᵖ_cancel a d)

pub closing_moved : (d : Point) (X A : PointSet) → closing X (moved d A) ≐ closing X A
closing_moved d X A p =
    Iff.trans (⊖_moved d (X ⊕ moved d A) A p)
    (λ h b k. subst (X ⊕ A) (fix b) ((moved-⊕ d X A (p +ᵖ d +ᵖ b)).1 (h b k)), λ h b k. (moved-⊕ d X A (p +ᵖ d +ᵖ b)).0 (subst (X ⊕ A) (sym (fix b)) (h b k)))
  where
    fix : (b : Point) → p +ᵖ d +ᵖ b -ᵖ d ≡ p +ᵖ b
    fix b = ap (λ x. x -ᵖ d) (+ᵖ_assoc p d b ∙ ap (λ x. p +ᵖ x) (+ᵖ_comm d b) ∙ sym (+ᵖ_assoc p b d)) ∙ +ᵖ_cancel (p +ᵖ b) d

-- ---- the empty set

abbrev pub Empty : PointSet → Type 0
Empty X = (p : Point) → X p → ⊥
