-- The greatest, or the least, of a list of values goes by the list's members alone, and over a sum of two sets it is taken in two steps.
-- The values may be any, and so may the pick of two that is associative, commutative and idempotent; the seed need not be its unit.
use mathlib.Core.Path.{◌≡◌, refl, sym, ◌∙◌, ap, ap₂}
use mathlib.Core.Logic.{◌↔◌, inl, inr}
use mathlib.Core.List.{List, [], ◌∷◌, ◌++◌, map}
use Rattle.plane.specs.Lists.{In}
use Rattle.plane.specs.Point.{Point, ◌+ᵖ◌, negᵖ, ◌-ᵖ◌}
use Rattle.plane.proofs.Algebra.{+ᵖ_assoc, +ᵖ_comm, +ᵖ_cancel, subᵖ_cancel}
use Rattle.masks.specs.Chain.{sums}
use Rattle.grids.specs.Image.{fold, dilated, eroded}

-- less a sum is less the one and less the other
pub sub_sum : (p a b : Point) → p -ᵖ (a +ᵖ b) ≡ p -ᵖ a -ᵖ b
sub_sum p a b =
    sym (+ᵖ_cancel (p -ᵖ (a +ᵖ b)) a) ∙ sym (+ᵖ_cancel (p -ᵖ (a +ᵖ b) +ᵖ a -ᵖ a) b)
    ∙ ap (λ x. x -ᵖ b) (swap (p -ᵖ (a +ᵖ b)) a b ∙ ap (λ x. x -ᵖ a) (subᵖ_cancel p (a +ᵖ b)))
  where
    swap : (q a b : Point) → q +ᵖ a -ᵖ a +ᵖ b ≡ q +ᵖ (a +ᵖ b) -ᵖ a
    swap q a b =
        +ᵖ_assoc (q +ᵖ a) (negᵖ a) b ∙ ap (λ x. q +ᵖ a +ᵖ x) (+ᵖ_comm (negᵖ a) b) ∙ sym (+ᵖ_assoc (q +ᵖ a) b (negᵖ a))
        ∙ ap (λ x. x -ᵖ a) (+ᵖ_assoc q a b)

-- what a pick of two values must keep to
pub record Semilattice {A : Type 0} (pick : A → A → A) : Type 0 where
  pub assoc : (a b c : A) → pick (pick a b) c ≡ pick a (pick b c)
  pub comm : (a b : A) → pick a b ≡ pick b a
  pub idem : (a : A) → pick a a ≡ a

module _ {A : Type 0} (pick : A → A → A) (e : A) (L : Semilattice pick) where
  -- the seed is in each fold already
  seed : (xs : List A) → pick e (fold pick e xs) ≡ fold pick e xs
  seed [] = L.idem e
  seed (x ∷ xs) = sym (L.assoc e x (fold pick e xs)) ∙ ap (λ z. pick z (fold pick e xs)) (L.comm e x) ∙ L.assoc x e (fold pick e xs) ∙ ap (pick x) (seed xs)

  module _ {B : Type 0} (g : B → A) where
    -- a member's value is taken in already
    pub absorb : (P : List B) (b : B) → In P b → pick (g b) (fold pick e (map g P)) ≡ fold pick e (map g P)
    absorb [] b h = absurd h
    absorb (x ∷ P) b (inl q) =
        sym (L.assoc (g b) (g x) (fold pick e (map g P)))
        ∙ ap (λ z. pick z (fold pick e (map g P))) (ap (λ z. pick (g z) (g x)) q ∙ L.idem (g x))
    absorb (x ∷ P) b (inr h) =
        sym (L.assoc (g b) (g x) (fold pick e (map g P)))
        ∙ ap (λ z. pick z (fold pick e (map g P))) (L.comm (g b) (g x))
        ∙ L.assoc (g x) (g b) (fold pick e (map g P))
        ∙ ap (pick (g x)) (absorb P b h)

    absorb_all : (P Q : List B) → ((b : B) → In P b → In Q b) → pick (fold pick e (map g P)) (fold pick e (map g Q)) ≡ fold pick e (map g Q)
    absorb_all [] Q s = seed (map g Q)
    absorb_all (x ∷ P) Q s =
        L.assoc (g x) (fold pick e (map g P)) (fold pick e (map g Q))
        ∙ ap (pick (g x)) (absorb_all P Q (λ b h. s b (inr h))) ∙ absorb Q x (s x (inl refl))

    -- lists with the same members
    pub fold_same : (P Q : List B) → ((b : B) → In P b ↔ In Q b) → fold pick e (map g P) ≡ fold pick e (map g Q)
    fold_same P Q s =
        sym (absorb_all Q P (λ b. (s b).1)) ∙ L.comm (fold pick e (map g Q)) (fold pick e (map g P)) ∙ absorb_all P Q (λ b. (s b).0)

    fold_map_append : (P Q : List B) → fold pick e (map g (P ++ Q)) ≡ pick (fold pick e (map g P)) (fold pick e (map g Q))
    fold_map_append [] Q = sym (seed (map g Q))
    fold_map_append (x ∷ P) Q = ap (pick (g x)) (fold_map_append P Q) ∙ sym (L.assoc (g x) (fold pick e (map g P)) (fold pick e (map g Q)))

  map_map : {B C : Type 0} (g : C → A) (f : B → C) (P : List B) → map g (map f P) ≡ map (λ b. g (f b)) P
  map_map g f [] = refl
  map_map g f (x ∷ P) = ap (λ l. g (f x) ∷ l) (map_map g f P)

  -- over all sums of a point of P and a point of Q
  pub fold_sums : (g : Point → A) (P Q : List Point) → fold pick e (map g (sums P Q)) ≡ fold pick e (map (λ a. fold pick e (map (λ b. g (a +ᵖ b)) Q)) P)
  fold_sums g [] Q = refl
  fold_sums g (a ∷ P) Q =
      fold_map_append g (map (λ b. a +ᵖ b) Q) (sums P Q)
      ∙ ap₂ pick (ap (fold pick e) (map_map g (λ b. a +ᵖ b) Q)) (fold_sums g P Q)

  fold_ext : {B : Type 0} (g h : B → A) (P : List B) → ((b : B) → g b ≡ h b) → fold pick e (map g P) ≡ fold pick e (map h P)
  fold_ext g h [] q = refl
  fold_ext g h (x ∷ P) q = ap₂ pick (q x) (fold_ext g h P q)

  -- dilation and erosion go by the points of the set, and a sum of two sets is one after the other
  pub dilated_same : (P Q : List Point) (f : Point → A) (p : Point) → ((b : Point) → In P b ↔ In Q b) → dilated pick e P f p ≡ dilated pick e Q f p
  dilated_same P Q f p s = fold_same (λ a. f (p -ᵖ a)) P Q s

  pub eroded_same : (P Q : List Point) (f : Point → A) (p : Point) → ((b : Point) → In P b ↔ In Q b) → eroded pick e P f p ≡ eroded pick e Q f p
  eroded_same P Q f p s = fold_same (λ a. f (p +ᵖ a)) P Q s

  pub dilated_sums : (P Q : List Point) (f : Point → A) (p : Point) → dilated pick e (sums P Q) f p ≡ dilated pick e P (dilated pick e Q f) p
  dilated_sums P Q f p =
      fold_sums (λ a. f (p -ᵖ a)) P Q ∙ fold_ext (λ a. fold pick e (map (λ b. f (p -ᵖ (a +ᵖ b))) Q)) (λ a. dilated pick e Q f (p -ᵖ a)) P
      (λ a. fold_ext (λ b. f (p -ᵖ (a +ᵖ b))) (λ b. f (p -ᵖ a -ᵖ b)) Q (λ b. ap f (sub_sum p a b)))

  pub eroded_sums : (P Q : List Point) (f : Point → A) (p : Point) → eroded pick e (sums P Q) f p ≡ eroded pick e P (eroded pick e Q f) p
  eroded_sums P Q f p =
      fold_sums (λ a. f (p +ᵖ a)) P Q ∙ fold_ext (λ a. fold pick e (map (λ b. f (p +ᵖ (a +ᵖ b))) Q)) (λ a. eroded pick e Q f (p +ᵖ a)) P
      (λ a. fold_ext (λ b. f (p +ᵖ (a +ᵖ b))) (λ b. f (p +ᵖ a +ᵖ b)) Q (λ b. ap f (sym (+ᵖ_assoc p a b))))
