-- Lists that are made alike from the same members are equal.
use mathlib.Core.Path.{◌≡◌, refl, ap, ap₂}
use mathlib.Core.Logic.{inl, inr}
use mathlib.Core.Bool.{Bool, cond}
use mathlib.Core.List.{List, [], ◌∷◌, ◌++◌, map}
use Rattle.plane.specs.Lists.{In, keep, flat}

module _ {A : Type 0} where
  pub keep_alike : (f g : A → Bool) (xs : List A) → ((a : A) → In xs a → f a ≡ g a) → keep f xs ≡ keep g xs
  keep_alike f g [] e = refl
  keep_alike f g (x ∷ xs) e = ap₂ (λ (b : Bool) (l : List A). cond b (x ∷ l) l) (e x (inl refl)) (keep_alike f g xs (λ a h. e a (inr h)))

module _ {A B : Type 0} where
  pub map_alike : (f g : A → B) (xs : List A) → ((a : A) → In xs a → f a ≡ g a) → map f xs ≡ map g xs
  map_alike f g [] e = refl
  map_alike f g (x ∷ xs) e = ap₂ (λ (b : B) (l : List B). b ∷ l) (e x (inl refl)) (map_alike f g xs (λ a h. e a (inr h)))

  pub flat_alike : (f g : A → List B) (xs : List A) → ((a : A) → In xs a → f a ≡ g a) → flat f xs ≡ flat g xs
  flat_alike f g [] e = refl
  flat_alike f g (x ∷ xs) e = ap₂ (λ (k l : List B). k ++ l) (e x (inl refl)) (flat_alike f g xs (λ a h. e a (inr h)))

  -- each member is made into one
  pub flat_one : (f : A → B) (xs : List A) → flat (λ a. f a ∷ []) xs ≡ map f xs
  flat_one f [] = refl
  flat_one f (x ∷ xs) = ap (λ l. f x ∷ l) (flat_one f xs)
