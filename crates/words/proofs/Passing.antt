-- What std says of a chain that ends in `any`, as the tests of lists in specs/ say it; and what is said by a call that a `?` leaves.
use mathlib.Core.Path.{◌≡◌, refl, ◌∙◌, ap}
use mathlib.Core.Bool.{Bool, ◌||◌}
use mathlib.Core.List.{List, [], ◌∷◌, ◌++◌}
use Prim.Native.Nat.{ℕ, zero, suc}
use lib.ListN.{drop}
use Rattle.plane.specs.Lists.{any, any_next}
use Rattle.std.specs.List.{list_any, zip}
use Rattle.std.specs.Prelude.{Err}
use Rattle.words.specs.Ground.{Answer, Answered, Test, first_of, number_of, stated}
use Rattle.words.specs.declared.Ground.{Ground}
use Rattle.words.proofs.Tested.{refused_first}

pub any_same : {A : Type 0} (f : A → Bool) (xs : List A) → list_any f xs ≡ any f xs
any_same f [] = refl
any_same f (x ∷ xs) = ap (λ b. f x || b) (any_same f xs)

-- the same of neighbours: each place with the next
pub next_same : {A : Type 0} (f : A → A → Bool) (n : ℕ) (xs : List A) → list_any (λ p. f p.0 p.1) (zip (drop n xs) (drop (suc n) xs)) ≡ any_next f (drop n xs)
next_same f zero [] = refl
next_same f zero (x ∷ []) = refl
next_same f zero (x ∷ y ∷ ys) = ap (λ b. f x y || b) (next_same f zero (y ∷ ys))
next_same f (suc n) [] = refl
next_same f (suc n) (x ∷ xs) = next_same f n xs

-- a `?` that leaves a call by the ground g of its first tests refuses by it, whatever tests come after
pub left_first : (ts us : List Test) (g h : Ground) (r : Answer) {Unchanged Work : Type 0} → number_of g ≡ first_of ts → r ≡ Err h → h ≡ g → Unchanged
    → Answered (ts ++ us) r Unchanged Work
left_first ts us g h r e q p u = refused_first ts g e us (ap stated q ∙ ap (λ k. (number_of k, 0)) p) u
