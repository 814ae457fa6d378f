-- Zeros and ones under or and and; and the levels of three values, which commute with both rules: a picture of three values taken through a list of points is
-- two pictures of zeros and ones taken through it.
use mathlib.Core.Path.{◌≡◌, refl, ◌∙◌, ap}
use mathlib.Core.Bool.{Bool, true, false, cond}
use mathlib.Core.List.{List, [], ◌∷◌, map}
use Prim.Native.Nat.{ℕ, zero, suc, ◌-◌, ◌≤◌, min, max}
use native.Mathlib.Omega.{arith}
use borrow.Author.Tests.{ne_eqb}
use Rattle.plane.specs.Point.{Point, ◌+ᵖ◌, ◌-ᵖ◌}
use Rattle.grids.specs.Frame.{pick_of, seed_of, over}
use Rattle.grids.specs.Image.{fold}
use Rattle.grids.proofs.Fold.{Semilattice}
use Rattle.planes.specs.Bits.{bit_pick, bit_seed, bits_over, level, level_bit, of_levels}

pub or_laws : Semilattice max
or_laws = record { assoc = λ a b c. omega arith; comm = λ a b. omega arith; idem = λ a. omega arith }

pub and_laws : Semilattice min
and_laws = record { assoc = λ a b c. omega arith; comm = λ a b. omega arith; idem = λ a. omega arith }

-- ---- levels

-- of a value that is not 0
one_level : (n : ℕ) → level false (suc n) ≡ 1 - n
one_level zero = refl
one_level (suc n) = ap (λ b. cond b 1 0) (ne_eqb (suc (suc n)) 1 (λ e. omega arith)) ∙ omega arith

some_level : (n : ℕ) → level true (suc n) ≡ 1
some_level n = ap (λ b. cond b 0 1) (ne_eqb (suc n) 0 (λ e. omega arith))

pub level_low : (some : Bool) (v : ℕ) → v ≤ 1 → level some v ≡ v
level_low true zero h = refl
level_low true (suc zero) h = refl
level_low true (suc (suc v)) h = absurd (omega arith)
level_low false zero h = refl
level_low false (suc zero) h = refl
level_low false (suc (suc v)) h = absurd (omega arith)

-- the bits that are packed
pub level_is : (some : Bool) (c : ℕ) → c ≤ 2 → level_bit some c ≡ level some c
level_is true zero h = refl
level_is true (suc zero) h = refl
level_is true (suc (suc zero)) h = refl
level_is true (suc (suc (suc c))) h = absurd (omega arith)
level_is false zero h = refl
level_is false (suc zero) h = refl
level_is false (suc (suc zero)) h = refl
level_is false (suc (suc (suc c))) h = absurd (omega arith)

-- both levels are the cell
pub of_levels_lem : (v : ℕ) → v ≤ 2 → of_levels (level false v) (level true v) ≡ v
of_levels_lem zero h = refl
of_levels_lem (suc zero) h = refl
of_levels_lem (suc (suc zero)) h = refl
of_levels_lem (suc (suc (suc v))) h = absurd (omega arith)

-- ---- with the pick of two values

none_level : (some : Bool) → level some 0 ≡ 0
none_level true = refl
none_level false = refl

pick_level : (some erode : Bool) (a b : ℕ) → level some (pick_of erode a b) ≡ bit_pick erode (level some a) (level some b)
pick_level some true zero b = let z = none_level some in omega arith
pick_level some true (suc a) zero = let z = none_level some in omega arith
pick_level true true (suc a) (suc b) = let x = some_level a in let y = some_level b in let z = some_level (max a b) in omega arith
pick_level false true (suc a) (suc b) = let x = one_level a in let y = one_level b in let z = one_level (max a b) in omega arith
pick_level some false zero b = let z = none_level some in omega arith
pick_level some false (suc a) zero = let z = none_level some in omega arith
pick_level true false (suc a) (suc b) = let x = some_level a in let y = some_level b in let z = some_level (min a b) in omega arith
pick_level false false (suc a) (suc b) = let x = one_level a in let y = one_level b in let z = one_level (min a b) in omega arith

seed_level : (some erode : Bool) → level some (seed_of erode) ≡ bit_seed erode
seed_level true true = refl
seed_level true false = refl
seed_level false true = refl
seed_level false false = refl

fold_level : {B : Type 0} (some erode : Bool) (g : B → ℕ) (P : List B)
    → level some (fold (pick_of erode) (seed_of erode) (map g P)) ≡ fold (bit_pick erode) (bit_seed erode) (map (λ b. level some (g b)) P)
fold_level some erode g [] = seed_level some erode
fold_level some erode g (b ∷ P) =
    pick_level some erode (g b) (fold (pick_of erode) (seed_of erode) (map g P)) ∙ ap (bit_pick erode (level some (g b))) (fold_level some erode g P)

-- each level of what a picture gives is what the level gives
pub over_level : (some erode : Bool) (P : List Point) (f : Point → ℕ) (p : Point) → level some (over erode P f p) ≡ bits_over erode P (λ q. level some (f q)) p
over_level some true P f p = fold_level some true (λ a. f (p +ᵖ a)) P
over_level some false P f p = fold_level some false (λ a. f (p -ᵖ a)) P
