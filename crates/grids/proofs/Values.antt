-- The values 0 < 2 < 1: greater and lesser are semilattices on all numbers, with 0 and 1 as units, and lead no higher than the two values are.
use mathlib.Core.Path.{◌≡◌, refl}
use Prim.Native.Nat.{ℕ, zero, suc, min, max, ◌≤◌, zero-le}
use native.Mathlib.Omega.{arith}
use Rattle.plane.specs.Point.{Point}
use Rattle.grids.specs.Frame.{greater, lesser}
use Rattle.grids.proofs.Fold.{Semilattice}

greater_assoc : (a b c : ℕ) → greater (greater a b) c ≡ greater a (greater b c)
greater_assoc zero b c = refl
greater_assoc (suc a) zero c = refl
greater_assoc (suc a) (suc b) zero = refl
greater_assoc (suc a) (suc b) (suc c) = let e : min (min a b) c ≡ min a (min b c) = omega arith in omega arith

greater_comm : (a b : ℕ) → greater a b ≡ greater b a
greater_comm zero zero = refl
greater_comm zero (suc b) = refl
greater_comm (suc a) zero = refl
greater_comm (suc a) (suc b) = let e : min a b ≡ min b a = omega arith in omega arith

greater_idem : (a : ℕ) → greater a a ≡ a
greater_idem zero = refl
greater_idem (suc a) = let e : min a a ≡ a = omega arith in omega arith

lesser_assoc : (a b c : ℕ) → lesser (lesser a b) c ≡ lesser a (lesser b c)
lesser_assoc zero b c = refl
lesser_assoc (suc a) zero c = refl
lesser_assoc (suc a) (suc b) zero = refl
lesser_assoc (suc a) (suc b) (suc c) = let e : max (max a b) c ≡ max a (max b c) = omega arith in omega arith

lesser_comm : (a b : ℕ) → lesser a b ≡ lesser b a
lesser_comm zero zero = refl
lesser_comm zero (suc b) = refl
lesser_comm (suc a) zero = refl
lesser_comm (suc a) (suc b) = let e : max a b ≡ max b a = omega arith in omega arith

lesser_idem : (a : ℕ) → lesser a a ≡ a
lesser_idem zero = refl
lesser_idem (suc a) = let e : max a a ≡ a = omega arith in omega arith

pub greater_laws : Semilattice greater
greater_laws = record { assoc = greater_assoc; comm = greater_comm; idem = greater_idem }

pub lesser_laws : Semilattice lesser
lesser_laws = record { assoc = lesser_assoc; comm = lesser_comm; idem = lesser_idem }

-- what each begins with is its unit
pub greater_unit : (a : ℕ) → greater a 0 ≡ a
greater_unit zero = refl
greater_unit (suc a) = refl

pub lesser_unit : (a : ℕ) → lesser a 1 ≡ a
lesser_unit zero = refl
lesser_unit (suc a) = let e : max a 0 ≡ a = omega arith in omega arith

-- ---- how high values are

-- no value of a picture is above n
abbrev pub Upto : ℕ → (Point → ℕ) → Type 0
Upto n f = (p : Point) → f p ≤ n

pub greater_low : (n a b : ℕ) → a ≤ n → b ≤ n → greater a b ≤ n
greater_low n zero b h k = k
greater_low n (suc a) zero h k = h
greater_low n (suc a) (suc b) h k = let l : suc (min a b) ≤ suc a = omega arith in omega arith

pub lesser_low : (n a b : ℕ) → a ≤ n → b ≤ n → lesser a b ≤ n
lesser_low n zero b h k = zero-le
lesser_low n (suc a) zero h k = zero-le
lesser_low n (suc a) (suc b) h k = omega arith
