-- Document 02, W2 and W5: the load in ten-thousandths of the cells that were measured, as a quotient and a remainder. The plain count is `load` (Frame).
use Rattle.std.specs.Prelude.{◌≡◌, Bool, not, List, [], ◌∷◌, ◌++◌, ℕ, ◌+◌, ◌*◌, ◌<◌, eqb, length, Result, Ok, Err}
use Rattle.plane.specs.Lists.{keep}
use Rattle.words.specs.declared.Ground.{Ground}
use Rattle.words.specs.Ground.{Test, number_of, Promised}
use Rattle.grids.specs.Frame.{unmeasured, frame_tests, load}
use Rattle.grids.specs.declared.Share.{Share}

-- a call's answer: a share, or the ground that refuses the frame
abbrev pub ShareAnswer : Type 0
ShareAnswer = Result Share Ground

-- the answer that is the share with this quotient and remainder
abbrev pub exact : ℕ → ℕ → ShareAnswer
exact q r = Ok (record { quotient = q; remainder = r })

-- what an answer says: the number of its ground, 0 where it is no refusal; and its quotient and its remainder, both 0 where it is a refusal
abbrev pub told : ShareAnswer → ℕ × ℕ × ℕ
told (Ok s) = (0, s.quotient, s.remainder)
told (Err g) = (number_of g, 0, 0)

abbrev pub quotient : ShareAnswer → ℕ
quotient a = (told a).1

abbrev pub remainder : ShareAnswer → ℕ
remainder a = (told a).2

-- the number of cells that were measured
unfoldable pub measured : List ℕ → ℕ
measured f = length (keep (λ v. not (eqb v unmeasured)) f)

-- ground 16: the frame has no measured cell
abbrev pub none_measured : List ℕ → Bool
none_measured f = eqb (measured f) 0

-- the call has the load's grounds, and then 16
unfoldable pub share_tests : ℕ → ℕ → List ℕ → List Test
unfolding frame_tests measured
share_tests W H f = frame_tests W H f ++ (16, none_measured f) ∷ []

-- quotient × m + remainder = 10,000 × occupied cells, with the remainder below m, where m is the number of measured cells
pub record TenThousandths (f : List ℕ) (a : ShareAnswer) : Type 0 where
  pub answer : (told a).0 ≡ 0
  pub whole : quotient a * measured f + remainder a ≡ 10000 * load f
  pub below : remainder a < measured f

-- nothing is lent to it for writing
abbrev pub Shared : ℕ → ℕ → List ℕ → ShareAnswer → Type 0
Shared W H f a = Promised (share_tests W H f) (λ k. told a ≡ (k, 0, 0)) (Unit {0}) (TenThousandths f a)
