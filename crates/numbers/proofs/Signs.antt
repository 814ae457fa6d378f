-- A number stands for one answer.
use mathlib.Core.Path.{◌≡◌, sym, ◌∙◌, ap, ap₂, refl}
use Prim.Native.Nat.{ℕ, zero, suc, ◌≤◌}
use native.Mathlib.Omega.{arith}
use lib.IntN.{ℤ, pos, neg_ℤ, negsuc}
use Rattle.words.specs.Ground.{Answer}
use Rattle.std.specs.Prelude.{Ok, Err}
use Rattle.words.specs.Ground.{number_of, stated}
use Rattle.words.proofs.Refusals.{stated_once, ground_small}
use Rattle.grids.specs.Share.{ShareAnswer, told}
use Rattle.grids.proofs.Shares.{told_once}
use Rattle.numbers.specs.Numbers.{signed_of, quotient_of, remainder_of}

-- ---- a number stands for one answer

-- what the answer says whose number it is
stated_of : ℤ → ℕ × ℕ
stated_of (pos n) = (0, n)
stated_of (negsuc n) = (suc n, 0)

said : (r : Answer) → stated_of (signed_of r) ≡ stated r
unfolding stated_of
said (Ok n) = refl
said (Err g) = number_of_lem (number_of g) (ground_small g).0
  where
    number_of_lem : (n : ℕ) → 1 ≤ n → stated_of (neg_ℤ (pos n)) ≡ (n, 0)
    number_of_lem zero h = absurd (omega arith)
    number_of_lem (suc n) h = refl

pub signed_once : (r s : Answer) → signed_of r ≡ signed_of s → r ≡ s
signed_once r s e = stated_once r s (sym (said r) ∙ ap stated_of e ∙ said s)

-- a quotient's number and the number lent for the remainder stand for one share
told_of : ℤ → ℕ → ℕ × ℕ × ℕ
told_of (pos q) r = (0, q, r)
told_of (negsuc n) r = (suc n, 0, 0)

told_of_lem : (a : ShareAnswer) (before : ℕ) → told_of (quotient_of a) (remainder_of a before) ≡ told a
unfolding told_of
told_of_lem (Ok s) before = refl
told_of_lem (Err g) before = number (number_of g) (ground_small g).0
  where
    number : (n : ℕ) → 1 ≤ n → told_of (neg_ℤ (pos n)) before ≡ (n, 0, 0)
    number zero h = absurd (omega arith)
    number (suc n) h = refl

pub share_once : (a b : ShareAnswer) (before : ℕ) → quotient_of a ≡ quotient_of b → remainder_of a before ≡ remainder_of b before → a ≡ b
share_once a b before e f = told_once a b (sym (told_of_lem a before) ∙ ap₂ told_of e f ∙ told_of_lem b before)
