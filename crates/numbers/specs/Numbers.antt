-- What the calls for other languages answer: one signed 64-bit number, the result, or −N for refusal N; where the remainder
-- of a load goes; what the byte of a single stage says; and which bytes the part is, also where it is asked for with a refusal.
use Rattle.std.specs.Prelude.{◌≡◌, Bool, cond, not, List, [], ℕ, ◌%◌, eqb, ℤ, pos, negsuc, neg_ℤ, length, take, Ok, Err}
use Rattle.words.specs.Ground.{Answer, number_of}
use Rattle.grids.specs.Share.{ShareAnswer}
use Rattle.grids.specs.declared.Around.{Around}
use Rattle.grids.specs.declared.Around.TheVariants.{Free, Occupied}
use Rattle.cleaning.specs.Cleaning.{part}

abbrev pub signed_of : Answer → ℤ
signed_of (Ok n) = pos n
signed_of (Err g) = neg_ℤ (pos (number_of g))

-- r is the number of an answer of which P is promised
pub record Stands (r : ℤ) (P : Answer → Type 0) : Type 0 where
  pub answer : Answer
  pub number : r ≡ signed_of answer
  pub kept : P answer

-- ---- the load in ten-thousandths: the quotient, or −N for refusal N; the remainder goes to a number that is lent for it, which a refusal leaves as it is

abbrev pub quotient_of : ShareAnswer → ℤ
quotient_of (Ok s) = pos s.quotient
quotient_of (Err g) = neg_ℤ (pos (number_of g))

abbrev pub remainder_of : ShareAnswer → ℕ → ℕ
remainder_of (Ok s) before = s.remainder
remainder_of (Err g) before = before

-- n and the lent number, then after, are those of an answer of which P is promised
pub record ShareStands (n : ℤ) (before after : ℕ) (P : ShareAnswer → Type 0) : Type 0 where
  pub answer : ShareAnswer
  pub number : n ≡ quotient_of answer
  pub rest : after ≡ remainder_of answer before
  pub kept : P answer

-- ---- putting and the single stage

-- the kind of grid: a byte names the first if it is 0, and else the second
abbrev pub around_of : ℕ → Around
around_of b = cond (eqb b 0) Free Occupied

-- a byte says to erode if it is anything but 0
abbrev pub erodes : ℕ → Bool
erodes b = not (eqb b 0)

-- ---- the part, for the number that an operation answered

-- the number of the image that holds the result: 2, the second, if the number of stages run is even, 1, the first, if odd; 0, neither, for a refusal
abbrev pub image_of : ℤ → ℕ
image_of (pos n) = cond (eqb (n % 2) 0) 2 1
image_of (negsuc _) = 0

-- the image with a number
abbrev pub image_at : ℕ → List ℕ → List ℕ → List ℕ
image_at k first second = cond (eqb k 2) second (cond (eqb k 1) first [])

-- the part that is handed back: that of the stages run, and none for a refusal
abbrev pub part_for : ℤ → ℕ → ℕ → List ℕ → List ℕ → List ℕ
part_for (pos n) W H first second = part n W H first second
part_for (negsuc _) W H first second = []

-- the part for an answer a is the first r bytes of the image k
pub record PartFound (a : ℤ) (W H : ℕ) (i j : List ℕ) (r : ℤ) (k : ℕ) : Type 0 where
  pub image : k ≡ image_of a
  pub number : r ≡ pos (length (part_for a W H i j))
  pub bytes : take (length (part_for a W H i j)) (image_at k i j) ≡ part_for a W H i j
