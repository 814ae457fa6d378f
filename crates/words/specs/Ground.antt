-- Document 01, "The fourteen grounds, in checking order", and what document 02 adds to them: the number of each ground, what an answer says, and the first test
-- that holds.
-- Each call has a list of numbered tests in checking order; a ground added later is one line more in the lists of the calls that meet it.
use Rattle.std.specs.Prelude.{◌≡◌, ◌≢◌, Bool, true, false, cond, ◌||◌, List, [], ◌∷◌, ℕ, Result, Ok, Err}
use Rattle.words.specs.declared.Ground.{Ground}
use Rattle.words.specs.declared.Ground.TheVariants.{ListLength, WordKind, ExtraBit, RowOrder, StageCount, PlaceField, StageMask, OutOfRange}
use Rattle.words.specs.declared.Ground.TheVariants.{OutputLength, NoChain, FrameSize, FrameLength, CellValue, ImageLength, RowLength, NoneMeasured}

-- the number of each ground: document 01's, and from 15 on document 02's
abbrev pub number_of : Ground → ℕ
number_of ListLength = 1
number_of WordKind = 2
number_of ExtraBit = 3
number_of RowOrder = 4
number_of StageCount = 5
number_of PlaceField = 6
number_of StageMask = 7
number_of OutOfRange = 8
number_of OutputLength = 9
number_of NoChain = 10
number_of FrameSize = 11
number_of FrameLength = 12
number_of CellValue = 13
number_of ImageLength = 14
number_of RowLength = 15
number_of NoneMeasured = 16

-- a call's answer: its result, or the ground that refuses it
abbrev pub Answer : Type 0
Answer = Result ℕ Ground

-- what an answer says: the number of its ground, 0 where it is no refusal; and its result, 0 where it is a refusal
abbrev pub stated : Answer → ℕ × ℕ
stated (Ok n) = (0, n)
stated (Err g) = (number_of g, 0)

-- what is said by a result, and by a refusal, which hands back its number alone
abbrev pub result : ℕ → ℕ × ℕ
result n = (0, n)

abbrev pub refusal : ℕ → ℕ × ℕ
refusal g = (g, 0)

-- the number of a ground, and whether it holds
abbrev pub Test : Type 0
Test = ℕ × Bool

-- the number of the first test that holds; 0 if none does
abbrev pub first_of : List Test → ℕ
first_of [] = 0
first_of (t ∷ ts) = let r = first_of ts in cond t.1 t.0 r

-- the number of the ground that refuses, 0 where none does, whatever is answered then
abbrev pub refused_by : {A : Type 0} → Result A Ground → ℕ
refused_by (Ok _) = 0
refused_by (Err g) = number_of g

-- one ground, tried by itself: it refuses where its test holds
abbrev pub Tried : Bool → Ground → Result (Unit {0}) Ground → Type 0
Tried holds g (Ok _) = holds ≡ false
Tried holds g (Err f) = (holds ≡ true) × (f ≡ g)

-- one ground more, tried behind those that the answer a is for: a refusal stays, and else the ground g refuses where its test holds
pub record TriedAfter {A : Type 0} (a : Result A Ground) (holds : Bool) (g : Ground) (r : Result A Ground) : Type 0 where
  pub stays : (f : Ground) → a ≡ Err f → r ≡ Err f
  pub refuses : (x : A) → a ≡ Ok x → holds ≡ true → r ≡ Err g
  pub passes : (x : A) → a ≡ Ok x → holds ≡ false → r ≡ Ok x

-- the tests of two lists that meet the same grounds: each ground is tried over both before the next
abbrev pub both : List Test → List Test → List Test
both [] us = us
both (t ∷ ts) [] = t ∷ ts
both (t ∷ ts) (u ∷ us) = (t.0, t.1 || u.1) ∷ both ts us

-- what a call with these tests does, of whatever type its answer is: where one holds, the answer refuses by the first, and all that is lent stays as it is;
-- else the call does its work. Refuses k: the answer is the refusal by the ground k
pub record Promised (tests : List Test) (Refuses : ℕ → Type 0) (Unchanged Work : Type 0) : Type 0 where
  pub refused : first_of tests ≢ 0 → Refuses (first_of tests) × Unchanged
  pub done : first_of tests ≡ 0 → Work

-- the same of a call that hands back an `Answer`
abbrev pub Answered : List Test → Answer → Type 0 → Type 0 → Type 0
Answered tests r Unchanged Work = Promised tests (λ k. stated r ≡ refusal k) Unchanged Work
