-- Document 01, "Shortest plan": the tree that the search goes down. A partial sum Y tries each stage, and each stage tried opens the sum below it.
use Rattle.std.specs.Prelude.{◌≡◌, Bool, false, true, not, List, ◌∷◌, ℕ, ◌-◌, ◌≤◌, ◌<◌, T, get_or, length, Option, MatchOption}
use Rattle.plane.specs.Lists.{all, In}
use Rattle.masks.specs.Chain.{falling, smaller}
use Rattle.masks.specs.Mask.{stage}
use Rattle.rows.specs.Cells.{Cells, Same, Sum, AtMask, AtSum, chosen}
use Rattle.search.specs.Plans.{SumsTo}

-- ms are permitted stages, none below m and none below the one before it, and complete Y to A
pub record Completes (permitted : ℕ → Bool) (A Y : Cells) (m : ℕ) (ms : List ℕ) : Type 0 where
  pub stages : T (all permitted ms)
  pub rising : T (not (falling (m ∷ ms)))
  pub sum : Same A (Sum Y (AtSum ms))

-- the first of the lists of k stages, none below m, that complete Y to A, as an array has it, which is 0 past the stages
pub record Line (permitted : ℕ → Bool) (A Y : Cells) (k m : ℕ) (masks : List ℕ) : Type 0 where
  pub sound : Completes permitted A Y m (chosen masks k)
  pub first : (ns : List ℕ) → length ns ≡ k → Completes permitted A Y m ns → T (not (smaller ns (chosen masks k)))
  pub past : (i : ℕ) → k ≤ i → get_or masks i 0 ≡ 0

-- the answer for k stages, none below m: that list, or that there is none
abbrev pub FirstLine : (ℕ → Bool) → Cells → Cells → ℕ → ℕ → Option (List ℕ) → Type 0
FirstLine permitted A Y k m r = MatchOption r ((ns : List ℕ) → length ns ≡ k → Completes permitted A Y m ns → ⊥) (Line permitted A Y k m)

-- no k stages with m first, none below it, complete Y to A
abbrev pub NoneFirst : (ℕ → Bool) → Cells → Cells → ℕ → ℕ → Type 0
NoneFirst permitted A Y k m = (ns : List ℕ) → length ns ≡ k - 1 → Completes permitted A (Sum Y (AtMask m)) m ns → ⊥

-- of k stages, none below m, what completes Y to A has none below i
pub record Narrowed (permitted : ℕ → Bool) (A Y : Cells) (k m i : ℕ) : Type 0 where
  pub from : m ≤ i
  pub later : (ns : List ℕ) → length ns ≡ k → Completes permitted A Y m ns → Completes permitted A Y i ns

-- ---- which masks are tried at all

-- mask m is marked as one to try
abbrev pub tries : List Bool → ℕ → Bool
tries marks m = get_or marks m false

-- a mark for each mask, none but stages marked
pub record Marks (marks : List Bool) : Type 0 where
  pub room : length marks ≡ 512
  pub stages : (m : ℕ) → T (tries marks m) → T (stage m)

-- the mark of m: only a permitted mask has it, and no sum of permitted masks that is A has an unmarked one
pub record Candidate (permitted : ℕ → Bool) (A : Cells) (m : ℕ) (mark : Bool) : Type 0 where
  pub tried : mark ≡ true → T (permitted m)
  pub passed : mark ≡ false → T (permitted m) → (ns : List ℕ) → SumsTo permitted A ns → In ns m → ⊥

-- the marks of all masks below n
pub record Candidates (permitted : ℕ → Bool) (A : Cells) (n : ℕ) (marks : List Bool) : Type 0 where
  pub room : length marks ≡ 512
  pub at : (m : ℕ) → m < n → Candidate permitted A m (get_or marks m false)
  pub rest : (m : ℕ) → n ≤ m → get_or marks m false ≡ false
