-- What the quick search is asked with: the marked masks as a list, and a table with the numbers of each; and what a partial sum keeps for it on the way down.
use Rattle.std.specs.Prelude.{◌≡◌, Bool, List, ℕ, ◌+◌, ◌≤◌, ◌<◌, T, length, get_or, Option, MatchOption}
use Rattle.plane.specs.Lists.{all}
use Rattle.masks.specs.Mask.{stage}
use Rattle.rows.specs.Cells.{Same, Sum, At, AtMask, AtOrigin, AtSum}
use Rattle.edges.specs.Edges.{Number}
use Rattle.completions.specs.declared.Here.{Here}
use Rattle.completions.specs.Completing.{Among, number_in, Masks, Open, aim_of, partial_sum, Ready, Below, Allowed}
use Rattle.completions.specs.Opening.{Roomy}
use Rattle.search.specs.declared.Pool.{Pool}
use Rattle.search.specs.Tree.{tries, Marks, Candidates}

-- the marked masks below m are the first n of the list
pub record Drawn (marks : List Bool) (m : ℕ) (list : List ℕ) (n : ℕ) : Type 0 where
  pub few : n ≤ m
  pub long : length list ≡ 512
  pub all : (s : ℕ) → s < m → T (tries marks s) → Among list n s
  pub only : (s : ℕ) → Among list n s → T (tries marks s)

-- the first i numbers of the mask m stand in the table, and all else is as it was
pub record Stored (table : List ℕ) (m : ℕ) (numbers : List ℕ) (i : ℕ) (table' : List ℕ) : Type 0 where
  pub long : length table' ≡ length table
  pub new : (k : ℕ) → k < i → number_in table' k m ≡ get_or numbers k 0
  pub kept : (s k : ℕ) → s < m → k < 18 → number_in table' k s ≡ number_in table k s

-- the numbers of each marked mask below m stand in the table
pub record Tabled (marks : List Bool) (m : ℕ) (table : List ℕ) : Type 0 where
  pub long : length table ≡ 9216
  pub at : (s : ℕ) → s < m → T (tries marks s) → (i : ℕ) → i < 18 → Number i (AtMask s) (number_in table i s)

-- what the search starts with for the cells of a target
pub record Stocked (cells : List ℕ) (r : Pool) : Type 0 where
  pub marks : Candidates stage (At cells) 512 r.marks
  pub list : Drawn r.marks 512 r.list r.n
  pub table : Tabled r.marks 512 r.nums

-- the list that the quick search is asked with has just the marked masks
pub record Pooled (marks : List Bool) (cand : List ℕ) : Type 0 where
  pub marked : Marks marks
  pub few : length cand ≤ 512
  pub allowed : Allowed (tries marks) cand
  pub all : (m : ℕ) → T (tries marks m) → Among cand (length cand) m

-- what it is asked with for the cells of a target: the numbers of the cells, too
pub record Questioned (marks : List Bool) (cells need nums cand : List ℕ) : Type 0 where
  pub pool : Pooled marks cand
  pub masks : Masks (tries marks) nums
  pub state : Open (tries marks) (number_in nums) (At cells) AtOrigin (At cells) need

-- what is kept of a partial sum with k stages to come
pub record Underway (marks : List Bool) (nums cand : List ℕ) (here : Here) (k : ℕ) : Type 0 where
  pub pool : Pooled marks cand
  pub room : here.len + k ≤ 30
  pub state : Ready (tries marks) nums here

-- no j permitted masks lead on from the sum with the stage m
pub record Ended (nums cand : List ℕ) (here : Here) (j m : ℕ) : Type 0 where
  pub no : Roomy cand here.len j → (permitted : ℕ → Bool) → Ready permitted nums here → Allowed permitted cand
      → ((s : ℕ) → T (permitted s) → Among cand (length cand) s) → T (permitted m)
      → (ns : List ℕ) → length ns ≡ j → T (all permitted ns) → Same (aim_of here) (Sum (Sum (partial_sum here) (AtMask m)) (AtSum ns)) → ⊥

-- the partial sum below by the stage m, with j stages after it, or that no j permitted masks lead on from there
abbrev pub Led : List ℕ → List ℕ → Here → ℕ → ℕ → Option Here → Type 0
Led nums cand here j m r = MatchOption r (Ended nums cand here j m) (Below nums here m)
