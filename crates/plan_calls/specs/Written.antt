-- Document 01, "Words": a plan list is head, place, then the stages. What the writer of a plan does, by the fields that it is given.
use Rattle.std.specs.Prelude.{◌≡◌, List, ◌∷◌, ◌++◌, map, ℕ, ◌+◌, length, drop}
use Rattle.words.specs.Word.{head_word, place_word, stage_word}

-- the words of the place fields x and y, dx + 15 and dy + 15, and the stages ms
abbrev pub words_of : ℕ → ℕ → List ℕ → List ℕ
words_of x y ms = head_word (length ms) ∷ place_word x y ∷ map stage_word ms

-- they were written to out, which then is out', words past them unchanged; n is how many they are
pub record WrittenPlan (x y : ℕ) (ms out : List ℕ) (n : ℕ) (out' : List ℕ) : Type 0 where
  pub count : n ≡ length ms + 2
  pub words : out' ≡ words_of x y ms ++ drop (length ms + 2) out
