-- Document 01, "Words": the reader of a list stands on the caller's words. What stands at a position of a list, how much is left there, and where n words
-- on is.
use Rattle.std.specs.Prelude.{List, ℕ, ◌+◌, ◌-◌, ltb, length, get_or, Option, None, Some}
use Rattle.words.specs.Read.{word_of, pick}
use Rattle.words.specs.declared.Word.{Word}

-- the word at a position, read by its kind; none where no word stands, at the end
abbrev pub item_at : List ℕ → ℕ → Option Word
item_at ws at = pick (ltb at (length ws)) (Some (word_of (get_or ws at 0))) None

-- how many words are left from a position on; none past the end
abbrev pub left_at : List ℕ → ℕ → ℕ
left_at ws at = length ws - at

-- the position n words on; the end where so many are not left
abbrev pub after : List ℕ → ℕ → ℕ → ℕ
after ws at n = pick (ltb n (left_at ws at)) (at + n) (length ws)
