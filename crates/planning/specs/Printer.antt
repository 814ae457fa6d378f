-- Document 01, "Printer": what the program `shapeplan` prints for what it reads. Both are lists of bytes.
use Rattle.std.specs.Prelude.{◌≡◌, cond, List, [], ◌∷◌, ◌++◌, ℕ, zero, suc, ◌+◌, ◌/◌, ◌%◌, ◌^◌, T, ltb, length, take}
use Rattle.plane.specs.Lists.{all, flat}
use Rattle.words.specs.Ground.{stated}
use Rattle.words.specs.Ground.{Answer}
use Rattle.planning.specs.Planning.{Planned}

-- ---- text

abbrev pub line_feed : ℕ
line_feed = 10

-- a digit, 0 to 9 and then a to f
abbrev pub digit : ℕ → ℕ
digit n = cond (ltb n 10) (48 + n) (87 + n)

-- a word: eight lower-case hexadecimal digits, the highest first, and a line feed
unfoldable pub word_line : ℕ → List ℕ
word_line w =
    digit (w / 2 ^ 28 % 16)
    ∷ digit (w / 2 ^ 24 % 16)
    ∷ digit (w / 2 ^ 20 % 16)
    ∷ digit (w / 2 ^ 16 % 16)
    ∷ digit (w / 2 ^ 12 % 16)
    ∷ digit (w / 2 ^ 8 % 16)
    ∷ digit (w / 2 ^ 4 % 16)
    ∷ digit (w % 16)
    ∷ line_feed
    ∷ []

-- a list of words, a line each
unfoldable pub word_lines : List ℕ → List ℕ
unfolding word_line
word_lines ws = flat word_line ws

-- a number below 100 in decimal
abbrev pub decimal : ℕ → List ℕ
decimal n = cond (ltb n 10) (digit n ∷ []) (digit (n / 10) ∷ digit (n % 10) ∷ [])

-- the line "refused N"
abbrev pub refused_line : ℕ → List ℕ
refused_line n = 114 ∷ 101 ∷ 102 ∷ 117 ∷ 115 ∷ 101 ∷ 100 ∷ 32 ∷ decimal n ++ line_feed ∷ []

-- the line "unreadable"
abbrev pub unreadable_line : List ℕ
unreadable_line = 117 ∷ 110 ∷ 114 ∷ 101 ∷ 97 ∷ 100 ∷ 97 ∷ 98 ∷ 108 ∷ 101 ∷ line_feed ∷ []

-- ---- what is printed

-- the input is the lines of the words ws, and nothing else
pub record Reads (input ws : List ℕ) : Type 0 where
  pub words : T (all (λ w. ltb w (2 ^ 32)) ws)
  pub lines : input ≡ word_lines ws

-- an answer of planning, with the output list as it left it: the plan's lines, or the refusal
abbrev pub shown : ℕ × ℕ → List ℕ → List ℕ
shown (zero, n) out = word_lines (take n out)
shown (suc g, n) out = refused_line (suc g)

-- planning, given an output list of 32 words, answered r and left out'
pub record PrintedFor (ws output : List ℕ) : Type 0 where
  pub out : List ℕ
  pub room : length out ≡ 32
  pub answer : Answer
  pub out' : List ℕ
  pub plans : Planned ws out answer out'
  pub prints : output ≡ shown (stated answer) out'

-- if some line is otherwise, or the last has no line feed, only `unreadable` is printed; else the plan of the words, or its refusal
pub record Printed (input output : List ℕ) : Type 0 where
  pub unreadable : ((ws : List ℕ) → ¬ Reads input ws) → output ≡ unreadable_line
  pub readable : (ws : List ℕ) → Reads input ws → PrintedFor ws output
