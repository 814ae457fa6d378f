-- Document 01, "Printer": words are read a line each, eight lower-case hexadecimal digits and a line feed. What is known after the bytes `seen`, of which
-- more may follow. Only the first 18 words are kept: a shape list has at most 17, and ground 1, which is tried first, refuses a longer one.
use Rattle.std.specs.Prelude.{◌≡◌, true, false, List, [], ◌∷◌, ◌++◌, ℕ, zero, suc, ◌+◌, ◌/◌, ◌%◌, ◌^◌, ◌≤◌, ◌<◌, min, T, ltb, length, take, Option, MatchOption}
use Rattle.plane.specs.Lists.{all}
use Rattle.planning.specs.Printer.{digit, word_lines, Reads}
use Rattle.text.specs.declared.Reading.{Reading}

-- the k lowest hexadecimal digits of v, the highest first
unfoldable pub lowest : ℕ → ℕ → List ℕ
lowest zero v = []
lowest (suc k) v = lowest k (v / 16) ++ digit (v % 16) ∷ []

-- no line so far is bad: the bytes are the lines of some words, the first 18 of which are kept, and then the digits of the line begun
pub record Begun (seen : List ℕ) (s : Reading) : Type 0 where
  pub lines : List ℕ
  pub fit : T (all (λ w. ltb w (2 ^ 32)) lines)
  pub text : seen ≡ word_lines lines ++ lowest s.digits s.value
  pub few : s.digits ≤ 8
  pub small : s.value < 16 ^ s.digits
  pub count : s.count ≡ min 18 (length lines)
  pub kept : take s.count s.words ≡ take 18 lines

-- s is what reading the bytes `seen` gives. After a bad line no bytes that follow make the input readable
pub record Held (seen : List ℕ) (s : Reading) : Type 0 where
  pub bad : s.bad ≡ true → (rest ws : List ℕ) → ¬ Reads (seen ++ rest) ws
  pub good : s.bad ≡ false → Begun seen s

-- r is what reading the bytes `more` after s gives
pub record Further (s : Reading) (more : List ℕ) (r : Reading) : Type 0 where
  pub held : (seen : List ℕ) → Held seen s → Held (seen ++ more) r

-- r is the 18 words ws with v at place i; the same words where there is no such place
pub record Updated (ws : List ℕ) (i v : ℕ) (r : List ℕ) : Type 0 where
  pub put : i < 18 → take (i + 1) r ≡ take i ws ++ v ∷ []
  pub full : 18 ≤ i → r ≡ ws

-- r is the number of the digit b; none where b is no digit
abbrev pub DigitOf : ℕ → Option ℕ → Type 0
DigitOf b r = MatchOption r ((n : ℕ) → n < 16 → ¬ (b ≡ digit n)) (λ d. (d < 16) × (b ≡ digit d))
