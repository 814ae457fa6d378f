-- Document 01, "Printer": what is printed for a reading, and for an answer of planning.
use Rattle.std.specs.Prelude.{◌≡◌, List, ℕ}
use Rattle.words.specs.Ground.{stated}
use Rattle.words.specs.Ground.{Answer}
use Rattle.planning.specs.Printer.{shown, Printed}
use Rattle.text.specs.Reader.{Held}
use Rattle.text.specs.declared.Reading.{Reading}

-- the output is what is shown of an answer and the output list of 32 words that it left
pub record PageShows (answer : Answer) (out output : List ℕ) : Type 0 where
  pub text : output ≡ shown (stated answer) out

-- the output is what is printed for every input of which s is the reading
pub record Answers (s : Reading) (output : List ℕ) : Type 0 where
  pub prints : (seen : List ℕ) → Held seen s → Printed seen output
