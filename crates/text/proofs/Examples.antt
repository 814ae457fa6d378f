-- Worked cases of readings and pages.
use mathlib.Core.Path.{◌≡◌, refl, sym, ◌∙◌, ap}
use mathlib.Core.Bool.{true, false}
use mathlib.Core.List.{List, [], ◌∷◌, ◌++◌}
use Prim.Native.Nat.{ℕ}
use native.Mathlib.Omega.{arith}
use lib.ListN.{take, replicate}
use Rattle.planning.specs.Printer.{word_lines, refused_line, Reads}
use Rattle.text.specs.Page.{Holds}
use Rattle.text.specs.Reader.{lowest, Begun, Held}
use Rattle.text.specs.declared.Page.{Page}
use Rattle.text.specs.declared.Reading.{Reading}
use Rattle.text.proofs.Lines.{next_byte, digit_none}

-- the digits of 2009abe, a line begun
begun : lowest 7 0x2009abe ≡ 50 ∷ 48 ∷ 48 ∷ 57 ∷ 97 ∷ 98 ∷ 101 ∷ []
unfolding lowest
begun = refl

-- two lines and three digits: two words are kept, and the digits' value is 0x20f
two : Reading
two = record { bad = false; count = 2; words = 0x10000000 ∷ 0x2000000f ∷ replicate 16 0; digits = 3; value = 0x20f }

two_held : Held (word_lines (0x10000000 ∷ 0x2000000f ∷ []) ++ 50 ∷ 48 ∷ 102 ∷ []) two
unfolding two lowest
two_held = record {
  bad = λ e. absurd (no e);
  good = λ _. record { lines = 0x10000000 ∷ 0x2000000f ∷ []; fit = tt; text = refl; few = omega arith; small = omega arith; count = refl; kept = refl };
}
  where
    no : false ≡ true → ⊥
    no e = let z : ◌≡◌ {A = ℕ} 0 1 = cc in omega arith

-- an upper-case F spoils the line, whatever comes after it
upper_case : (rest ws : List ℕ) → ¬ Reads (70 ∷ rest) ws
unfolding lowest
upper_case rest ws r =
    let d = (next_byte 0 0 70 rest ws (omega arith) r.lines).0 (omega arith) in
    digit_none 70 (λ n l e. omega arith) (λ n l k e. omega arith) d.0 d.1.0 d.1.1

-- the page "refused 10"
ten : Page
ten = record { n = 11; bytes = 114 ∷ 101 ∷ 102 ∷ 117 ∷ 115 ∷ 101 ∷ 100 ∷ 32 ∷ 49 ∷ 48 ∷ 10 ∷ replicate 277 0 }

ten_held : Holds (refused_line 10) ten
unfolding ten
ten_held = record { fits = omega arith; count = refl; bytes = refl }

-- where 18 words are counted, the first 18 lines are kept
eighteen_kept : (seen : List ℕ) (s : Reading) (b : Begun seen s) → s.count ≡ 18 → take 18 s.words ≡ take 18 b.lines
eighteen_kept seen s b e = ap (λ n. take n s.words) (sym e) ∙ b.kept
