-- Worked cases of planning's grounds and of the printed lines.
use mathlib.Core.Path.{◌≡◌, refl, ◌∙◌, ap}
use mathlib.Core.List.{List, [], ◌∷◌}
use Prim.Native.Nat.{ℕ, ◌+◌}
use native.Mathlib.Omega.{arith}
use lib.ListN.{length, length-append, replicate}
use Rattle.words.specs.Ground.{first_of, stated, result, refusal}
use Rattle.words.specs.Ground.{Answer}
use Rattle.masks.specs.Chain.{Chain, subset}
use Rattle.shapes.specs.Shape.{shape_tests}
use Rattle.planning.specs.Planning.{ShapeSet, planning_tests, Unplannable, PlanWritten, Planned}
use Rattle.planning.specs.Printer.{word_line, word_lines, shown, Reads, Printed}

-- an output list of 32 words is enough for a plan, and a wrong shape list comes before one that is not
room_32 : first_of (planning_tests (0x10000000 ∷ 0x20000001 ∷ []) (replicate 32 0)) ≡ 0
unfolding shape_tests
room_32 = refl

room_31 : first_of (planning_tests (0x10000000 ∷ 0x20000001 ∷ []) (replicate 31 0)) ≡ 9
unfolding shape_tests
room_31 = refl

shape_first : first_of (planning_tests (0x10000000 ∷ 0x20000000 ∷ []) []) ≡ 4
unfolding shape_tests
shape_first = refl

-- the word 2009abef, highest digit first, in lower case
digits : word_line 0x2009abef ≡ 50 ∷ 48 ∷ 48 ∷ 57 ∷ 97 ∷ 98 ∷ 101 ∷ 102 ∷ 10 ∷ []
unfolding word_line
digits = refl

-- the lines "refused 1" and "refused 10"
refused_1 : shown (1, 0) [] ≡ 114 ∷ 101 ∷ 102 ∷ 117 ∷ 115 ∷ 101 ∷ 100 ∷ 32 ∷ 49 ∷ 10 ∷ []
refused_1 = refl

refused_10 : shown (10, 0) [] ≡ 114 ∷ 101 ∷ 102 ∷ 117 ∷ 115 ∷ 101 ∷ 100 ∷ 32 ∷ 49 ∷ 48 ∷ 10 ∷ []
refused_10 = refl

-- a plan of two words is shown alone, however long the output list is
plan_only : shown (0, 2) (0x30000000 ∷ 0x40000f0f ∷ 7 ∷ []) ≡ word_lines (0x30000000 ∷ 0x40000f0f ∷ [])
plan_only = refl

-- each digit at its place
digits_all : (word_line 0x12345678 ≡ 49 ∷ 50 ∷ 51 ∷ 52 ∷ 53 ∷ 54 ∷ 55 ∷ 56 ∷ 10 ∷ [])
    × (word_line 0xfedcba90 ≡ 102 ∷ 101 ∷ 100 ∷ 99 ∷ 98 ∷ 97 ∷ 57 ∷ 48 ∷ 10 ∷ [])
unfolding word_line
digits_all = (refl, refl)

-- the highest word is read, and nothing above it
reads_highest : Reads (word_lines (0xffffffff ∷ [])) (0xffffffff ∷ [])
reads_highest = record { words = tt; lines = refl }

reads_no_more : ¬ Reads (word_lines (0 ∷ [])) (0x100000000 ∷ [])
reads_no_more r = r.words

-- a line that is otherwise: only "unreadable"
spoilt : (output : List ℕ) → Printed (10 ∷ []) output → output ≡ 117 ∷ 110 ∷ 114 ∷ 101 ∷ 97 ∷ 100 ∷ 97 ∷ 98 ∷ 108 ∷ 101 ∷ 10 ∷ []
unfolding word_lines word_line
spoilt output p = p.unreadable (λ ws r. no ws r.lines)
  where
    no : (ws : List ℕ) → (10 ∷ []) ≡ word_lines ws → ⊥
    no [] e = let z : ◌≡◌ {A = ℕ} 1 0 = ap length e in omega arith
    no (w ∷ ws) e =
        let z : ◌≡◌ {A = ℕ} 1 (length (word_line w) + length (word_lines ws)) = ap length e ∙ length-append (word_line w) (word_lines ws) in
        let k : length (word_line w) ≡ 9 = refl in
        omega arith

-- a refusal leaves the output list
plans_not : (r : Answer) (out' : List ℕ) → Planned (0x10000000 ∷ 0x20000000 ∷ []) (replicate 32 7) r out' → (stated r ≡ refusal 4) × (out' ≡ replicate 32 7)
unfolding shape_tests
plans_not r out' p = p.refused (λ e. let n : ◌≡◌ {A = ℕ} 4 0 = e in omega arith)

-- a plan of two stages is a list of four words
answers_4 : (ws out : List ℕ) (r : Answer) (out' : List ℕ) (w : PlanWritten ws out r out') → w.stages ≡ 3 ∷ 5 ∷ [] → stated r ≡ result 4
answers_4 ws out r out' w e = w.answer ∙ ap (λ l. result (length l + 2)) e

-- a shape with a chain is not refused by 10
not_ten : (ws out : List ℕ) (r : Answer) (out' : List ℕ) → Chain subset (ShapeSet ws) → Unplannable ws out r out' → ⊥
not_ten ws out r out' c u = u.none c
