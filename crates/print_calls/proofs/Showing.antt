-- The page of an answer: the lines of a plan, or of the number of a ground.
use mathlib.Core.Path.{◌≡◌, refl, sym, ap, ◌∙◌}
use mathlib.Core.List.{List}
use Prim.Native.Nat.{ℕ, zero, suc, ◌%◌, ◌≤◌, ◌<◌, min}
use mathlib.Core.Logic.{⊎_elim}
use Rattle.plane.proofs.Tests.{lt_or_le}
use lib.ListN.{length, take, length-take}
use lib.Seq.{take_all}
use native.Mathlib.Omega.{arith}
use Rattle.words.specs.Ground.{number_of, stated}
use Rattle.words.specs.declared.Ground.{Ground}
use Rattle.words.specs.Ground.{Answer}
use Rattle.std.specs.Prelude.{Ok, Err}
use Rattle.words.proofs.Refusals.{ground_small}
use Rattle.planning.specs.Printer.{word_lines, refused_line, shown}
use Rattle.text.specs.Page.{Holds}
use Rattle.text.specs.declared.Page.{Page}
use Rattle.text.proofs.Pages.{page_text}
use Rattle.print_calls.specs.Answers.{PageShows}

module _ (a : Answer) (out : List ℕ) (r : Page) where
  -- a plan of n words, cut to the output list's 32, for which a page has room
  pub shows_plan : (n k : ℕ) → a ≡ Ok n → length out ≡ 32 → k ≡ min n 32 → Holds (word_lines (take 32 (take k out))) r → PageShows a out (take r.n r.bytes)
  shows_plan n k e l m H =
      let h = length-take k out in
      record { text = page_text _ r H ∙ ap word_lines (take_all 32 (take k out) (omega arith) ∙ same) ∙ sym (ap (λ b. shown (stated b) out) e) }
    where
      same : take k out ≡ take n out
      same = ⊎_elim
          (λ (h : n < 32). let q : k ≡ n = omega arith in ap (λ j. take j out) q)
          (λ (h : 32 ≤ n). take_all k out (omega arith) ∙ sym (take_all n out (omega arith)))
          (lt_or_le n 32)

-- no ground has the number 0, and all are below 100
refused_is : (g : Ground) (out : List ℕ) → refused_line (number_of g % 100) ≡ shown (stated (Err g)) out
refused_is g out = let s = ground_small g in let e : number_of g % 100 ≡ number_of g = omega arith in ap refused_line e ∙ go (number_of g) s.0
  where
    go : (n : ℕ) → 1 ≤ n → refused_line n ≡ shown (n, 0) out
    go zero h = absurd (omega arith)
    go (suc n) h = refl

pub shows_refused : (a : Answer) (out : List ℕ) (r : Page) (g : Ground) (k : ℕ) → a ≡ Err g → k ≡ number_of g → Holds (refused_line (k % 100)) r
    → PageShows a out (take r.n r.bytes)
shows_refused a out r g k e f H =
    record { text = page_text _ r H ∙ ap (λ n. refused_line (n % 100)) f ∙ refused_is g out ∙ sym (ap (λ b. shown (stated b) out) e) }
