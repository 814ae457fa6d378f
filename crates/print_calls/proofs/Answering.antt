-- What is printed for a reading: `unreadable` for no list of words, else what is printed for the words that were kept.
use mathlib.Core.Path.{◌≡◌, subst}
use mathlib.Core.Bool.{true, false}
use mathlib.Core.List.{List}
use Prim.Native.Nat.{ℕ, ◌<◌}
use native.Mathlib.Omega.{arith}
use lib.ListN.{take}
use Rattle.planning.specs.Printer.{unreadable_line, Reads, PrintedFor}
use Rattle.planning.proofs.Once.{reads_once}
use Rattle.text.specs.Page.{Holds}
use Rattle.text.specs.Reader.{Held}
use Rattle.text.specs.declared.Page.{Page}
use Rattle.text.specs.declared.Reading.{Reading}
use Rattle.text.proofs.Pages.{page_text}
use Rattle.text.proofs.Readings.{bad_unread, begun_unread, all_read}
use Rattle.print_calls.specs.Answers.{Answers}
use Rattle.print_calls.proofs.Kept.{kept_printed}

module _ (s : Reading) (r : Page) where
  unread : Holds unreadable_line r → ((seen : List ℕ) → Held seen s → (ws : List ℕ) → ¬ Reads seen ws) → Answers s (take r.n r.bytes)
  unread P none = record { prints = λ seen H. record { unreadable = λ _. page_text unreadable_line r P; readable = λ ws R. absurd (none seen H ws R) } }

  -- some line is bad
  pub answers_bad : s.bad ≡ true → Holds unreadable_line r → Answers s (take r.n r.bytes)
  answers_bad e P = unread P (λ seen H. bad_unread seen s H e)

  -- the last line has no line feed
  pub answers_begun : s.bad ≡ false → ¬ (s.digits ≡ 0) → Holds unreadable_line r → Answers s (take r.n r.bytes)
  answers_begun e n P = unread P (λ seen H. begun_unread seen s H e n)

  -- no reading counts more than 18 words
  pub answers_none : s.bad ≡ false → 18 < s.count → Holds unreadable_line r → Answers s (take r.n r.bytes)
  answers_none e n P = unread P (λ seen H ws R. let c = (H.good e).count in omega arith)

-- all is read: what is printed for the words kept is printed for all
pub answers_words : (s : Reading) (output : List ℕ) → s.bad ≡ false → s.digits ≡ 0 → PrintedFor (take s.count s.words) output → Answers s output
answers_words s output e z P = record {
  prints = λ seen H.
      let B = H.good e in
      let R = all_read seen s H e z in
      let Q = kept_printed B.lines output (subst (λ l. PrintedFor l output) B.kept P) in
      record {
        unreadable = λ none. absurd (none B.lines R);
        readable = λ ws S. subst (λ l. PrintedFor l output) (reads_once seen B.lines ws R S) Q;
      };
}
