-- Pages: more text is added at the end, where zeros stood.
use mathlib.Core.Path.{◌≡◌, sym, ap, ap₂, subst, ◌∙◌}
use mathlib.Core.Bool.{cond}
use mathlib.Core.List.{List, [], ◌∷◌, ◌++◌, append_assoc}
use Prim.Native.Nat.{ℕ, zero, suc, ◌+◌, ◌-◌, ◌/◌, ◌%◌, ◌≤◌, ◌<◌, min}
use native.Mathlib.Numerals.{add-one}
use native.Mathlib.Omega.{arith}
use borrow.Author.Tests.{lt-ltb, le-ltb}
use lib.ListN.{length, take, drop, set, get_or, replicate, length-append}
use lib.Seq.{set-append_seam, append_snoc, take-append_seam, drop-append_seam, take-suc, take_all, length-take-le}
use mathlib.Core.Logic.{⊎_elim}
use Rattle.plane.proofs.Tests.{lt_or_le}
use Rattle.planning.specs.Printer.{digit, word_line, word_lines, refused_line}
use Rattle.text.specs.Page.{Holds, Blank, Added}
use Rattle.text.specs.declared.Page.{Page}
use Rattle.text.proofs.Lines.{line_length, lines_append, lines_one, lines_length}

-- the text of a page is its first n bytes
pub page_text : (text : List ℕ) (p : Page) → Holds text p → take p.n p.bytes ≡ text
page_text text p H = ap₂ take H.count H.bytes ∙ take-append_seam text (replicate (288 - length text) 0)

-- those are all in the page, and zeros stand past them
pub page_rest : (text : List ℕ) (p : Page) → Holds text p → (p.n ≤ 288) × Blank p
page_rest text p H = (
  let l = H.fits in let c = H.count in omega arith,
  ap₂ drop H.count H.bytes ∙ drop-append_seam text (replicate (288 - length text) 0) ∙ ap (λ k. replicate (288 - k) 0) (sym H.count),
)

pub added_then : (p q r : Page) (xs ys : List ℕ) → Added p xs q → Added q ys r → Added p (xs ++ ys) r
added_then p q r xs ys F G = record {
  held = λ text l H.
      let n = length-append xs ys in
      let m = length-append text xs in
      subst (λ t. Holds t r) (append_assoc text xs ys) (G.held (text ++ xs) (omega arith) (F.held text (omega arith) H));
}

-- one byte
pub added_byte : (p r : Page) (b : ℕ) → r.n ≡ p.n + 1 → r.bytes ≡ set p.bytes p.n b → Added p (b ∷ []) r
added_byte p r b en eb = record { held = λ text l H. byte text (omega arith) H }
  where
    zeros : (m : ℕ) → 0 < m → replicate {A = ℕ} m 0 ≡ 0 ∷ replicate (m - 1) 0
    zeros zero h = absurd (omega arith)
    zeros (suc m) h = let e : m ≡ suc m - 1 = omega arith in ap (λ (k : ℕ). replicate {A = ℕ} (suc k) 0) e

    byte : (text : List ℕ) → length text < 288 → Holds text p → Holds (text ++ b ∷ []) r
    byte text l H =
        let n = length-append text (b ∷ []) in
        let rest = replicate {A = ℕ} (288 - length text - 1) 0 in
        let less : 288 - length text - 1 ≡ 288 - length (text ++ b ∷ []) = omega arith in
        record {
          fits = omega arith;
          count = en ∙ ap (λ k. k + 1) H.count ∙ sym n;
          bytes =
              eb
              ∙ ap₂ (λ l k. set l k b) (H.bytes ∙ ap (λ z. text ++ z) (zeros (288 - length text) (omega arith))) H.count
              ∙ set-append_seam text 0 rest b
              ∙ sym (append_snoc text b rest)
              ∙ ap (λ k. (text ++ b ∷ []) ++ replicate k 0) less;
        }

-- a page that is full takes no more
pub added_full : (p : Page) (b : ℕ) → 288 ≤ p.n → Added p (b ∷ []) p
added_full p b h = record { held = λ text l H. absurd (let c = H.count in omega arith) }

-- ---- lines of words

-- the line of the next word, of which there is room for 32
pub words_more : (ws : List ℕ) (p r : Page) (i : ℕ) → i < 32 → i < length ws → Holds (word_lines (take i ws)) p → Added p (word_line (get_or ws i 0)) r
    → Holds (word_lines (take (i + 1) ws)) r
words_more ws p r i room h H A =
    let w = get_or ws i 0 in
    let few = length-take-le i ws (omega arith) in
    let fits : length (word_lines (take i ws)) + length (word_line w) ≤ 288 = omega (arith, lines_length (take i ws), line_length w) in
    let next : take (i + 1) ws ≡ take i ws ++ w ∷ [] = ap (λ k. take k ws) (add-one i) ∙ take-suc ws i 0 h in
    let lines = ap word_lines next ∙ lines_append (take i ws) (w ∷ []) ∙ ap (λ l. word_lines (take i ws) ++ l) (lines_one w) in
    subst (λ t. Holds t r) (sym lines) (A.held (word_lines (take i ws)) fits H)

-- at the end of the words up to 32, the first 32 have their lines
pub words_first : (ws : List ℕ) (r : Page) (m i : ℕ) → m ≡ min (length ws) 32 → length (take m ws) ≤ i → Holds (word_lines (take i (take m ws))) r
    → Holds (word_lines (take 32 ws)) r
words_first ws r m i e h H = subst (λ t. Holds (word_lines t) r) (take_all i (take m ws) h ∙ same) H
  where
    same : take m ws ≡ take 32 ws
    same = ⊎_elim
        (λ (l : length ws < 32). take_all m ws (omega arith) ∙ sym (take_all 32 ws (omega arith)))
        (λ (l : 32 ≤ length ws). let q : m ≡ 32 = omega arith in ap (λ k. take k ws) q)
        (lt_or_le (length ws) 32)

-- ---- a page begun blank

pub page_of : (p r : Page) (text : List ℕ) → length text ≤ 288 → Holds [] p → Added p text r → Holds text r
page_of p r text h H A = A.held [] (omega arith) H

-- "refused " and a number below 100
abbrev pub refused_text : List ℕ
refused_text = 114 ∷ 101 ∷ 102 ∷ 117 ∷ 115 ∷ 101 ∷ 100 ∷ 32 ∷ []

module _ (p q r : Page) (n : ℕ) (H : Holds [] p) (A : Added p refused_text q) where
  -- of one digit
  pub refused_low : (a : ℕ) → n < 10 → a ≡ digit (n % 16) → Added q (a ∷ 10 ∷ []) r → Holds (refused_line n) r
  refused_low a h e B =
      let same : n % 16 ≡ n = omega arith in
      let d : a ≡ digit n = e ∙ ap digit same in
      let text = ap (λ x. refused_text ++ x ∷ 10 ∷ []) d
      ∙ ap (λ b. refused_text ++ cond b (digit n ∷ []) (digit (n / 10) ∷ digit (n % 10) ∷ []) ++ 10 ∷ []) (sym (lt-ltb n 10 h)) in
      subst (λ t. Holds t r) text (page_of p r (refused_text ++ a ∷ 10 ∷ []) (omega arith) H (added_then p q r refused_text (a ∷ 10 ∷ []) A B))

  -- of two
  pub refused_high : (a b : ℕ) → 10 ≤ n → n < 100 → a ≡ digit (n / 10 % 16) → b ≡ digit (n % 10 % 16) → Added q (a ∷ b ∷ 10 ∷ []) r → Holds (refused_line n) r
  refused_high a b h l e f B =
      let tens : n / 10 % 16 ≡ n / 10 = omega arith in
      let ones : n % 10 % 16 ≡ n % 10 = omega arith in
      let d : a ≡ digit (n / 10) = e ∙ ap digit tens in
      let g : b ≡ digit (n % 10) = f ∙ ap digit ones in
      let text = ap₂ (λ x y. refused_text ++ x ∷ y ∷ 10 ∷ []) d g
      ∙ ap (λ c. refused_text ++ cond c (digit n ∷ []) (digit (n / 10) ∷ digit (n % 10) ∷ []) ++ 10 ∷ []) (sym (le-ltb n 10 h)) in
      subst (λ t. Holds t r) text (page_of p r (refused_text ++ a ∷ b ∷ 10 ∷ []) (omega arith) H (added_then p q r refused_text (a ∷ b ∷ 10 ∷ []) A B))
