-- Writing a list, a word at a time: the words so far, and past them what stood there; and the words of the rows, a row at a time.
use Rattle.std.specs.Prelude.{None, Some}
use mathlib.Core.Path.{◌≡◌, refl, sym, ap, subst, ◌∙◌}
use mathlib.Core.Bool.{Bool, true, false, cond}
use mathlib.Core.List.{List, [], ◌∷◌, ◌++◌, map, map-append, append-nil}
use Prim.Native.Nat.{ℕ, zero, suc, ◌+◌, ◌%◌, ◌≤◌, ◌<◌}
use native.Mathlib.Omega.{arith}
use native.Mathlib.Nat.{add-suc, suc-add, add-zero, zero-add}
use native.Mathlib.Numerals.{add-one}
use borrow.Author.Tests.{lt-ltb, le-ltb}
use lib.Dec.{ltb}
use lib.ListN.{length, get_or, drop, set, length-append, length-set}
use lib.Seq.{drop-cons, append_snoc, set-append_seam, drop-set-lt}
use Rattle.plane.specs.Lists.{keep, up_to, count_from}
use Rattle.words.specs.Word.{anchor_word, row_word}
use Rattle.lists.specs.Held.{row_words_to, shape_words, WordsWritten}

-- ---- words

-- the n words ws were written to out, which then is now
pub record Written (ws out : List ℕ) (n : ℕ) (now : List ℕ) : Type 0 where
  pub count : n ≡ length ws
  pub words : now ≡ ws ++ drop (length ws) out

-- the first word
pub written_first : (out : List ℕ) (v : ℕ) → 1 ≤ length out → Written (v ∷ []) (set out 0 v) 1 (set out 0 v)
written_first [] v h = absurd (omega arith)
written_first (x ∷ out) v h = record { count = refl; words = refl }

-- one more word
pub written_more : (ws out now : List ℕ) (n v : ℕ) → length ws < length out → Written ws out n now → Written (ws ++ v ∷ []) out (n + 1) (set now n v)
written_more ws out now n v h p = record {
  count = ap (λ k. k + 1) p.count ∙ sym (length-append ws (v ∷ []));
  words =
      ap (λ l. set l n v) (p.words ∙ ap (λ l. ws ++ l) (drop-cons out (length ws) 0 h))
      ∙ ap (λ k. set (ws ++ get_or out (length ws) 0 ∷ drop (suc (length ws)) out) k v) p.count
      ∙ set-append_seam ws (get_or out (length ws) 0) (drop (suc (length ws)) out) v
      ∙ sym (append_snoc ws v (drop (suc (length ws)) out))
      ∙ ap (λ k. (ws ++ v ∷ []) ++ drop k out) (sym (add-one (length ws)) ∙ sym (length-append ws (v ∷ [])));
}

-- ---- rows

count_last : (k n : ℕ) → count_from k (suc n) ≡ count_from k n ++ (k + n) ∷ []
count_last k zero = ap (λ (m : ℕ). m ∷ []) (sym (add-zero k))
count_last k (suc n) = ap (λ l. k ∷ l) (count_last (suc k) n ∙ ap (λ (m : ℕ). count_from (suc k) n ++ m ∷ []) (suc-add k n ∙ sym (add-suc k n)))

keep_append : (f : ℕ → Bool) (xs ys : List ℕ) → keep f (xs ++ ys) ≡ keep f xs ++ keep f ys
keep_append f [] ys = refl
keep_append f (x ∷ xs) ys = go (f x) (keep_append f xs ys)
  where
    go : (b : Bool) → keep f (xs ++ ys) ≡ keep f xs ++ keep f ys
        → cond b (x ∷ keep f (xs ++ ys)) (keep f (xs ++ ys)) ≡ cond b (x ∷ keep f xs) (keep f xs) ++ keep f ys
    go true e = ap (λ l. x ∷ l) e
    go false e = e

-- the list of an anchor and the rows before y
abbrev pub list_to : ℕ → ℕ → List ℕ → ℕ → List ℕ
list_to ax ay rows y = anchor_word (ax % 16) (ay % 16) ∷ row_words_to y rows

-- row y has a column, and its word
abbrev pub filled : List ℕ → ℕ → Bool
filled rows y = ltb 0 (get_or rows y 0)

abbrev word_at : List ℕ → ℕ → ℕ
word_at rows y = row_word y (get_or rows y 0)

module _ (rows : List ℕ) (y : ℕ) where
  last : row_words_to (y + 1) rows ≡ row_words_to y rows ++ map (word_at rows) (cond (filled rows y) (y ∷ []) [])
  last =
      ap (λ n. row_words_to n rows) (add-one y)
      ∙ ap (λ l. map (word_at rows) (keep (filled rows) l)) (count_last 0 y ∙ ap (λ (m : ℕ). up_to y ++ m ∷ []) (zero-add y))
      ∙ ap (map (word_at rows)) (keep_append (filled rows) (up_to y) (y ∷ []))
      ∙ map-append (word_at rows) (keep (filled rows) (up_to y)) (cond (filled rows y) (y ∷ []) [])

  pub rows_more : 0 < get_or rows y 0 → row_words_to (y + 1) rows ≡ row_words_to y rows ++ row_word y (get_or rows y 0) ∷ []
  rows_more h = last ∙ ap (λ b. row_words_to y rows ++ map (word_at rows) (cond b (y ∷ []) [])) (lt-ltb 0 (get_or rows y 0) h)

  pub rows_skip : get_or rows y 0 ≤ 0 → row_words_to (y + 1) rows ≡ row_words_to y rows
  rows_skip h = last ∙ ap (λ b. row_words_to y rows ++ map (word_at rows) (cond b (y ∷ []) [])) (le-ltb 0 (get_or rows y 0) h) ∙ append-nil (row_words_to y rows)

-- ---- the loop: the rows before y are written

pub record Writing (ax ay : ℕ) (rows out : List ℕ) (y n : ℕ) (now : List ℕ) : Type 0 where
  pub few : n ≤ y + 1
  pub size : length now ≡ length out
  pub so_far : Written (list_to ax ay rows y) out n now

module _ (ax ay : ℕ) (rows out : List ℕ) where
  pub writing_first : 17 ≤ length out → let o = set out 0 (anchor_word (ax % 16) (ay % 16)) in Writing ax ay rows o 0 1 o
  writing_first h = record { few = omega arith; size = refl; so_far = written_first out (anchor_word (ax % 16) (ay % 16)) (omega arith) }

  module _ (y n n' : ℕ) (now now' : List ℕ) (p : Writing ax ay rows out y n now) where
    -- a row with a column is a word more
    pub writing_row : y < 16 → 17 ≤ length out → 0 < get_or rows y 0 → now' ≡ set now n (row_word y (get_or rows y 0)) → n' ≡ n + 1
        → Writing ax ay rows out (y + 1) n' now'
    writing_row l room h e f =
        let few = p.few in
        let fits : length (list_to ax ay rows y) < length out = omega (arith, p.so_far.count) in
        let w = written_more (list_to ax ay rows y) out now n (row_word y (get_or rows y 0)) fits p.so_far in
        let g = ap (λ l. anchor_word (ax % 16) (ay % 16) ∷ l) (sym (rows_more rows y h)) in
        record {
          few = omega arith;
          size = ap length e ∙ length-set now n (row_word y (get_or rows y 0)) ∙ p.size;
          so_far = subst (λ l. Written l out n' now') g
              (subst (λ k. Written (list_to ax ay rows y ++ row_word y (get_or rows y 0) ∷ []) out k now') (sym f)
              (subst (λ o. Written (list_to ax ay rows y ++ row_word y (get_or rows y 0) ∷ []) out (n + 1) o) (sym e) w));
        }

    -- an empty row is none
    pub writing_skip : get_or rows y 0 ≤ 0 → now' ≡ now → n' ≡ n → Writing ax ay rows out (y + 1) n' now'
    writing_skip h e f =
        let few = p.few in
        record {
          few = omega arith;
          size = ap length e ∙ p.size;
          so_far = subst (λ l. Written (anchor_word (ax % 16) (ay % 16) ∷ l) out n' now') (sym (rows_skip rows y h))
              (subst (λ k. Written (list_to ax ay rows y) out k now') (sym f) (subst (λ o. Written (list_to ax ay rows y) out n o) (sym e) p.so_far));
        }

  -- past the list the words are those at entry
  pub writing_done : (y n : ℕ) (now : List ℕ) → 17 ≤ length out → y ≡ 16 → Writing ax ay rows (set out 0 (anchor_word (ax % 16) (ay % 16))) y n now
      → WordsWritten (shape_words ax ay rows) out (Some n) now
  writing_done y n now h e p =
      let w = subst (λ k. Written (list_to ax ay rows k) (set out 0 (anchor_word (ax % 16) (ay % 16))) n now) e p.so_far in
      let past = drop-set-lt (length (shape_words ax ay rows)) out 0 (anchor_word (ax % 16) (ay % 16)) (omega arith) in
      record { short = λ l. absurd (omega arith); words = λ l. (ap Some w.count, w.words ∙ ap (λ o. shape_words ax ay rows ++ o) past) }

  pub writing_none : length out < 17 → WordsWritten (shape_words ax ay rows) out None out
  writing_none h = record { short = λ l. (refl, refl); words = λ l. absurd (omega arith) }
