-- Positions of a list of words: what stands there, how much is left, and where moving on leads.
use mathlib.Core.Path.{◌≡◌, sym, ap, ◌∙◌}
use mathlib.Core.Logic.{◌⊎◌, inl, inr, ⊎_elim}
use mathlib.Core.List.{List, [], ◌∷◌, map}
use Prim.Native.Nat.{ℕ, suc, ◌+◌, ◌-◌, ◌<◌, ◌≤◌}
use native.Mathlib.Omega.{arith}
use native.Mathlib.Nat.{add_assoc}
use native.Mathlib.Numerals.{add-one}
use borrow.Author.Tests.{lt-ltb, le-ltb}
use lib.ListN.{length, get_or, drop, drop_of_length-le}
use lib.Seq.{drop-cons}
use Rattle.plane.proofs.Tests.{lt_or_le}
use Rattle.words.specs.Read.{word_of, pick}
use Rattle.words.specs.declared.Word.{Word}
use Rattle.readers.specs.Cursor.{item_at, left_at, after}
use Rattle.std.specs.Prelude.{Option, Some, None}

-- a word that is read before others; none at the end
abbrev pub seen : Option Word → List Word → List Word
seen (Some v) vs = v ∷ vs
seen None vs = []

module _ (ws : List ℕ) (at : ℕ) where
  pub item_here : at < length ws → item_at ws at ≡ Some (word_of (get_or ws at 0))
  item_here h = ap (λ b. pick b (Some (word_of (get_or ws at 0))) None) (lt-ltb at (length ws) h)

  pub item_end : length ws ≤ at → item_at ws at ≡ None
  item_end h = ap (λ b. pick b (Some (word_of (get_or ws at 0))) None) (le-ltb at (length ws) h)

  pub after_within : (n : ℕ) → n < left_at ws at → after ws at n ≡ at + n
  after_within n h = ap (λ b. pick b (at + n) (length ws)) (lt-ltb n (left_at ws at) h)

  pub after_end : (n : ℕ) → left_at ws at ≤ n → after ws at n ≡ length ws
  after_end n h = ap (λ b. pick b (at + n) (length ws)) (le-ltb n (left_at ws at) h)

  -- moving on by n leaves n fewer
  pub left_after : (n : ℕ) → left_at ws (after ws at n) ≡ left_at ws at - n
  left_after n = ⊎_elim
      (λ (h : n < left_at ws at). ap (left_at ws) (after_within n h) ∙ omega arith)
      (λ (h : left_at ws at ≤ n). ap (left_at ws) (after_end n h) ∙ omega arith)
      (lt_or_le n (left_at ws at))

  -- one word on from a word is the next position
  after_one : at < length ws → after ws at 1 ≡ suc at
  after_one h = ⊎_elim
      (λ (l : 1 < left_at ws at). after_within 1 l ∙ add-one at)
      (λ (l : left_at ws at ≤ 1). after_end 1 l ∙ omega arith)
      (lt_or_le 1 (left_at ws at))

  -- the words from a position on are the one that stands there and those one word on; at the end there are none
  pub reads_on : map word_of (drop at ws) ≡ seen (item_at ws at) (map word_of (drop (after ws at 1) ws))
  reads_on = ⊎_elim here past (lt_or_le at (length ws))
    where
      rest : List Word
      rest = map word_of (drop (after ws at 1) ws)

      here : at < length ws → map word_of (drop at ws) ≡ seen (item_at ws at) rest
      here h =
          ap (map word_of) (drop-cons ws at 0 h) ∙ ap (λ k. word_of (get_or ws at 0) ∷ map word_of (drop k ws)) (sym (after_one h))
          ∙ ap (λ t. seen t rest) (sym (item_here h))

      past : length ws ≤ at → map word_of (drop at ws) ≡ seen (item_at ws at) rest
      past h = ap (map word_of) (drop_of_length-le ws h) ∙ ap (λ t. seen t rest) (sym (item_end h))

-- moving on twice is moving on once
pub after_after : (ws : List ℕ) (at m n : ℕ) → after ws (after ws at m) n ≡ after ws at (m + n)
after_after ws at m n = ⊎_elim here past (lt_or_le m (left_at ws at))
  where
    on : m < left_at ws at → (n < left_at ws (at + m)) ⊎ (left_at ws (at + m) ≤ n) → after ws (at + m) n ≡ after ws at (m + n)
    on h (inl l) = after_within ws (at + m) n l ∙ add_assoc at m n ∙ sym (after_within ws at (m + n) (omega arith))
    on h (inr l) = after_end ws (at + m) n l ∙ sym (after_end ws at (m + n) (omega arith))

    here : m < left_at ws at → after ws (after ws at m) n ≡ after ws at (m + n)
    here h = ap (λ k. after ws k n) (after_within ws at m h) ∙ on h (lt_or_le n (left_at ws (at + m)))

    past : left_at ws at ≤ m → after ws (after ws at m) n ≡ after ws at (m + n)
    past h = ap (λ k. after ws k n) (after_end ws at m h) ∙ after_end ws (length ws) n (omega arith) ∙ sym (after_end ws at (m + n) (omega arith))

-- from the first word, n words on is position n, or the end where there is no such position
pub from_start_lem : (ws : List ℕ) (n : ℕ) → item_at ws (after ws 0 n) ≡ item_at ws n
from_start_lem ws n = ⊎_elim
    (λ (h : n < length ws). let e : 0 + n ≡ n = omega arith in ap (item_at ws) (after_within ws 0 n (omega arith) ∙ e))
    (λ (h : length ws ≤ n). ap (item_at ws) (after_end ws 0 n (omega arith)) ∙ item_end ws (length ws) (omega arith) ∙ sym (item_end ws n h))
    (lt_or_le n (length ws))
