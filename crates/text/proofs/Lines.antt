-- Lines of words: a line is eight digits and a line feed, what follows lines in lines are lines, and so it is known which byte may come next.
use mathlib.Core.Path.{◌≡◌, refl, sym, ap, ◌∙◌}
use mathlib.Core.Logic.{◌⊎◌, inl, inr, ⊎_elim}
use mathlib.Core.List.{List, [], ◌∷◌, ◌++◌, append_assoc, append-nil}
use Prim.Native.Nat.{ℕ, zero, suc, ◌+◌, ◌*◌, ◌/◌, ◌%◌, ◌≤◌, ◌<◌}
use native.Mathlib.Nat.{div-div-eq-div-mul}
use native.Mathlib.Numerals.{add-one}
use native.Mathlib.Omega.{arith}
use lib.ListN.{length, get_or, drop, length-append, get_or-append}
use lib.Seq.{get_or_at}
use Rattle.planning.specs.Printer.{digit, word_line, word_lines}
use Rattle.planning.proofs.Once.{digit_is}
use Rattle.text.specs.Reader.{lowest, DigitOf}
use Rattle.std.specs.Prelude.{None}

-- ---- digits

-- b is a digit
abbrev pub IsDigit : ℕ → Type 0
IsDigit b = (n : ℕ) × ((n < 16) × (b ≡ digit n))

-- a digit is no line feed
pub digit_no_feed : (n : ℕ) → ¬ (10 ≡ digit n)
digit_no_feed n e = ⊎_elim (λ p. let f = p.1 in omega arith) (λ p. let f = p.1 in omega arith) (digit_is n)

-- a byte that is no digit
pub digit_none : (b : ℕ) → ((n : ℕ) → n < 10 → b ≡ 48 + n → ⊥) → ((n : ℕ) → 9 < n → n < 16 → b ≡ 87 + n → ⊥) → DigitOf b None
digit_none b low high n h e = ⊎_elim (λ p. low n p.0 (e ∙ p.1)) (λ p. high n p.0 h (e ∙ p.1)) (digit_is n)

pub digit_low : (n : ℕ) → n < 10 → digit n ≡ 48 + n
digit_low n h = ⊎_elim (λ p. p.1) (λ p. absurd (let l = p.0 in omega arith)) (digit_is n)

pub digit_high : (n : ℕ) → 9 < n → digit n ≡ 87 + n
digit_high n h = ⊎_elim (λ p. absurd (let l = p.0 in omega arith)) (λ p. p.1) (digit_is n)

pub lowest_length : (k v : ℕ) → length (lowest k v) ≡ k
unfolding lowest
lowest_length zero v = refl
lowest_length (suc k) v = length-append (lowest k (v / 16)) (digit (v % 16) ∷ []) ∙ ap (λ n. n + 1) (lowest_length k (v / 16)) ∙ add-one k

-- one digit more
pub lowest_more : (k v d : ℕ) → d < 16 → lowest (k + 1) (v * 16 + d) ≡ lowest k v ++ digit d ∷ []
unfolding lowest
lowest_more k v d h =
    let q : (v * 16 + d) / 16 ≡ v = omega arith in
    let r : (v * 16 + d) % 16 ≡ d = omega arith in
    ap (λ n. lowest n (v * 16 + d)) (add-one k) ∙ ap (λ n. lowest k n ++ digit ((v * 16 + d) % 16) ∷ []) q ∙ ap (λ n. lowest k v ++ digit n ∷ []) r

pub lowest_digit : (k v i : ℕ) → i < k → IsDigit (get_or (lowest k v) i 0)
unfolding lowest
lowest_digit zero v i h = absurd (omega arith)
lowest_digit (suc k) v i h = ⊎_elim (λ l. before l (lowest_digit k (v / 16) i l)) last (split i k h)
  where
    split : (i k : ℕ) → i < suc k → (i < k) ⊎ (k ≡ i)
    split zero zero h = inr refl
    split zero (suc k) h = inl (omega arith)
    split (suc i) zero h = absurd (omega arith)
    split (suc i) (suc k) h = ⊎_elim (λ l. inl (omega arith)) (λ e. inr (ap suc e)) (split i k (omega arith))

    before : i < k → IsDigit (get_or (lowest k (v / 16)) i 0) → IsDigit (get_or (lowest k (v / 16) ++ digit (v % 16) ∷ []) i 0)
    before l b =
        let s = lowest_length k (v / 16) in
        (b.0, (b.1.0, get_or-append (lowest k (v / 16)) (digit (v % 16) ∷ []) 0 i (omega arith) ∙ b.1.1))

    last : k ≡ i → IsDigit (get_or (lowest k (v / 16) ++ digit (v % 16) ∷ []) i 0)
    last e = (v % 16, (omega arith, get_or_at (lowest k (v / 16)) (digit (v % 16)) [] 0 i (lowest_length k (v / 16) ∙ e)))

-- ---- lines

-- a line is eight digits and a line feed
pub line_lowest : (w : ℕ) → word_line w ≡ lowest 8 w ++ 10 ∷ []
unfolding word_line lowest
line_lowest w =
    let e1 : w / 16 / 16 ≡ w / 256 = div-div-eq-div-mul w 16 16 in
    let e2 : w / 16 / 16 / 16 ≡ w / 4096 = ap (λ n. n / 16) e1 ∙ div-div-eq-div-mul w 256 16 in
    let e3 : w / 16 / 16 / 16 / 16 ≡ w / 65536 = ap (λ n. n / 16) e2 ∙ div-div-eq-div-mul w 4096 16 in
    let e4 : w / 16 / 16 / 16 / 16 / 16 ≡ w / 1048576 = ap (λ n. n / 16) e3 ∙ div-div-eq-div-mul w 65536 16 in
    let e5 : w / 16 / 16 / 16 / 16 / 16 / 16 ≡ w / 16777216 = ap (λ n. n / 16) e4 ∙ div-div-eq-div-mul w 1048576 16 in
    let e6 : w / 16 / 16 / 16 / 16 / 16 / 16 / 16 ≡ w / 268435456 = ap (λ n. n / 16) e5 ∙ div-div-eq-div-mul w 16777216 16 in
    cc

pub line_length : (w : ℕ) → length (word_line w) ≡ 9
unfolding word_line
line_length w = refl

pub lines_append : (ws vs : List ℕ) → word_lines (ws ++ vs) ≡ word_lines ws ++ word_lines vs
unfolding word_lines
lines_append [] vs = refl
lines_append (w ∷ ws) vs = ap (λ l. word_line w ++ l) (lines_append ws vs) ∙ sym (append_assoc (word_line w) (word_lines ws) (word_lines vs))

pub lines_one : (w : ℕ) → word_lines (w ∷ []) ≡ word_line w
unfolding word_lines
lines_one w = append-nil (word_line w)

pub lines_length : (ws : List ℕ) → length (word_lines ws) ≡ 9 * length ws
unfolding word_lines
lines_length [] = refl
lines_length (w ∷ ws) = let e = lines_length ws in let l = line_length w in omega (arith, length-append (word_line w) (word_lines ws))

-- what follows lines in lines are lines
pub lines_rest : (ws t vs : List ℕ) → word_lines ws ++ t ≡ word_lines vs → t ≡ word_lines (drop (length ws) vs)
unfolding word_lines word_line
lines_rest [] t vs e = e
lines_rest (w ∷ ws) t [] e = absurd (let z : ◌≡◌ {A = ℕ} 10 0 = ap (λ l. get_or l 8 0) e in omega arith)
lines_rest (w ∷ ws) t (v ∷ vs) e = lines_rest ws t vs (ap (drop 9) e)

-- the byte b that follows k digits in lines is a digit, or a line feed where k is 8
abbrev pub Next : ℕ → ℕ → Type 0
Next k b = (k < 8 → IsDigit b) × (k ≡ 8 → b ≡ 10)

pub next_byte : (k v b : ℕ) (rest vs : List ℕ) → k ≤ 8 → lowest k v ++ b ∷ rest ≡ word_lines vs → Next k b
unfolding word_lines
next_byte k v b rest [] h e = absurd (let n : length (lowest k v ++ b ∷ rest) ≡ 0 = ap length e in omega (arith, length-append (lowest k v) (b ∷ rest)))
next_byte k v b rest (w ∷ ws) h e =
    let s = line_length w in
    let here : b ≡ get_or (word_line w) k 0 =
    sym (get_or_at (lowest k v) b rest 0 k (lowest_length k v)) ∙ ap (λ l. get_or l k 0) e ∙ get_or-append (word_line w) (word_lines ws) 0 k (omega arith) in
    let at = here ∙ ap (λ l. get_or l k 0) (line_lowest w) in
    let eight = lowest_length 8 w in (
      λ l. let d = lowest_digit 8 w k l in (d.0, (d.1.0, at ∙ get_or-append (lowest 8 w) (10 ∷ []) 0 k (omega arith) ∙ d.1.1)),
      λ l. at ∙ get_or_at (lowest 8 w) 10 [] 0 k (eight ∙ sym l),
    )

-- no digits of a line begun are lines
pub no_line : (k v : ℕ) (vs : List ℕ) → k ≤ 8 → lowest k v ≡ word_lines vs → k ≡ 0
no_line k v vs h e = let l = lowest_length k v in let n = lines_length vs in let f = ap length e in go (length vs) (omega arith)
  where
    go : (m : ℕ) → k ≡ 9 * m → k ≡ 0
    go m z = omega arith
