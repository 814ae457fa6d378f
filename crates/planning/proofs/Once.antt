-- No input is read in two ways: what is printed for it is one plan or one refusal, so the program's promise can be kept.
use mathlib.Core.Path.{◌≡◌, refl, sym, ◌∙◌, ap, ap₂}
use mathlib.Core.Bool.{not}
use mathlib.Core.Logic.{◌⊎◌, inl, inr}
use mathlib.Core.List.{List, [], ◌∷◌}
use Prim.Native.Nat.{ℕ, ◌+◌, ◌*◌, ◌/◌, ◌%◌, ◌^◌, ◌<◌}
use native.Mathlib.Nat.{div-div-eq-div-mul}
use native.Mathlib.Omega.{arith}
use lib.Dec.{T, ltb, ltb→lt, nltb→le}
use lib.ListN.{get_or, drop}
use Rattle.plane.specs.Lists.{all}
use Rattle.plane.proofs.Tests.{T_and, cond_ind}
use Rattle.planning.specs.Printer.{digit, word_line, word_lines, Reads}

-- the two kinds of digits
pub digit_is : (n : ℕ) → ((n < 10) × (digit n ≡ 48 + n)) ⊎ ((9 < n) × (digit n ≡ 87 + n))
digit_is n = cond_ind (ltb n 10) (48 + n) (87 + n) (λ d. ((n < 10) × (d ≡ 48 + n)) ⊎ ((9 < n) × (d ≡ 87 + n))) (λ t. inl (ltb→lt n 10 t, refl)) high
  where
    high : T (not (ltb n 10)) → ((n < 10) × (87 + n ≡ 48 + n)) ⊎ ((9 < n) × (87 + n ≡ 87 + n))
    high t = let l = nltb→le n 10 t in inr (omega arith, refl)

digit_once : (m n : ℕ) → m < 16 → n < 16 → digit m ≡ digit n → m ≡ n
digit_once m n a b e = go (digit_is m) (digit_is n)
  where
    go : ((m < 10) × (digit m ≡ 48 + m)) ⊎ ((9 < m) × (digit m ≡ 87 + m)) → ((n < 10) × (digit n ≡ 48 + n)) ⊎ ((9 < n) × (digit n ≡ 87 + n)) → m ≡ n
    go (inl p) (inl q) = let z = sym p.1 ∙ e ∙ q.1 in omega arith
    go (inl p) (inr q) = let z = sym p.1 ∙ e ∙ q.1 in let l = p.0 in let k = q.0 in omega arith
    go (inr p) (inl q) = let z = sym p.1 ∙ e ∙ q.1 in let l = p.0 in let k = q.0 in omega arith
    go (inr p) (inr q) = let z = sym p.1 ∙ e ∙ q.1 in omega arith

-- digits that are the same stand for the same number
nibble : (w v : ℕ) → digit (w % 16) ≡ digit (v % 16) → w % 16 ≡ v % 16
nibble w v e = digit_once (w % 16) (v % 16) (omega arith) (omega arith) e

-- one digit lower: what stands above it is the same, and so is the digit
lower : (a b : ℕ) → a / 16 ≡ b / 16 → a % 16 ≡ b % 16 → a ≡ b
lower a b p q = omega arith

down : (d w v : ℕ) → w / (d * 16) ≡ v / (d * 16) → w / d % 16 ≡ v / d % 16 → w / d ≡ v / d
down d w v p q = lower (w / d) (v / d) (div-div-eq-div-mul w d 16 ∙ p ∙ sym (div-div-eq-div-mul v d 16)) q

-- nothing stands above the highest digit of a word
top : (w v : ℕ) → w < 4294967296 → v < 4294967296 → w / 268435456 % 16 ≡ v / 268435456 % 16 → w / 268435456 ≡ v / 268435456
top w v h k q = omega arith

-- lists of words with the same lines are the same
lines_once : (ws vs : List ℕ) → T (all (λ w. ltb w (2 ^ 32)) ws) → T (all (λ w. ltb w (2 ^ 32)) vs) → word_lines ws ≡ word_lines vs → ws ≡ vs
unfolding word_lines word_line
lines_once [] [] a b e = refl
lines_once [] (v ∷ vs) a b e = absurd (let z : ◌≡◌ {A = ℕ} 0 10 = ap (λ l. get_or l 8 0) e in omega arith)
lines_once (w ∷ ws) [] a b e = absurd (let z : ◌≡◌ {A = ℕ} 10 0 = ap (λ l. get_or l 8 0) e in omega arith)
lines_once (w ∷ ws) (v ∷ vs) a b e =
    let s = (T_and (ltb w (2 ^ 32)) (all (λ u. ltb u (2 ^ 32)) ws)).0 a in
    let t = (T_and (ltb v (2 ^ 32)) (all (λ u. ltb u (2 ^ 32)) vs)).0 b in
    ap₂ ◌∷◌ (same (ltb→lt w (2 ^ 32) s.0) (ltb→lt v (2 ^ 32) t.0)) (lines_once ws vs s.1 t.1 (ap (drop 9) e))
  where
    same : w < 4294967296 → v < 4294967296 → w ≡ v
    same h k =
        let at : (i : ℕ) → get_or (word_lines (w ∷ ws)) i 0 ≡ get_or (word_lines (v ∷ vs)) i 0 = λ i. ap (λ l. get_or l i 0) e in
        let e0 = top w v h k (nibble (w / 2 ^ 28) (v / 2 ^ 28) (at 0)) in
        let e1 = down (2 ^ 24) w v e0 (nibble (w / 2 ^ 24) (v / 2 ^ 24) (at 1)) in
        let e2 = down (2 ^ 20) w v e1 (nibble (w / 2 ^ 20) (v / 2 ^ 20) (at 2)) in
        let e3 = down (2 ^ 16) w v e2 (nibble (w / 2 ^ 16) (v / 2 ^ 16) (at 3)) in
        let e4 = down (2 ^ 12) w v e3 (nibble (w / 2 ^ 12) (v / 2 ^ 12) (at 4)) in
        let e5 = down (2 ^ 8) w v e4 (nibble (w / 2 ^ 8) (v / 2 ^ 8) (at 5)) in
        let e6 = down (2 ^ 4) w v e5 (nibble (w / 2 ^ 4) (v / 2 ^ 4) (at 6)) in
        lower w v e6 (nibble w v (at 7))

pub reads_once : (input ws vs : List ℕ) → Reads input ws → Reads input vs → ws ≡ vs
reads_once input ws vs r s = lines_once ws vs r.words s.words (sym r.lines ∙ s.lines)
