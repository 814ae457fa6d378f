-- Reading a byte at a time: a bad line stays bad, and a byte that cannot come next spoils; a digit, and a line feed after eight digits, go on.
use mathlib.Core.Path.{◌≡◌, refl, sym, ap, ap₂, subst, ◌∙◌}
use mathlib.Core.Bool.{Bool, true, false, not, cond}
use mathlib.Core.Logic.{⊎_elim}
use mathlib.Core.List.{List, [], ◌∷◌, ◌++◌, append_assoc, append-nil}
use Prim.Native.Nat.{ℕ, ◌+◌, ◌*◌, ◌%◌, ◌^◌, ◌≤◌, ◌<◌, min}
use native.Mathlib.Nat.{pow-le-pow_right, pow-suc}
use native.Mathlib.Numerals.{add-one}
use native.Mathlib.Omega.{arith}
use lib.Dec.{T, ltb, lt→ltb, ltb→lt, nltb→le}
use lib.ListN.{length, take, drop, length-append}
use lib.Seq.{take_all, take-append-le}
use Rattle.plane.specs.Lists.{all}
use Rattle.plane.proofs.Tests.{T_and, T_dec}
use Rattle.planning.specs.Printer.{digit, word_lines, Reads}
use Rattle.text.specs.Reader.{lowest, Begun, Held, Further, Updated}
use Rattle.text.specs.declared.Reading.{Reading}
use Rattle.text.proofs.Lines.{Next, lowest_more, line_lowest, lines_append, lines_one, lines_rest, next_byte, no_line}

-- bad and good at once
both : {A : Type 0} (b : Bool) → b ≡ true → b ≡ false → A
both b p q = absurd (let z : ◌≡◌ {A = ℕ} 1 0 = ap (λ c. cond c 1 0) (sym p ∙ q) in omega arith)

-- ---- the ends of reading

pub held_nothing : (s : Reading) → s.bad ≡ false → s.count ≡ 0 → s.digits ≡ 0 → s.value ≡ 0 → Held [] s
unfolding word_lines lowest
held_nothing s b n d v = record {
  bad = λ e. both s.bad e b;
  good = λ _. record {
    lines = [];
    fit = tt;
    text = ap (λ k. lowest k s.value) (sym d);
    few = omega arith;
    small = let p : 0 < 16 ^ 0 = omega arith in subst (λ k. s.value < 16 ^ k) (sym d) (omega arith);
    count = n;
    kept = ap (λ k. take k s.words) n;
  };
}

module _ (seen : List ℕ) (s : Reading) (H : Held seen s) where
  -- some line is bad
  pub bad_unread : s.bad ≡ true → (ws : List ℕ) → ¬ Reads seen ws
  bad_unread e ws R = H.bad e [] ws (subst (λ l. Reads l ws) (sym (append-nil seen)) R)

  -- the last line has no line feed
  pub begun_unread : s.bad ≡ false → ¬ (s.digits ≡ 0) → (ws : List ℕ) → ¬ Reads seen ws
  begun_unread e n ws R =
      let B = H.good e in
      let f = lines_rest B.lines (lowest s.digits s.value) ws (sym B.text ∙ R.lines) in
      n (no_line s.digits s.value (drop (length B.lines) ws) B.few f)

  -- all is read, and the words are kept to the eighteenth
  pub all_read : (e : s.bad ≡ false) → s.digits ≡ 0 → Reads seen (H.good e).lines
  unfolding lowest
  all_read e z =
      let B = H.good e in
      record {
        words = B.fit;
        lines = B.text ∙ ap (λ k. word_lines B.lines ++ lowest k s.value) z ∙ append-nil (word_lines B.lines);
      }

-- ---- more bytes

pub further_then : (s t r : Reading) (xs ys : List ℕ) → Further s xs t → Further t ys r → Further s (xs ++ ys) r
further_then s t r xs ys F G = record { held = λ seen H. subst (λ l. Held l r) (append_assoc seen xs ys) (G.held (seen ++ xs) (F.held seen H)) }

-- what has been bad stays bad
pub stays_bad : (s r : Reading) (more : List ℕ) → s.bad ≡ true → r.bad ≡ true → Further s more r
stays_bad s r more e f = record {
  held = λ seen H. record {
    bad = λ _ rest ws R. H.bad e (more ++ rest) ws (subst (λ l. Reads l ws) (append_assoc seen more rest) R);
    good = λ g. both r.bad f g;
  };
}

-- what was bad stays bad, so that only a reading that is not bad counts
pub carries : (s r : Reading) (more : List ℕ) → r.bad ≡ s.bad → (s.bad ≡ false → Further s more r) → Further s more r
carries s r more e good = go s.bad refl
  where
    go : (b : Bool) → s.bad ≡ b → Further s more r
    go true f = stays_bad s r more f (e ∙ f)
    go false f = good f

-- a byte that cannot come next makes the line bad
pub spoils : (s r : Reading) (b : ℕ) → r.bad ≡ true → (s.digits ≤ 8 → ¬ Next s.digits b) → Further s (b ∷ []) r
spoils s r b f wrong = go s.bad refl
  where
    next : (seen : List ℕ) (B : Begun seen s) (rest ws : List ℕ) → Reads ((seen ++ b ∷ []) ++ rest) ws → Next s.digits b
    next seen B rest ws R =
        let ls = word_lines B.lines in
        let ds = lowest s.digits s.value in
        let e1 : (seen ++ b ∷ []) ++ rest ≡ ls ++ (ds ++ b ∷ rest) =
        append_assoc seen (b ∷ []) rest ∙ ap (λ l. l ++ b ∷ rest) B.text ∙ append_assoc ls ds (b ∷ rest) in
        next_byte s.digits s.value b rest (drop (length B.lines) ws) B.few (lines_rest B.lines (ds ++ b ∷ rest) ws (sym e1 ∙ R.lines))

    go : (c : Bool) → s.bad ≡ c → Further s (b ∷ []) r
    go true e = stays_bad s r (b ∷ []) e f
    go false e = record {
      held = λ seen H. record { bad = λ _ rest ws R. let B = H.good e in wrong B.few (next seen B rest ws R); good = λ g. both r.bad f g };
    }

-- a byte that is neither a digit nor a line feed comes next nowhere
pub no_next : (k b : ℕ) → ¬ (b ≡ 10) → ((n : ℕ) → n < 16 → ¬ (b ≡ digit n)) → k ≤ 8 → ¬ Next k b
no_next k b feed none h next =
    ⊎_elim (λ t. let d = next.0 (ltb→lt k 8 t) in none d.0 d.1.0 d.1.1) (λ t. feed (next.1 (let l = nltb→le k 8 t in omega arith)))
    (T_dec (ltb k 8))

-- ---- a digit

-- the value of fewer than eight digits is below 2 ^ 28
small_value : (k v : ℕ) → k ≤ 7 → v < 16 ^ k → v % 268435456 ≡ v
small_value k v h l = let p : 16 ^ k ≤ 16 ^ 7 = pow-le-pow_right (omega arith) h in let q : 16 ^ 7 ≡ 268435456 = refl in omega arith

pub goes_on : (s r : Reading) (b d : ℕ) → r.bad ≡ s.bad → s.digits ≤ 7 → d < 16 → b ≡ digit d
    → r.count ≡ s.count → r.words ≡ s.words → r.digits ≡ s.digits + 1 → r.value ≡ s.value % 268435456 * 16 + d → Further s (b ∷ []) r
goes_on s r b d f h l is ec ew ed ev =
    carries s r (b ∷ []) f (λ e. record { held = λ seen H. record { bad = λ g. both r.bad g (f ∙ e); good = λ _. more seen (H.good e) } })
  where
    more : (seen : List ℕ) → Begun seen s → Begun (seen ++ b ∷ []) r
    more seen B =
        let k = s.digits in
        let v = s.value in
        let ls = word_lines B.lines in
        let value : r.value ≡ v * 16 + d = ev ∙ ap (λ n. n * 16 + d) (small_value k v h B.small) in
        let digits : lowest r.digits r.value ≡ lowest k v ++ digit d ∷ [] = ap₂ lowest ed value ∙ lowest_more k v d l in
        let p : 16 ^ (k + 1) ≡ 16 ^ k * 16 = ap (λ n. 16 ^ n) (add-one k) ∙ pow-suc 16 k in
        let small = B.small in
        record {
          lines = B.lines;
          fit = B.fit;
          text = ap₂ (λ l c. l ++ c ∷ []) B.text is ∙ append_assoc ls (lowest k v) (digit d ∷ []) ∙ ap (λ l. ls ++ l) (sym digits);
          few = omega arith;
          small = let q : v * 16 + d < 16 ^ (k + 1) = omega arith in subst (λ n. r.value < 16 ^ n) (sym ed) (subst (λ n. n < 16 ^ (k + 1)) (sym value) q);
          count = ec ∙ B.count;
          kept = ap₂ take ec ew ∙ B.kept;
        }

-- ---- the end of a line

all_more : (ws : List ℕ) (w : ℕ) → T (all (λ v. ltb v (2 ^ 32)) ws) → w < 2 ^ 32 → T (all (λ v. ltb v (2 ^ 32)) (ws ++ w ∷ []))
all_more [] w t h = (T_and (ltb w (2 ^ 32)) true).1 (lt→ltb w (2 ^ 32) h, tt)
all_more (v ∷ ws) w t h =
    let p = (T_and (ltb v (2 ^ 32)) (all (λ u. ltb u (2 ^ 32)) ws)).0 t in
    (T_and (ltb v (2 ^ 32)) (all (λ u. ltb u (2 ^ 32)) (ws ++ w ∷ []))).1 (p.0, all_more ws w p.1 h)

-- the words kept of a list with one more, where there is room for it and where there is none
kept_more : (ls : List ℕ) (v : ℕ) → length ls < 18 → take 18 (ls ++ v ∷ []) ≡ take 18 ls ++ v ∷ []
kept_more ls v h =
    let n = length-append ls (v ∷ []) in
    take_all 18 (ls ++ v ∷ []) (omega arith) ∙ ap (λ l. l ++ v ∷ []) (sym (take_all 18 ls (omega arith)))

kept_next : (ls ws : List ℕ) (n v : ℕ) (r : List ℕ) → n ≡ min 18 (length ls) → take n ws ≡ take 18 ls → Updated ws n v r
    → take (min 18 (n + 1)) r ≡ take 18 (ls ++ v ∷ [])
kept_next ls ws n v r c k K = ⊎_elim room full (T_dec (ltb n 18))
  where
    room : T (ltb n 18) → take (min 18 (n + 1)) r ≡ take 18 (ls ++ v ∷ [])
    room t =
        let h = ltb→lt n 18 t in
        let m : min 18 (n + 1) ≡ n + 1 = omega arith in
        ap (λ i. take i r) m ∙ K.put h ∙ ap (λ l. l ++ v ∷ []) k ∙ sym (kept_more ls v (omega arith))

    full : T (not (ltb n 18)) → take (min 18 (n + 1)) r ≡ take 18 (ls ++ v ∷ [])
    full t =
        let h = nltb→le n 18 t in
        let m : min 18 (n + 1) ≡ n = omega arith in
        ap₂ take m (K.full h) ∙ k ∙ sym (take-append-le 18 ls (v ∷ []) (omega arith))

-- after eight digits the word is read, and kept if it is one of the first 18
pub ends_line : (s r : Reading) → r.bad ≡ s.bad → s.digits ≡ 8 → r.digits ≡ 0 → r.value ≡ 0 → r.count ≡ min 18 (s.count + 1)
    → Updated s.words s.count s.value r.words → Further s (10 ∷ []) r
unfolding lowest
ends_line s r f h ed ev ec K =
    carries s r (10 ∷ []) f (λ e. record { held = λ seen H. record { bad = λ g. both r.bad g (f ∙ e); good = λ _. ended seen (H.good e) } })
  where
    ended : (seen : List ℕ) → Begun seen s → Begun (seen ++ 10 ∷ []) r
    ended seen B =
        let v = s.value in
        let ls = word_lines B.lines in
        let all = B.lines ++ v ∷ [] in
        let c = B.count in
        let n = length-append B.lines (v ∷ []) in
        let top : v < 2 ^ 32 = subst (λ k. v < 16 ^ k) h B.small in
        let line : lowest s.digits v ++ 10 ∷ [] ≡ word_lines (v ∷ []) = ap (λ k. lowest k v ++ 10 ∷ []) h ∙ sym (line_lowest v) ∙ sym (lines_one v) in
        let lines : seen ++ 10 ∷ [] ≡ word_lines all =
        ap (λ l. l ++ 10 ∷ []) B.text ∙ append_assoc ls (lowest s.digits v) (10 ∷ []) ∙ ap (λ l. ls ++ l) line ∙ sym (lines_append B.lines (v ∷ [])) in
        record {
          lines = all;
          fit = all_more B.lines v B.fit top;
          text = lines ∙ sym (append-nil (word_lines all)) ∙ ap (λ k. word_lines all ++ lowest k r.value) (sym ed);
          few = omega arith;
          small = let z : 0 < 16 ^ 0 = omega arith in subst (λ k. r.value < 16 ^ k) (sym ed) (omega arith);
          count = omega arith;
          kept = ap (λ k. take k r.words) ec ∙ kept_next B.lines s.words s.count v r.words c B.kept K;
        }
