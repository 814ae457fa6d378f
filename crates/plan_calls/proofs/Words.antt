-- The words of a plan, a word at a time: head, place, and the stages from the array's end to its start.
use mathlib.Core.Path.{◌≡◌, refl, sym, ap, ap₂, subst, ◌∙◌}
use mathlib.Core.List.{List, [], ◌∷◌, ◌++◌, map, map-append}
use Prim.Native.Nat.{ℕ, zero, suc, ◌+◌, ◌-◌, ◌≤◌, ◌<◌}
use native.Mathlib.Omega.{arith}
use native.Mathlib.Numerals.{add-one}
use lib.ListN.{length, get_or, drop, take, set, length-set, length-map, length-take}
use lib.Seq.{take-suc, take-length, drop-set-lt}
use Rattle.words.specs.Word.{head_word, place_word, stage_word}
use Rattle.lists.proofs.Written.{Written, written_more}
use Rattle.rows.specs.Cells.{chosen}
use Rattle.rows.proofs.Chosen.{length_chosen}
use Rattle.plan_calls.specs.Written.{words_of, WrittenPlan}

-- stage i of n is at n − 1 − i
pub chosen_at : (masks : List ℕ) (n i : ℕ) → i < n → get_or (chosen masks n) i 0 ≡ get_or masks (n - 1 - i) 0
unfolding chosen
chosen_at masks zero i h = absurd (omega arith)
chosen_at masks (suc n) zero h = ap (λ k. get_or masks k 0) (omega arith)
chosen_at masks (suc n) (suc i) h = chosen_at masks n i (omega arith) ∙ ap (λ k. get_or masks k 0) (omega arith)

module _ (x y : ℕ) (masks : List ℕ) (n : ℕ) where
  -- the stages
  abbrev L : List ℕ
  L = chosen masks n

  -- the head, the place and the first i stages
  abbrev words_to : ℕ → List ℕ
  words_to i = head_word n ∷ place_word x y ∷ map stage_word (take i L)

  -- what out holds then
  abbrev pub WrittenTo : List ℕ → ℕ → List ℕ → Type 0
  WrittenTo out i now = Written (words_to i) out (i + 2) now

  head_place : (out : List ℕ) (v w : ℕ) → 2 ≤ length out → v ≡ head_word n → w ≡ place_word x y → WrittenTo (set (set out 0 v) 1 w) 0 (set (set out 0 v) 1 w)
  head_place [] v w h e f = absurd (omega arith)
  head_place (a ∷ []) v w h e f = absurd (let l : 2 ≤ 1 = h in omega arith)
  head_place (a ∷ b ∷ out) v w h e f = record { count = refl; words = ap₂ (λ c d. c ∷ d ∷ out) e f }

  -- there is room after the first word, and when both are written the loop can start
  pub still_room : (out : List ℕ) (v : ℕ) → 32 ≤ length out → 1 < length (set out 0 v)
  still_room out v h = let l = length-set out 0 v in omega arith

  pub kept_length : (out now : List ℕ) (v w : ℕ) → length now ≡ length (set (set out 0 v) 1 w) → length now ≡ length out
  kept_length out now v w e = e ∙ length-set (set out 0 v) 1 w ∙ length-set out 0 v

  pub started : (out : List ℕ) (v w : ℕ) → 32 ≤ length out → n ≤ 30 → v ≡ head_word n → w ≡ place_word x y
      → (0 ≤ n) × ((n ≤ 30) × (32 ≤ length (set (set out 0 v) 1 w)))
      × ((length (set (set out 0 v) 1 w) ≡ length (set (set out 0 v) 1 w)) × WrittenTo (set (set out 0 v) 1 w) 0 (set (set out 0 v) 1 w))
  started out v w h k e f =
      let l = length-set (set out 0 v) 1 w ∙ length-set out 0 v in
      (omega arith, (k, omega (arith, l)), (refl, head_place out v w (omega arith) e f))

  to_length : (i : ℕ) → i ≤ n → length (words_to i) ≡ i + 2
  to_length i h =
      let e = length-map (take i L) stage_word in
      let k = length-take i L in
      let m = length_chosen masks n in
      omega arith

  pub stage_more : (out now : List ℕ) (i v : ℕ) → i < n → n + 2 ≤ length out → v ≡ stage_word (get_or masks (n - 1 - i) 0) → WrittenTo out i now
      → WrittenTo out (i + 1) (set now (i + 2) v)
  stage_more out now i v h r e p =
      let m = length_chosen masks n in
      let s : take (i + 1) L ≡ take i L ++ get_or L i 0 ∷ [] = ap (λ k. take k L) (add-one i) ∙ take-suc L i 0 (omega arith) in
      let q : words_to (i + 1) ≡ words_to i ++ v ∷ [] =
      ap (λ l. head_word n ∷ place_word x y ∷ l)
      (ap (map stage_word) s ∙ map-append stage_word (take i L) (get_or L i 0 ∷ [])
      ∙ ap (λ w. map stage_word (take i L) ++ w ∷ []) (ap stage_word (chosen_at masks n i h) ∙ sym e)) in
      let l = to_length i (omega arith) in
      let w = written_more (words_to i) out now (i + 2) v (omega arith) p in
      let d : i + 2 + 1 ≡ i + 1 + 2 = omega arith in
      subst (λ k. Written (words_to (i + 1)) out k (set now (i + 2) v)) d (subst (λ l. Written l out (i + 2 + 1) (set now (i + 2) v)) (sym q) w)

  -- past the list the words are those at entry
  pub all_written : (out now : List ℕ) (v w i r : ℕ) → i ≡ n → r ≡ n + 2 → WrittenTo (set (set out 0 v) 1 w) i now → WrittenPlan x y L out r now
  all_written out now v w i r d e p₀ =
      let p = subst (λ k. WrittenTo (set (set out 0 v) 1 w) k now) d p₀ in
      let m = length_chosen masks n in
      let t : take n L ≡ L = ap (λ k. take k L) (sym m) ∙ take-length L in
      let q : words_to n ≡ words_of x y L = ap₂ (λ k l. head_word k ∷ place_word x y ∷ map stage_word l) (sym m) t in
      let l = to_length n (omega arith) in
      let past : drop (n + 2) (set (set out 0 v) 1 w) ≡ drop (n + 2) out = drop-set-lt (n + 2) (set out 0 v) 1 w (omega arith)
      ∙ drop-set-lt (n + 2) out 0 v (omega arith) in
      record {
        count = omega arith;
        words =
            p.words ∙ ap₂ (λ a k. a ++ drop k (set (set out 0 v) 1 w)) q l ∙ ap (λ d. words_of x y L ++ d) past
            ∙ ap (λ k. words_of x y L ++ drop (k + 2) out) (sym m);
      }
