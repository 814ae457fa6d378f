-- The loops over cells: that the greatest cell decides ground 13 and the counts make the load and the measured cells.
use mathlib.Core.Path.{◌≡◌, refl, ◌∙◌, ap}
use mathlib.Core.Bool.{Bool, true, false, cond, not, ◌||◌}
use mathlib.Core.List.{List, [], ◌∷◌}
use Prim.Native.Nat.{ℕ, zero, suc, ◌+◌, ◌-◌, ◌≤◌, max}
use native.Mathlib.Omega.{arith}
use borrow.Author.Tests.{ltb-true, ltb-false, lt-ltb, le-ltb, eqb-true}
use lib.Dec.{ltb, eqb}
use lib.ListN.{length, get_or, take, drop}
use lib.Seq.{drop-drop}
use Rattle.plane.specs.Lists.{keep}
use Rattle.plane.proofs.Member.{length_keep}
use Rattle.grids.specs.Frame.{full, unmeasured, highest, bad_cell, load}
use Rattle.grids.specs.Share.{measured}
use Rattle.cell_steps.specs.Leaves.{greatest_of, count_of, counts_of, times_of, Counted}

-- ---- the greatest cell

-- ground 13 by the greatest cell
pub greatest_at : (f : List ℕ) (i : ℕ) → get_or f i 0 ≤ greatest_of f
greatest_at [] i = omega arith
greatest_at (c ∷ f) zero = omega arith
greatest_at (c ∷ f) (suc i) = let r = greatest_at f i in omega arith

pub greatest_bad : (f : List ℕ) → ltb highest (greatest_of f) ≡ bad_cell f
greatest_bad [] = refl
greatest_bad (v ∷ vs) = above v (greatest_of vs) ∙ ap (λ b. ltb highest v || b) (greatest_bad vs)
  where
    above : (a b : ℕ) → ltb highest (max a b) ≡ (ltb highest a || ltb highest b)
    above a b = go a b (ltb highest a) (ltb highest b) refl refl
      where
        go : (a b : ℕ) (p q : Bool) → ltb highest a ≡ p → ltb highest b ≡ q → ltb highest (max a b) ≡ (p || q)
        go a b true q e f = let k = ltb-true highest a e in lt-ltb highest (max a b) (omega arith)
        go a b false true e f = let k = ltb-true highest b f in lt-ltb highest (max a b) (omega arith)
        go a b false false e f =
            let k = ltb-false highest a e in
            let m = ltb-false highest b f in
            le-ltb highest (max a b) (omega arith)

-- ---- counts

-- a part of the cells from k on, and those behind it
pub counts_part : (v : ℕ) (l : List ℕ) (k e : ℕ) → k ≤ e → counts_of v (drop k l) ≡ counts_of v (take (e - k) (drop k l)) + counts_of v (drop e l)
counts_part v l k e h =
    let i : k + (e - k) ≡ e = omega arith in
    split (e - k) (drop k l) ∙ ap (λ r. counts_of v (take (e - k) (drop k l)) + counts_of v r) (drop-drop (e - k) k l ∙ ap (λ n. drop n l) i)
  where
    split : (n : ℕ) (l : List ℕ) → counts_of v l ≡ counts_of v (take n l) + counts_of v (drop n l)
    split zero l = omega arith
    split (suc n) [] = refl
    split (suc n) (c ∷ cs) = let i = split n cs in omega arith

-- each cell counts at most 1
pub counts_most : (v : ℕ) (l : List ℕ) → counts_of v l ≤ length l
counts_most v [] = omega arith
counts_most v (c ∷ cs) = let i = counts_most v cs in let o = one (eqb c v) in omega arith
  where
    one : (b : Bool) → cond b 1 0 ≤ 1
    one true = omega arith
    one false = omega arith

pub counts_times : (v : ℕ) (f : List ℕ) → counts_of v f ≡ times_of v f
unfolding times_of
counts_times v [] = refl
counts_times v (c ∷ cs) = ap (λ n. count_of v c + n) (counts_times v cs) ∙ go (eqb c v) (keep (λ u. eqb u v) cs)
  where
    go : (b : Bool) (r : List ℕ) → cond b 1 0 + length r ≡ length (cond b (c ∷ r) r)
    go true r = omega arith
    go false r = omega arith

-- no more cells are v than there are
times_most : (v : ℕ) (f : List ℕ) → times_of v f ≤ length f
unfolding times_of
times_most v f = length_keep (λ u. eqb u v) f

pub counted_most : {v : ℕ} {f : List ℕ} {r : ℕ} → Counted v f r → length f ≤ 57600 → r ≤ length f
counted_most {v} {f} c l = let e = c.few (omega arith) in omega (arith, times_most v f)

-- the load is the number of cells that are 1
pub times_load : (f : List ℕ) → times_of full f ≡ load f
unfolding times_of load
times_load f = refl

-- those that are 2 and those that were measured are all
pub times_measured : (f : List ℕ) → times_of unmeasured f + measured f ≡ length f
unfolding times_of measured
times_measured [] = refl
times_measured (c ∷ cs) = go (eqb c unmeasured) (times_measured cs)
  where
    go : (b : Bool) → times_of unmeasured cs + measured cs ≡ length cs
        → length (cond b (c ∷ keep (λ u. eqb u unmeasured) cs) (keep (λ u. eqb u unmeasured) cs))
        + length (cond (not b) (c ∷ keep (λ u. not (eqb u unmeasured)) cs) (keep (λ u. not (eqb u unmeasured)) cs))
        ≡ length (c ∷ cs)
    go true e = omega arith
    go false e = omega arith

-- where no cell is above 1 all were measured
pub all_measured : (f : List ℕ) → greatest_of f ≤ 1 → measured f ≡ length f
unfolding measured
all_measured [] h = refl
all_measured (c ∷ cs) h = go (eqb c unmeasured) refl (all_measured cs (omega arith))
  where
    go : (b : Bool) → eqb c unmeasured ≡ b → length (keep (λ u. not (eqb u unmeasured)) cs) ≡ length cs
        → length (cond (not b) (c ∷ keep (λ u. not (eqb u unmeasured)) cs) (keep (λ u. not (eqb u unmeasured)) cs)) ≡ length (c ∷ cs)
    go true q e = let n = eqb-true c unmeasured q in absurd (omega arith)
    go false q e = omega arith
