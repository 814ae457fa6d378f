-- How an answer follows from the answers below it: at a leaf, past the masks that complete nothing, and with the first stage put before what completes the
-- sum below it. All of it over any permitted masks.
use mathlib.Core.Path.{◌≡◌, sym, subst, ◌∙◌}
use mathlib.Core.Bool.{Bool, not, ◌&&◌}
use Rattle.std.specs.Prelude.{Option, Some, None}
use mathlib.Core.Logic.{⊎_elim}
use mathlib.Core.List.{List, [], ◌∷◌}
use Prim.Native.Nat.{ℕ, zero, suc, ◌+◌, ◌-◌, ◌≤◌, ◌<◌}
use native.Mathlib.Nat.{eq-or-lt_of_le, le_refl}
use native.Mathlib.Omega.{arith}
use lib.Dec.{T, ltb, eqb, eqb→eq, nltb→le, not_T}
use lib.ListN.{length, get_or, set}
use lib.Seq.{get_or-set_other}
use Rattle.plane.specs.Lists.{all}
use Rattle.plane.proofs.Tests.{T_and, not_or, not_ltb, clash}
use Rattle.masks.specs.Mask.{stage}
use Rattle.masks.specs.Chain.{falling, smaller}
use Rattle.masks.proofs.Cells.{stage_below}
use Rattle.rows.specs.Cells.{Cells, Same, Sum, At, AtMask, AtSum, chosen}
use Rattle.search.specs.Tree.{Completes, Line, FirstLine, NoneFirst, Narrowed}
use Rattle.completions.specs.declared.Here.{Here}
use Rattle.completions.specs.Completing.{aim_of, partial_sum, Below}
use Rattle.rows.proofs.Chosen.{chosen_set}
use Rattle.rows.proofs.Addition.{same_refl, same_sym, same_trans, sum_both, sum_comm, sum_assoc, sum_origin}

-- ---- over any permitted masks

module _ (permitted : ℕ → Bool) where
  -- the same sum is completed by the same stages
  pub completes_same : {A X Y : Cells} (m : ℕ) (ms : List ℕ) → Same X Y → Completes permitted A X m ms → Completes permitted A Y m ms
  completes_same m ms e c = record { stages = c.stages; rising = c.rising; sum = same_trans c.sum (sum_both e same_refl) }

  module _ (A Y : Cells) where
    -- none below the first, so none below what is below it
    lower : (m i : ℕ) (ms : List ℕ) → m ≤ i → Completes permitted A Y i ms → Completes permitted A Y m ms
    lower m i ms l c = record { stages = c.stages; rising = down ms c.rising; sum = c.sum }
      where
        down : (ms : List ℕ) → T (not (falling (i ∷ ms))) → T (not (falling (m ∷ ms)))
        down [] t = tt
        down (s ∷ ms) t =
            let u = (not_or (ltb s i) (falling (s ∷ ms))).0 t in
            let q = nltb→le s i u.0 in
            (not_or (ltb s m) (falling (s ∷ ms))).1 (not_ltb s m (omega arith), u.1)

    -- the first stage is permitted and not below m, and the others complete the sum with it
    head : (m s : ℕ) (ms : List ℕ) → Completes permitted A Y m (s ∷ ms) → (m ≤ s) × T (permitted s) × Completes permitted A (Sum Y (AtMask s)) s ms
    head m s ms c =
        let u = (not_or (ltb s m) (falling (s ∷ ms))).0 c.rising in
        let v = (T_and (permitted s) (all permitted ms)).0 c.stages in
        (nltb→le s m u.0, v.0, record { stages = v.1; rising = u.1; sum = same_trans c.sum (same_sym sum_assoc) })

    behind : (m : ℕ) (ms : List ℕ) → T (permitted m) → Completes permitted A (Sum Y (AtMask m)) m ms → Completes permitted A Y m (m ∷ ms)
    behind m ms p c = record {
      stages = (T_and (permitted m) (all permitted ms)).1 (p, c.stages);
      rising = (not_or (ltb m m) (falling (m ∷ ms))).1 (not_ltb m m (le_refl m), c.rising);
      sum = same_trans c.sum sum_assoc;
    }

    -- ---- no stage is left

    pub leaf_found : (k m : ℕ) (masks : List ℕ) → k ≡ 0 → Same A Y → ((i : ℕ) → get_or masks i 0 ≡ 0) → Line permitted A Y k m masks
    unfolding chosen
    leaf_found zero m masks z f past = record {
      sound = record { stages = tt; rising = tt; sum = same_trans f (same_sym sum_origin) };
      first = λ ns l c. none_smaller ns;
      past = λ i l. past i;
    }
      where
        none_smaller : (ns : List ℕ) → T (not (smaller ns []))
        none_smaller [] = tt
        none_smaller (n ∷ ns) = tt
    leaf_found (suc k) m masks z f past = absurd (omega arith)

    pub leaf_none : (k m : ℕ) → k ≡ 0 → (Same A Y → ⊥) → (ns : List ℕ) → length ns ≡ k → Completes permitted A Y m ns → ⊥
    leaf_none k m z g [] l c = g (same_trans c.sum sum_origin)
    leaf_none k m z g (n ∷ ns) l c = absurd (let q : suc (length ns) ≡ k = l in omega arith)

    -- ---- the masks in turn

    module _ (k m : ℕ) (p : 0 < k) where
      -- mask i is not permitted, or no list has it first
      pub passed_more : (i : ℕ) → Narrowed permitted A Y k m i → (T (permitted i) → NoneFirst permitted A Y k i) → Narrowed permitted A Y k m (i + 1)
      passed_more i P shut = record { from = omega (arith, P.from); later = λ ns l c. go ns l (P.later ns l c) }
        where
          go : (ns : List ℕ) → length ns ≡ k → Completes permitted A Y i ns → Completes permitted A Y (i + 1) ns
          go [] l c = absurd (let q : 0 ≡ k = l in omega arith)
          go (s ∷ ns) l c =
              let h = head i s ns c in
              let q : suc (length ns) ≡ k = l in
              let r : length ns ≡ k - 1 = omega arith in
              ⊎_elim
              (λ e. absurd (shut (subst (λ n. T (permitted n)) (sym e) h.1) ns r
              (subst (λ n. Completes permitted A (Sum Y (AtMask n)) n ns) (sym e) h.2)))
              (λ w. record {
                stages = c.stages;
                rising = (not_or (ltb s (i + 1)) (falling (s ∷ ns))).1 (not_ltb s (i + 1) (omega arith), h.2.rising);
                sum = c.sum;
              })
              (eq-or-lt_of_le h.0)

      -- the first list from i on is the first from m on
      pub passed_found : (i : ℕ) (masks : List ℕ) → Narrowed permitted A Y k m i → Line permitted A Y k i masks → Line permitted A Y k m masks
      passed_found i masks P a = record {
        sound = lower m i (chosen masks k) P.from a.sound;
        first = λ ns l c. a.first ns l (P.later ns l c);
        past = a.past;
      }

      -- no mask is left
      pub passed_all : (i : ℕ) → ((n : ℕ) → T (permitted n) → T (stage n)) → Narrowed permitted A Y k m i → 512 ≤ i → FirstLine permitted A Y k m None
      passed_all i st P q ns l c = go ns l (P.later ns l c)
        where
          go : (ns : List ℕ) → length ns ≡ k → Completes permitted A Y i ns → ⊥
          go [] l c = let r : 0 ≡ k = l in omega arith
          go (s ∷ ns) l c = let h = head i s ns c in let b = stage_below s (st s h.1) in omega (arith, h.0)

    -- ---- a stage put before what completes the sum below it

    module _ (k m : ℕ) (p : 0 < k) (pm : T (permitted m)) (Z : Cells) (z : Same Z (Sum Y (AtMask m))) where
      pub none_with : ((ns : List ℕ) → length ns ≡ k - 1 → Completes permitted A Z m ns → ⊥) → NoneFirst permitted A Y k m
      none_with a ns l c = a ns l (completes_same m ns (same_sym z) c)

      not_smaller : (ns : List ℕ) (L : List ℕ) → length ns ≡ k → Completes permitted A Y m ns
          → ((ms : List ℕ) → length ms ≡ k - 1 → Completes permitted A Z m ms → T (not (smaller ms L))) → T (not (smaller ns (m ∷ L)))
      not_smaller [] L l c f = tt
      not_smaller (s ∷ ns) L l c f =
          let h = head m s ns c in
          let q : suc (length ns) ≡ k = l in
          let r : length ns ≡ k - 1 = omega arith in
          (not_or (ltb s m) (eqb s m && smaller ns L)).1 (
            not_ltb s m h.0,
            not_T (eqb s m && smaller ns L) (λ t.
                let u = (T_and (eqb s m) (smaller ns L)).0 t in
                let e = eqb→eq s m u.0 in
                clash (smaller ns L) (f ns r (completes_same m ns (same_sym z) (subst (λ n. Completes permitted A (Sum Y (AtMask n)) n ns) e h.2))) u.1),
          )

      pub put_first : (masks : List ℕ) → k ≤ length masks → Line permitted A Z (k - 1) m masks → Line permitted A Y k m (set masks (k - 1) m)
      put_first masks room a =
          let e = chosen_set masks k m p room in
          record {
            sound = subst (Completes permitted A Y m) (sym e) (behind m (chosen masks (k - 1)) pm (completes_same m (chosen masks (k - 1)) z a.sound));
            first = λ ns l c. subst (λ L. T (not (smaller ns L))) (sym e) (not_smaller ns (chosen masks (k - 1)) l c a.first);
            past = λ i l. get_or-set_other masks (k - 1) i m 0 (λ q. omega arith) ∙ a.past i (omega arith);
          }

-- what the partial sum below says of that above it
module _ (permitted : ℕ → Bool) (nums cand : List ℕ) (here : Here) (k m : ℕ) where
  abbrev Y : Cells
  Y = partial_sum here

  module _ (r : Here) (b : Below nums here m r) (p : 0 < k) (pm : T (permitted m)) (o : Option (List ℕ))
      (a : FirstLine permitted (aim_of r) (partial_sum r) (k - 1) m o) where
    above : FirstLine permitted (aim_of here) (Sum (AtMask m) Y) (k - 1) m o
    above = subst (λ (ms : List ℕ). FirstLine permitted (aim_of here) (AtSum ms) (k - 1) m o) b.longer.0
        (subst (λ (l : List ℕ). FirstLine permitted (At l) (partial_sum r) (k - 1) m o) b.same a)

  pub below_closed : (r : Here) → Below nums here m r → 0 < k → T (permitted m)
      → FirstLine permitted (aim_of r) (partial_sum r) (k - 1) m None → NoneFirst permitted (aim_of here) Y k m
  below_closed r b p pm a = none_with permitted (aim_of here) Y k m p pm (Sum (AtMask m) Y) sum_comm (above r b p pm None a)

  pub below_found : (r : Here) → Below nums here m r → 0 < k → T (permitted m) → (masks : List ℕ)
      → FirstLine permitted (aim_of r) (partial_sum r) (k - 1) m (Some masks) → k ≤ length masks
      → Line permitted (aim_of here) Y k m (set masks (k - 1) m)
  below_found r b p pm masks a room =
      put_first permitted (aim_of here) Y k m p pm (Sum (AtMask m) Y) sum_comm masks room (above r b p pm (Some masks) a)
