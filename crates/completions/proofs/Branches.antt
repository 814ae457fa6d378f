-- The branch of a node: a number that is needed, and the masks that have it, tried from the last. The list shrinks, since what completes the sum has the
-- last of it or has it not.
use mathlib.Core.Path.{◌≡◌, refl, sym, ap, subst, ◌∙◌}
use mathlib.Core.Bool.{Bool}
use mathlib.Core.Logic.{◌⊎◌, inl, inr, ⊎_elim}
use mathlib.Core.List.{List, [], ◌∷◌}
use Prim.Native.Nat.{ℕ, suc, ◌-◌, ◌*◌, ◌≤◌, ◌<◌}
use native.Mathlib.Omega.{arith}
use native.Mathlib.Nat.{eq-or-lt_of_le}
use native.Mathlib.Decide.{ℕ_discrete}
use lib.Dec.{T}
use lib.ListN.{length, get_or}
use Rattle.plane.specs.Lists.{In}
use Rattle.edges.specs.Edges.{summed}
use Rattle.rows.specs.Cells.{Cells, Sum, AtMask}
use Rattle.completions.specs.Completing.{Fills, Among, From, None, NoneThrough, Spent, Open, Fit, Replaces}
use Rattle.completions.proofs.Loops.{among_more}
use Rattle.completions.proofs.Members.{Out, some_or, without_one, taken_out, replaced}

-- ---- numbers of a list

-- a member has no more than the list
pub each_below : (f : ℕ → ℕ) (L : List ℕ) (m : ℕ) → In L m → f m ≤ summed f L
each_below f [] m h = absurd h
each_below f (s ∷ L) m h = ⊎_elim (λ e. let g = ap f e in omega arith) (λ k. let b = each_below f L m k in omega arith) h

-- a list without has none
pub none_summed : (f : ℕ → ℕ) (L : List ℕ) → ((m : ℕ) → In L m → f m ≡ 0) → summed f L ≡ 0
none_summed f [] h = refl
none_summed f (s ∷ L) h = let a = h s (inl refl) in let b = none_summed f L (λ m k. h m (inr k)) in omega arith

-- where each has 2 at most, a list has at most twice its length
pub two_each : (f : ℕ → ℕ) (L : List ℕ) → ((m : ℕ) → In L m → f m ≤ 2) → summed f L ≤ 2 * length L
two_each f [] h = omega arith
two_each f (s ∷ L) h = let a = h s (inl refl) in let b = two_each f L (λ m k. h m (inr k)) in omega arith

-- ---- members of a list

among_less : (xs : List ℕ) (n m : ℕ) → Among xs (suc n) m → (m ≡ get_or xs n 0 → ⊥) → Among xs n m
among_less xs n m a f = let b = a.before in ⊎_elim
    (λ e. absurd (f (sym a.is ∙ ap (λ (k : ℕ). get_or xs k 0) e)))
    (λ l. record { at = a.at; before = l; is = a.is })
    (eq-or-lt_of_le {n = a.at} {m = n} (omega arith))

equal_or : (m s : ℕ) → (s ≡ m) ⊎ (s ≡ m → ⊥)
equal_or m s = on (ℕ_discrete s m)
  where
    on : Dec (s ≡ m) → (s ≡ m) ⊎ (s ≡ m → ⊥)
    on (yes e) = inl e
    on (no n) = inr n

-- ---- the masks of a list, tried from the last

module _ (permitted : ℕ → Bool) (A Y : Cells) (xs : List ℕ) (n k : ℕ) where
  -- the mask at r was tried, over the list up to it
  module _ (r : ℕ) (l : r < n) (t : Spent permitted A Y xs n (suc r) k) (no : NoneThrough permitted A Y xs (suc r) k (get_or xs r 0)) where
    here_gone : NoneThrough permitted A Y xs n k (get_or xs r 0)
    here_gone = record {
      no = λ L f a q.
          let b = t.left (get_or xs r 0 ∷ L) f (λ m h. ⊎_elim (λ e. record { at = r; before = l; is = sym e }) (a m) h) (omega arith) in
          no.no L f (λ m h. b m (inr h)) q;
    }

    gone_on : (j : ℕ) → r ≤ j → j < n → NoneThrough permitted A Y xs n k (get_or xs j 0)
    gone_on j p q = ⊎_elim (λ e. subst (λ (i : ℕ). NoneThrough permitted A Y xs n k (get_or xs i 0)) e here_gone) (λ w. t.gone j w q) (eq-or-lt_of_le p)

    left_on : (L : List ℕ) → Fills permitted A Y L → From xs n L → length L ≤ k → From xs r L
    left_on L f a q = ⊎_elim has hasnt (some_or (λ s. s ≡ get_or xs r 0) (equal_or (get_or xs r 0)) L)
      where
        has : ((s : ℕ) × ((s ≡ get_or xs r 0) × Out s L)) → From xs r L
        has v = let o = subst (λ s. Out s L) v.1.0 v.1.1 in
            let e = o.fewer in
            absurd (no.no o.others (taken_out permitted A Y (get_or xs r 0) L f o) (λ m h. t.left L f a q m (o.part m h)) (omega arith))

        hasnt : ((m : ℕ) → In L m → m ≡ get_or xs r 0 → ⊥) → From xs r L
        hasnt g m h = among_less xs r m (t.left L f a q m h) (g m h)

    pub spent_more : Spent permitted A Y xs n r k
    spent_more = record { left = left_on; gone = gone_on }

  -- nothing below the mask completes the sum
  pub none_below : (m : ℕ) → 0 < k → None permitted A (Sum Y (AtMask m)) xs n (k - 1) → NoneThrough permitted A Y xs n k m
  none_below m p a = record { no = λ L f b q. a.no L (without_one permitted A Y m L f) b (omega arith) }

  -- the mask itself is passed over
  pub passed_over : (m : ℕ) → (T (permitted m) → (L : List ℕ) → Fills permitted A (Sum Y (AtMask m)) L → ⊥) → NoneThrough permitted A Y xs n k m
  passed_over m a = record { no = λ L f b q. a (f.masks m (inl refl)) L (without_one permitted A Y m L f) }

  module _ (num : ℕ → ℕ → ℕ) (T' : Cells) (need : List ℕ) (o : Open permitted num A Y T' need) where
    -- rule S: a mask that was tried over a longer list replaces m
    pub replaced_gone : (r m j : ℕ) → r ≤ j → j < n → Spent permitted A Y xs n r k → T (permitted (get_or xs j 0)) → Replaces T' m (get_or xs j 0)
        → NoneThrough permitted A Y xs r k m
    replaced_gone r m j p q t b e = record {
      no = λ L f a l. (t.gone j p q).no L (replaced permitted num A Y T' need o m (get_or xs j 0) b e L f) (λ s h. among_more xs r n s (omega arith) (a s h)) l;
    }

    -- a number is needed that none of those left has
    pub branch_end : (i r : ℕ) → i < 18 → 0 < get_or need i 0 → ((m : ℕ) → T (permitted m) → Among xs r m → num i m ≡ 0) → Spent permitted A Y xs n r k
        → None permitted A Y xs n k
    branch_end i r l p z t = record {
      no = λ L f a q.
          let e = none_summed (num i) L (λ m h. z m (f.masks m h) (t.left L f a q m h)) in
          let c = o.counts L f i l in
          omega arith;
    }

    -- the list was drawn from another, of which it has all that fit
    pub drawn : (ys : List ℕ) (u : ℕ) → ((m : ℕ) → T (permitted m) → Among ys u m → Fit num need m → Among xs n m) → None permitted A Y xs n k
        → None permitted A Y ys u k
    drawn ys u g a = record {
      no = λ L f b q. a.no L f (λ m h. g m (f.masks m h) (b m h)
          (record { below = λ i l. let c = o.counts L f i l in let d = each_below (num i) L m h in omega arith })) q;
    }

    -- k masks do not reach what is needed of a number of which each has 2 at most
    pub too_few : (i : ℕ) → i < 18 → ((m : ℕ) → T (permitted m) → num i m ≤ 2) → 2 * k < get_or need i 0 → None permitted A Y xs n k
    too_few i l two h = record {
      no = λ L f a q.
          let b = two_each (num i) L (λ m g. two m (f.masks m g)) in
          let c = o.counts L f i l in
          omega arith;
    }
