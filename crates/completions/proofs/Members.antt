-- Masks in any order: a member is taken out of a list, and what completes a sum with it completes the greater sum.
use mathlib.Core.Path.{◌≡◌, refl, sym, ap, subst}
use mathlib.Core.Bool.{Bool}
use mathlib.Core.Logic.{◌⊎◌, inl, inr, ⊎_elim}
use mathlib.Core.List.{List, [], ◌∷◌}
use Prim.Native.Nat.{ℕ, suc, ◌+◌, ◌-◌, ◌<◌}
use native.Mathlib.Omega.{arith}
use lib.Dec.{T}
use lib.ListN.{length, get_or}
use Rattle.plane.specs.Lists.{In}
use Rattle.edges.specs.Edges.{summed}
use Rattle.rows.specs.Cells.{Cells, Same, Sum, Residue, AtMask, AtSum}
use Rattle.rows.proofs.Addition.{same_refl, same_sym, same_trans, to_cell, add_cells, sum_both, sum_comm, sum_assoc}
use Rattle.completions.specs.Completing.{Fills, Open, Fit, Replaces}

-- ---- a member of a list, and the others

pub record Out (s : ℕ) (L : List ℕ) : Type 0 where
  pub others : List ℕ
  pub part : (m : ℕ) → In others m → In L m
  pub member : In L s
  pub fewer : length L ≡ suc (length others)
  pub same : Same (AtSum L) (Sum (AtMask s) (AtSum others))

sum_swap : {X Y Z : Cells} → Same (Sum X (Sum Y Z)) (Sum Y (Sum X Z))
sum_swap = same_trans (same_sym sum_assoc) (same_trans (sum_both sum_comm same_refl) sum_assoc)

-- a list has a member that is a D, or none of its members is
pub some_or : (D : ℕ → Type 0) → ((s : ℕ) → D s ⊎ (D s → ⊥)) → (L : List ℕ) → ((s : ℕ) × (D s × Out s L)) ⊎ ((m : ℕ) → In L m → D m → ⊥)
some_or D dec [] = inr (λ m h d. h)
some_or D dec (s ∷ L) = ⊎_elim here (there (some_or D dec L)) (dec s)
  where
    here : D s → ((t : ℕ) × (D t × Out t (s ∷ L))) ⊎ ((m : ℕ) → In (s ∷ L) m → D m → ⊥)
    here d = inl (s, (d, record { others = L; part = λ m h. inr h; member = inl refl; fewer = refl; same = same_refl }))

    later : ((t : ℕ) × (D t × Out t L)) → (t : ℕ) × (D t × Out t (s ∷ L))
    later v = let o = v.1.1 in (
      v.0,
      (
        v.1.0,
        record {
          others = s ∷ o.others;
          part = λ m h. ⊎_elim (λ e. inl e) (λ k. inr (o.part m k)) h;
          member = inr o.member;
          fewer = ap suc o.fewer;
          same = same_trans (sum_both same_refl o.same) sum_swap;
        },
      ),
    )

    there : (((t : ℕ) × (D t × Out t L)) ⊎ ((m : ℕ) → In L m → D m → ⊥)) → (D s → ⊥) → ((t : ℕ) × (D t × Out t (s ∷ L))) ⊎ ((m : ℕ) → In (s ∷ L) m → D m → ⊥)
    there r n = ⊎_elim (λ v. inl (later v)) (λ f. inr (λ m h d. ⊎_elim (λ e. n (subst D e d)) (λ k. f m k d) h)) r

-- ---- one mask more or less

module _ (permitted : ℕ → Bool) (A Y : Cells) (m : ℕ) where
  pub with_one : (L : List ℕ) → T (permitted m) → Fills permitted A (Sum Y (AtMask m)) L → Fills permitted A Y (m ∷ L)
  with_one L t f = record { masks = λ s h. ⊎_elim (λ e. subst (λ k. T (permitted k)) (sym e) t) (f.masks s) h; whole = same_trans f.whole sum_assoc }

  pub without_one : (L : List ℕ) → Fills permitted A Y (m ∷ L) → Fills permitted A (Sum Y (AtMask m)) L
  without_one L f = record { masks = λ s h. f.masks s (inr h); whole = same_trans f.whole (same_sym sum_assoc) }

  pub taken_out : (L : List ℕ) → Fills permitted A Y L → (o : Out m L) → Fills permitted A Y (m ∷ o.others)
  taken_out L f o = record {
    masks = λ s h. ⊎_elim (λ e. f.masks s (subst (In L) (sym e) o.member)) (λ k. f.masks s (o.part s k)) h;
    whole = same_trans f.whole (sum_both same_refl o.same);
  }

pub fills_same : (permitted : ℕ → Bool) (A X Y : Cells) (L : List ℕ) → Same X Y → Fills permitted A X L → Fills permitted A Y L
fills_same permitted A X Y L e f = record { masks = f.masks; whole = same_trans f.whole (sum_both e same_refl) }

-- ---- the residue holds all that completes the sum

pub in_residue : (permitted : ℕ → Bool) (A Y : Cells) (L : List ℕ) → Fills permitted A Y L → (x y : ℕ) → AtSum L x y → Residue A Y x y
in_residue permitted A Y L f x y h = record {
  all = λ i j k. to_cell A {x = i + x} {y = j + y} (omega arith) (omega arith) (f.whole.from (i + x) (j + y) (add_cells i j x y k h));
}

residue_sum : (A Y : Cells) (m : ℕ) → Same (Residue (Residue A Y) (AtMask m)) (Residue A (Sum Y (AtMask m)))
residue_sum A Y m = record {
  to = λ x y r. record {
    all = λ i j s. to_cell A {x = x + s.x2 + s.x1} {y = y + s.y2 + s.y1} (omega (arith, s.at_x)) (omega (arith, s.at_y))
        ((r.all s.x2 s.y2 s.right).all s.x1 s.y1 s.left);
  };
  from = λ x y r. record {
    all = λ i j k. record {
      all = λ u v l. to_cell A {x = x + (u + i)} {y = y + (v + j)} (omega arith) (omega arith)
          (r.all (u + i) (v + j) (add_cells u v i j l k));
    };
  };
}

residue_same : {X Y Z : Cells} → Same X Y → Same (Residue X Z) (Residue Y Z)
residue_same e = record {
  to = λ x y r. record { all = λ i j k. e.to (x + i) (y + j) (r.all i j k) };
  from = λ x y r. record { all = λ i j k. e.from (x + i) (y + j) (r.all i j k) };
}

-- ---- going down by a permitted mask

module _ (permitted : ℕ → Bool) (num : ℕ → ℕ → ℕ) (A Y T' : Cells) (need : List ℕ) (o : Open permitted num A Y T' need) (m : ℕ) (t : T (permitted m)) where
  pub down_counts : (L : List ℕ) → Fills permitted A (Sum Y (AtMask m)) L → (i : ℕ) → i < 18 → num i m + summed (num i) L ≡ get_or need i 0
  down_counts L f i l = o.counts (m ∷ L) (with_one permitted A Y m L t f) i l

  -- what is known below, where the residue and the numbers are right
  pub down : (R : Cells) (need' : List ℕ) → Same R (Residue T' (AtMask m)) → ((i : ℕ) → i < 18 → get_or need' i 0 ≡ get_or need i 0 - num i m)
      → Open permitted num A (Sum Y (AtMask m)) R need'
  down R need' e g = record {
    left = same_trans e (same_trans (residue_same o.left) (residue_sum A Y m));
    counts = λ L f i l. let c = down_counts L f i l in let d = g i l in omega arith;
  }

  -- a number of m is above what is needed
  pub not_fit : (Fit num need m → ⊥) → (L : List ℕ) → Fills permitted A (Sum Y (AtMask m)) L → ⊥
  not_fit n L f = n (record { below = λ i l. let c = down_counts L f i l in omega arith })

  -- what completes Y ⊕ m lies in what m leaves of the residue
  pub in_rest : (L : List ℕ) → Fills permitted A (Sum Y (AtMask m)) L → (x y : ℕ) → AtSum L x y → Residue T' (AtMask m) x y
  in_rest L f x y h = (residue_same o.left).from x y ((residue_sum A Y m).from x y (in_residue permitted A (Sum Y (AtMask m)) L f x y h))

-- ---- a mask in the place of another

pub replaced : (permitted : ℕ → Bool) (num : ℕ → ℕ → ℕ) (A Y T' : Cells) (need : List ℕ) → Open permitted num A Y T' need → (m b : ℕ) → T (permitted b)
    → Replaces T' m b → (L : List ℕ)
    → Fills permitted A Y (m ∷ L) → Fills permitted A Y (b ∷ L)
replaced permitted num A Y T' need o m b t r L f = record {
  masks = λ s h. ⊎_elim (λ e. subst (λ k. T (permitted k)) (sym e) t) (λ k. f.masks s (inr k)) h;
  whole = record {
    to = λ x y h. let s = f.whole.to x y h in let q = s.right in record {
      x1 = s.x1;
      y1 = s.y1;
      x2 = s.x2;
      y2 = s.y2;
      left = s.left;
      right = record {
        x1 = q.x1;
        y1 = q.y1;
        x2 = q.x2;
        y2 = q.y2;
        left = r.cells q.x1 q.y1 q.left;
        right = q.right;
        at_x = q.at_x;
        at_y = q.at_y;
      };
      at_x = s.at_x;
      at_y = s.at_y;
    };
    from = λ x y s. let q = s.right in
        let k = r.rest q.x2 q.y2 (in_rest permitted num A Y T' need o m (f.masks m (inl refl)) L (without_one permitted A Y m L f) q.x2 q.y2
        q.right) in
        let c = o.left.to (q.x2 + q.x1) (q.y2 + q.y1) (k.all q.x1 q.y1 q.left) in
        to_cell A {x = q.x2 + q.x1 + s.x1} {y = q.y2 + q.y1 + s.y1} (omega (arith, q.at_x, s.at_x)) (omega (arith, q.at_y, s.at_y))
        (c.all s.x1 s.y1 s.left);
  };
}
