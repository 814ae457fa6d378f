-- Summing a plan's stages: a mask is added to the sum of those after it. Cutting to the window on the way loses nothing, since coordinates only grow.
use mathlib.Core.Path.{◌≡◌, refl, sym, ap, subst, ◌∙◌}
use mathlib.Core.Logic.{⊎_elim}
use mathlib.Core.List.{List, ◌∷◌, ◌++◌}
use Prim.Native.Nat.{ℕ, zero, suc, ◌+◌, ◌%◌, min, ◌≤◌, ◌<◌}
use native.Mathlib.Omega.{arith}
use lib.ListN.{length, get_or, replicate}
use Rattle.plane.proofs.Tests.{lt_or_le}
use Rattle.words.specs.Read.{word_of}
use Rattle.words.specs.declared.Word.TheVariants.{Stage}
use Rattle.rows.specs.Cells.{Same, At, AtMask, AtOrigin, bit}
use Rattle.rows.specs.Leaves.{SumOf}
use Rattle.rows.proofs.RowBits.{bit_in, no_bit}
use Rattle.rows.proofs.Sums.{zero_at}
use Rattle.lists.specs.Held.{mask_in, masks_from, held_masks, SumRows, WithStage}
use Rattle.lists.proofs.Fields.{stage_small}
use Rattle.lists.proofs.Joined.{flat_step, flat_end}

-- ---- one word

mask_sum : (m : ℕ) (z a r ms : List ℕ) → Same (At a) (AtMask m) → SumOf z a r → SumRows ms z → SumRows (m ∷ ms) r
mask_sum m z a r ms e o p = record {
  to = λ x y h. let s = o.to x y h in record {
    x1 = s.x2;
    y1 = s.y2;
    x2 = s.x1;
    y2 = s.y1;
    left = e.to s.x2 s.y2 s.right;
    right = p.to s.x1 s.y1 s.left;
    at_x = omega (arith, s.at_x);
    at_y = omega (arith, s.at_y);
  };
  from = λ x y s u v. o.from x y
      (record {
        x1 = s.x2;
        y1 = s.y2;
        x2 = s.x1;
        y2 = s.y1;
        left = p.from s.x2 s.y2 s.right (omega (arith, s.at_x)) (omega (arith, s.at_y));
        right = e.from s.x1 s.y1 s.left;
        at_x = omega (arith, s.at_x);
        at_y = omega (arith, s.at_y);
      })
      u
      v;
}

pub stage_sum : (z a r : List ℕ) (w m : ℕ) → word_of w ≡ Stage m → Same (At a) (AtMask (m % 512 % 512)) → SumOf z a r → WithStage z w r
stage_sum z a r w m e h o =
    let s = stage_small w m e in
    let q : m % 512 % 512 ≡ m = omega arith in
    record { added = λ ms p. subst (λ v. SumRows (mask_in v ++ ms) r) (sym e) (mask_sum m z a r ms (subst (λ k. Same (At a) (AtMask k)) q h) o p) }

-- ---- the words from i on are summed

origin_to : (x y : ℕ) → At (1 ∷ replicate 15 0) x y → AtOrigin x y
origin_to x zero h = let l : x < 1 = bit_in 1 1 x (omega arith) h in record { at_x = omega arith; at_y = refl }
origin_to x (suc y) h = absurd (no_bit x (ap (λ n. bit n x) (sym (zero_at 15 y)) ∙ h))

pub sum_origin : (ws : List ℕ) (i : ℕ) → length ws ≤ i → SumRows (masks_from i ws) (1 ∷ replicate 15 0)
unfolding masks_from
sum_origin ws i l = subst (λ ms. SumRows ms (1 ∷ replicate 15 0)) (sym (flat_end (λ w. mask_in (word_of w)) ws i l)) (record {
  to = origin_to;
  from = λ x y o u v. subst (λ k. At (1 ∷ replicate 15 0) k y) (sym o.at_x) (subst (λ k. At (1 ∷ replicate 15 0) 0 k) (sym o.at_y) refl);
})

pub sum_more : (ws : List ℕ) (i j : ℕ) (r s : List ℕ) → j + 1 ≡ i → j < length ws → SumRows (masks_from i ws) r → WithStage r (get_or ws j 0) s
    → SumRows (masks_from j ws) s
unfolding masks_from
sum_more ws i j r s e l p o =
    subst (λ ms. SumRows ms s) (sym (flat_step (λ w. mask_in (word_of w)) ws j l))
    (o.added (masks_from (j + 1) ws) (subst (λ k. SumRows (masks_from k ws) r) (sym e) p))

-- the loop ends at the third word, or where a shorter list ends
pub sum_end : (ws : List ℕ) (i : ℕ) (r : List ℕ) → i ≤ 2 → min 2 (length ws) ≤ i → SumRows (masks_from i ws) r → SumRows (held_masks ws) r
unfolding masks_from
sum_end ws i r a b p = ⊎_elim
    (λ h. let f = flat_end (λ w. mask_in (word_of w)) ws in subst (λ ms. SumRows ms r) (f i (omega arith) ∙ sym (f 2 (omega arith))) p)
    (λ h. let e : i ≡ 2 = omega arith in subst (λ k. SumRows (masks_from k ws) r) e p)
    (lt_or_le (length ws) 2)
