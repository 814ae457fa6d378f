-- The state below a mask: its residue, the numbers that are needed and the path; and why nothing completes a sum with a mask that is passed over.
use mathlib.Core.Path.{◌≡◌, refl, sym, subst}
use mathlib.Core.Bool.{Bool}
use mathlib.Core.Logic.{inl, inr, ⊎_elim}
use mathlib.Core.List.{List, [], ◌∷◌}
use Prim.Native.Nat.{ℕ, ◌+◌, ◌-◌, ◌≤◌, ◌<◌}
use native.Mathlib.Omega.{arith}
use native.Mathlib.Nat.{eq-or-lt_of_le}
use lib.Dec.{T}
use lib.ListN.{length, get_or, set}
use Rattle.plane.specs.Lists.{In}
use Rattle.edges.specs.Edges.{summed}
use Rattle.rows.specs.Cells.{Cells, Same, Sum, Residue, At, AtMask, AtSum, CutTo, chosen}
use Rattle.rows.proofs.Chosen.{chosen_more}
use Rattle.rows.proofs.Addition.{same_sym, same_trans, to_cell, add_cells, sum_comm}
use Rattle.rows.proofs.Sums.{Rows16, in_x, in_y}
use Rattle.completions.specs.declared.Here.{Here}
use Rattle.completions.specs.Completing.{Fills, Open, Fit, Differs, Spans, Unmet, Masks, aim_of, partial_sum, extents_of, Ready, Below, number_in}
use Rattle.completions.proofs.Members.{down, down_counts, not_fit, in_rest, fills_same}

-- ---- what is known does not depend on how the sum is written

pub open_same : (permitted : ℕ → Bool) (num : ℕ → ℕ → ℕ) (A X Y R : Cells) (need : List ℕ) → Same X Y → Open permitted num A X R need
    → Open permitted num A Y R need
open_same permitted num A X Y R need e o = record {
  left = same_trans o.left (record {
    to = λ x y r. record { all = λ i j k. r.all i j (e.from i j k) };
    from = λ x y r. record { all = λ i j k. r.all i j (e.to i j k) };
  });
  counts = λ L f. o.counts L (fills_same permitted A Y X L (same_sym e) f);
}

-- ---- extents

-- a sum of masks spans the sums of their widths and heights
pub sum_spans : (permitted : ℕ → Bool) (nums : List ℕ) → Masks permitted nums → (L : List ℕ) → ((m : ℕ) → In L m → T (permitted m)) → Spans (AtSum L)
    (summed (number_in nums 16) L) (summed (number_in nums 17) L)
sum_spans permitted nums k [] f = record {
  left = (0, record { at_x = refl; at_y = refl });
  right = (0, record { at_x = refl; at_y = refl });
  low = (0, record { at_x = refl; at_y = refl });
  high = (0, record { at_x = refl; at_y = refl });
}
sum_spans permitted nums k (m ∷ L) f =
    let a = k.spans m (f m (inl refl)) in
    let b = sum_spans permitted nums k L (λ s h. f s (inr h)) in
    record {
      left = (a.left.0 + b.left.0, add_cells 0 a.left.0 0 b.left.0 a.left.1 b.left.1);
      right = (a.right.0 + b.right.0, add_cells _ a.right.0 _ b.right.0 a.right.1 b.right.1);
      low = (a.low.0 + b.low.0, add_cells a.low.0 0 b.low.0 0 a.low.1 b.low.1);
      high = (a.high.0 + b.high.0, add_cells a.high.0 _ b.high.0 _ a.high.1 b.high.1);
    }

spans_in : {X Y : Cells} {w h u v : ℕ} → w ≡ u → h ≡ v → ((x y : ℕ) → X x y → Y x y) → Spans X w h → Spans Y u v
spans_in {X} {Y} e f g s = record {
  left = (s.left.0, g 0 s.left.0 s.left.1);
  right = (s.right.0, subst (λ (k : ℕ). Y k s.right.0) e (g _ s.right.0 s.right.1));
  low = (s.low.0, g s.low.0 0 s.low.1);
  high = (s.high.0, subst (λ (k : ℕ). Y s.high.0 k) f (g s.high.0 _ s.high.1));
}

-- two numbers that do not rise, and are not both as they were
pub gained : (a b c d : ℕ) → c ≤ a → d ≤ b → (c ≡ a → d ≡ b → ⊥) → c + d < a + b
gained a b c d p q f = ⊎_elim (λ e. ⊎_elim (λ g. absurd (f e g)) (λ g. omega arith) (eq-or-lt_of_le q)) (λ e. omega arith) (eq-or-lt_of_le p)

-- ---- a mask that is passed over

module _ (nums : List ℕ) (here : Here) (m : ℕ) where
  abbrev Y : Cells
  Y = partial_sum here

  abbrev rest : List ℕ
  rest = here.rest

  module _ (permitted : ℕ → Bool) (r : Ready permitted nums here) (t : T (permitted m)) where
    -- a number is above what is needed
    pub step_unfit : (Fit (number_in nums) here.need m → ⊥) → (L : List ℕ) → Fills permitted (aim_of here) (Sum Y (AtMask m)) L → ⊥
    step_unfit = not_fit permitted (number_in nums) (aim_of here) Y (At rest) here.need r.state m t

    module _ (known : Rows16 rest) (left : List ℕ) (c : CutTo (Residue (At rest) (AtMask m)) left) where
      -- what the mask leaves lies in the window, since the mask has a cell
      rest_same : Same (At left) (Residue (At rest) (AtMask m))
      rest_same = let q : (i : ℕ) × ((j : ℕ) × AtMask m i j) = (0, (r.known.spans m t).left) in record {
        to = c.to;
        from = λ x y h.
            let k = h.all q.0 q.1.0 q.1.1 in
            c.from x y h (omega (arith, in_x rest known (x + q.0) (y + q.1.0) k)) (omega (arith, in_y rest known (x + q.0) (y + q.1.0) k));
      }

      covered : (L : List ℕ) → Fills permitted (aim_of here) (Sum Y (AtMask m)) L → Same (aim_of here) (Sum (Sum (At left) (AtMask m)) Y)
      covered L f = record {
        to = λ x y h.
            let s = f.whole.to x y h in
            let p = rest_same.from s.x2 s.y2 (in_rest permitted (number_in nums) (aim_of here) Y (At rest) here.need r.state m t L f s.x2
            s.y2 s.right) in
            to_cell (Sum (Sum (At left) (AtMask m)) Y) {x = s.x2 + s.left.x2 + s.left.x1} {y = s.y2 + s.left.y2 + s.left.y1}
            (omega (arith, s.at_x, s.left.at_x)) (omega (arith, s.at_y, s.left.at_y))
            (add_cells (s.x2 + s.left.x2) (s.y2 + s.left.y2) s.left.x1 s.left.y1
            (add_cells s.x2 s.y2 s.left.x2 s.left.y2 p s.left.right) s.left.left);
        from = λ x y s.
            let q = s.left in
            let a = (rest_same.to q.x1 q.y1 q.left).all q.x2 q.y2 q.right in
            let b = r.state.left.to (q.x1 + q.x2) (q.y1 + q.y2) a in
            to_cell (aim_of here) {x = q.x1 + q.x2 + s.x2} {y = q.y1 + q.y2 + s.y2} (omega (arith, s.at_x, q.at_x))
            (omega (arith, s.at_y, q.at_y)) (b.all s.x2 s.y2 s.right);
      }

      -- the path, the mask and what it leaves do not make up the target
      pub step_uncovered : Differs here.target left here.path here.len m → (L : List ℕ) → Fills permitted (aim_of here) (Sum Y (AtMask m)) L → ⊥
      step_uncovered d L f = d (covered L f)

      -- what is left has not the extents that are needed, or nothing was gained of them
      pub step_unmet : (left' : List ℕ) → ((i : ℕ) → i < 18 → get_or left' i 0 ≡ get_or here.need i 0 - number_in nums i m) → Fit (number_in nums)
          here.need m → Unmet (At left) here.need left'
          → (L : List ℕ) → Fills permitted (aim_of here) (Sum Y (AtMask m)) L → ⊥
      step_unmet left' g b u L f = ⊎_elim
          (λ n. n (spans_in (number 16 (omega arith)) (number 17 (omega arith)) inside (sum_spans permitted nums r.known L f.masks)))
          (λ n.
          let one = r.known.some m t in
          let p = g 16 (omega arith) in
          let q = g 17 (omega arith) in
          let v = b.below 16 (omega arith) in
          let w = b.below 17 (omega arith) in
          let x = n.0 in
          let y = n.1 in
          omega arith)
          u
        where
          inside : (x y : ℕ) → AtSum L x y → At left x y
          inside x y h = rest_same.from x y (in_rest permitted (number_in nums) (aim_of here) Y (At rest) here.need r.state m t L f x y h)

          number : (i : ℕ) → i < 18 → summed (number_in nums i) L ≡ get_or left' i 0
          number i l = let c = down_counts permitted (number_in nums) (aim_of here) Y (At rest) here.need r.state m t L f i l in let d = g i l in
              omega arith

      -- the state below
      below_ready : (need' : List ℕ) → ((i : ℕ) → i < 18 → get_or need' i 0 ≡ get_or here.need i 0 - number_in nums i m) → (path' : List ℕ) (len' : ℕ)
          → chosen path' len' ≡ m ∷ chosen here.path here.len
          → Ready permitted nums (record { target = here.target; rest = left; path = path'; len = len'; need = need' })
      below_ready need' g path' len' e = record {
        known = r.known;
        state = subst (λ (ms : List ℕ). Open permitted (number_in nums) (aim_of here) (AtSum ms) (At left) need') (sym e)
            (open_same permitted (number_in nums) (aim_of here) (Sum Y (AtMask m)) (Sum (AtMask m) Y) (At left) need' sum_comm
            (down permitted (number_in nums) (aim_of here) Y (At rest) here.need r.state m t (At left) need' rest_same g));
      }

  pub below_yes : Rows16 rest → (left need' : List ℕ) → CutTo (Residue (At rest) (AtMask m)) left
      → ((i : ℕ) → i < 18 → get_or need' i 0 ≡ get_or here.need i 0 - number_in nums i m)
      → here.len < 32 → length here.path ≡ 32 → get_or need' 16 0 + get_or need' 17 0 < extents_of here
      → Below nums here m (record { target = here.target; rest = left; path = set here.path here.len m; len = here.len + 1; need = need' })
  below_yes known left need' c g l w v = let e = chosen_more here.path here.len m (omega arith) in record {
    same = refl;
    longer = (e, refl);
    falls = v;
    ready = λ permitted r t. below_ready permitted r t known left c need' g (set here.path here.len m) (here.len + 1) e;
  }

-- what completes the sum with m completes the sum of the state below
pub below_fills : (nums : List ℕ) (here : Here) (m : ℕ) (r : Here) → Below nums here m r → (permitted : ℕ → Bool) (L : List ℕ)
    → Fills permitted (aim_of here) (Sum (partial_sum here) (AtMask m)) L → Fills permitted (aim_of r) (partial_sum r) L
below_fills nums here m r b permitted L f =
    subst (λ (A : List ℕ). Fills permitted (At A) (partial_sum r) L) (sym b.same)
    (subst (λ (ms : List ℕ). Fills permitted (aim_of here) (AtSum ms) L) (sym b.longer.0)
    (fills_same permitted (aim_of here) (Sum (partial_sum here) (AtMask m)) (Sum (AtMask m) (partial_sum here)) L sum_comm f))
