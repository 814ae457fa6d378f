-- Sums and residues by a mask, nine cells alike: what each cell of the mask moves, what its three bits of a row make together, and the three rows of the mask.
use mathlib.Core.Path.{◌≡◌, refl, sym, ap, subst, ◌∙◌}
use mathlib.Core.Logic.{⊎_elim}
use mathlib.Core.List.{List}
use Prim.Native.Nat.{ℕ, zero, suc, ◌+◌, ◌-◌, ◌*◌, ◌/◌, ◌%◌, ◌^◌, ◌≤◌, ◌<◌}
use native.Mathlib.Omega.{arith}
use native.Mathlib.Nat.{add_comm}
use lib.Bits.{bit_and, bit_or}
use lib.ListN.{get_or}
use Rattle.plane.proofs.Tests.{lt_or_le}
use Rattle.rows.specs.Cells.{Sum, Residue, At, AtMask, bit, CutTo}
use Rattle.rows.specs.Leaves.{moved_of, strip, held_of, hold}
use Rattle.rows.proofs.Fill.{Filled}
use Rattle.rows.proofs.RowBits.{bit_shr, no_bit}
use Rattle.rows.proofs.Shifts.{or_on, on_or_l, on_or_r, and_on_l, and_on_r, on_and, on_shl, shl_on}
use Rattle.rows.proofs.Sums.{ones16}

-- ---- a word of ones, or 0

span_on : (b x : ℕ) → b < 2 → bit (b * 65535) x ≡ 1 → b ≡ 1
span_on zero x l h = absurd (no_bit x h)
span_on (suc zero) x l h = refl
span_on (suc (suc b)) x l h = absurd (omega arith)

on_span : (b x : ℕ) → b ≡ 1 → x < 16 → bit (b * 65535) x ≡ 1
on_span b x e l = subst (λ (k : ℕ). bit (k * 65535) x ≡ 1) (sym e) (ones16 x l)

-- ---- sums: one cell of the mask, three of a row

module _ (a m i c : ℕ) where
  moved_to : (x : ℕ) → bit (moved_of a m i c) x ≡ 1 → (bit m c ≡ 1) × ((i ≤ x) × (bit a (x - i) ≡ 1))
  moved_to x h = (
    span_on (bit m c) x (omega arith) (and_on_r (a * 2 ^ i % 65536) (bit m c * 65535) x h),
    shl_on a i x (and_on_l (a * 2 ^ i % 65536) (bit m c * 65535) x h),
  )

  moved_from : (x : ℕ) → bit m c ≡ 1 → bit a x ≡ 1 → x + i < 16 → bit (moved_of a m i c) (x + i) ≡ 1
  moved_from x e h l = on_and (a * 2 ^ i % 65536) (bit m c * 65535) (x + i) (on_shl a i x h l) (on_span (bit m c) (x + i) e l)

-- bit x of a row's sum with the three bits of m from s on comes from one of them
record Struck (a m s x : ℕ) : Type 0 where
  i : ℕ
  column : i < 3
  has : bit m (s + i) ≡ 1
  far : i ≤ x
  cell : bit a (x - i) ≡ 1

module _ (a m s x : ℕ) where
  strip_to : bit (strip a m s) x ≡ 1 → Struck a m s x
  unfolding strip
  strip_to h = ⊎_elim
      (λ u. ⊎_elim (by 0 s (omega arith) (omega arith)) (by 1 (s + 1) (omega arith) refl) (or_on (moved_of a m 0 s) (moved_of a m 1 (s + 1)) x u))
      (by 2 (s + 2) (omega arith) refl)
      (or_on (bit_or (moved_of a m 0 s) (moved_of a m 1 (s + 1))) (moved_of a m 2 (s + 2)) x h)
    where
      by : (i c : ℕ) → i < 3 → c ≡ s + i → bit (moved_of a m i c) x ≡ 1 → Struck a m s x
      by i c l e v = let t = moved_to a m i c x v in record { i = i; column = l; has = subst (λ (k : ℕ). bit m k ≡ 1) e t.0; far = t.1.0; cell = t.1.1 }

  strip_from : (i : ℕ) → i < 3 → bit m (s + i) ≡ 1 → bit a x ≡ 1 → x + i < 16 → bit (strip a m s) (x + i) ≡ 1
  unfolding strip
  strip_from zero l e h k = on_or_l (bit_or (moved_of a m 0 s) (moved_of a m 1 (s + 1))) (moved_of a m 2 (s + 2)) (x + 0)
      (on_or_l (moved_of a m 0 s) (moved_of a m 1 (s + 1)) (x + 0) (moved_from a m 0 s x (subst (λ (c : ℕ). bit m c ≡ 1) (omega arith) e) h k))
  strip_from (suc zero) l e h k = on_or_l (bit_or (moved_of a m 0 s) (moved_of a m 1 (s + 1))) (moved_of a m 2 (s + 2)) (x + 1)
      (on_or_r (moved_of a m 0 s) (moved_of a m 1 (s + 1)) (x + 1) (moved_from a m 1 (s + 1) x e h k))
  strip_from (suc (suc zero)) l e h k =
      on_or_r (bit_or (moved_of a m 0 s) (moved_of a m 1 (s + 1))) (moved_of a m 2 (s + 2)) (x + 2) (moved_from a m 2 (s + 2) x e h k)
  strip_from (suc (suc (suc i))) l e h k = absurd (omega arith)

-- ---- the sum of rows and a mask: row q is of the rows q, q − 1 and q − 2, which stand two rows on

-- what the mask's bits from s on make of row p
abbrev summed : List ℕ → ℕ → ℕ → ℕ → ℕ
summed u m p s = strip (get_or u p 0) m s

abbrev pub sum_row : List ℕ → ℕ → ℕ → ℕ
sum_row u m q = bit_or (bit_or (summed u m (q + 2) 0) (summed u m (q + 1) 3)) (summed u m q 6)

module _ (a u : List ℕ) (m : ℕ) (z : (get_or u 0 0 ≡ 0) × ((get_or u 1 0 ≡ 0) × ((q : ℕ) → get_or u (q + 2) 0 ≡ get_or a q 0))) where
  from_row : (x y j p s : ℕ) → j < 3 → s ≡ 3 * j → p + j ≡ y + 2 → Struck (get_or u p 0) m s x → Sum (At a) (AtMask m) x y
  from_row x y j zero s l f e t = absurd (no_bit (x - t.i) (ap (λ (n : ℕ). bit n (x - t.i)) (sym z.0) ∙ t.cell))
  from_row x y j (suc zero) s l f e t = absurd (no_bit (x - t.i) (ap (λ (n : ℕ). bit n (x - t.i)) (sym z.1.0) ∙ t.cell))
  from_row x y j (suc (suc q)) s l f e t =
      let g : suc (suc q) ≡ q + 2 = omega arith in
      let d : get_or u (suc (suc q)) 0 ≡ get_or a q 0 = ap (λ (n : ℕ). get_or u n 0) g ∙ z.1.1 q in
      let far = t.far in
      record {
        x1 = x - t.i;
        y1 = q;
        x2 = t.i;
        y2 = j;
        left = ap (λ (n : ℕ). bit n (x - t.i)) (sym d) ∙ t.cell;
        right = record { column = t.column; row = l; set = subst (λ (k : ℕ). bit m k ≡ 1) (omega arith) t.has };
        at_x = omega arith;
        at_y = omega arith;
      }

  row_bit : (p s j i x1 y1 : ℕ) → s ≡ 3 * j → p ≡ y1 + 2 → At a x1 y1 → AtMask m i j → x1 + i < 16 → bit (strip (get_or u p 0) m s) (x1 + i) ≡ 1
  row_bit p s j i x1 y1 e g h c l =
      strip_from (get_or u p 0) m s x1 i c.column (subst (λ (k : ℕ). bit m k ≡ 1) (omega arith) c.set)
      (ap (λ (n : ℕ). bit n x1) (ap (λ (n : ℕ). get_or u n 0) g ∙ z.1.1 y1) ∙ h) l

  in_row : (x1 y1 i j y : ℕ) → At a x1 y1 → AtMask m i j → x1 + i < 16 → y1 + j ≡ y → bit (sum_row u m y) (x1 + i) ≡ 1
  in_row x1 y1 i zero y h c l e =
      on_or_l (bit_or (summed u m (y + 2) 0) (summed u m (y + 1) 3)) (summed u m y 6) (x1 + i)
      (on_or_l (summed u m (y + 2) 0) (summed u m (y + 1) 3) (x1 + i) (row_bit (y + 2) 0 0 i x1 y1 refl (omega arith) h c l))
  in_row x1 y1 i (suc zero) y h c l e =
      on_or_l (bit_or (summed u m (y + 2) 0) (summed u m (y + 1) 3)) (summed u m y 6) (x1 + i)
      (on_or_r (summed u m (y + 2) 0) (summed u m (y + 1) 3) (x1 + i) (row_bit (y + 1) 3 1 i x1 y1 refl (omega arith) h c l))
  in_row x1 y1 i (suc (suc zero)) y h c l e =
      on_or_r (bit_or (summed u m (y + 2) 0) (summed u m (y + 1) 3)) (summed u m y 6) (x1 + i) (row_bit y 6 2 i x1 y1 refl (omega arith) h c l)
  in_row x1 y1 i (suc (suc (suc j))) y h c l e = let r = c.row in absurd (omega arith)

  pub grown_made : (r : List ℕ) → Filled (sum_row u m) (λ q. 0) 0 16 r → CutTo (Sum (At a) (AtMask m)) r
  grown_made r f = record {
    to = λ x y h. ⊎_elim
        (λ l. ⊎_elim
        (λ v. ⊎_elim
        (λ t. from_row x y 0 (y + 2) 0 (omega arith) refl (omega arith) (strip_to (get_or u (y + 2) 0) m 0 x t))
        (λ t. from_row x y 1 (y + 1) 3 (omega arith) refl (omega arith) (strip_to (get_or u (y + 1) 0) m 3 x t))
        (or_on (summed u m (y + 2) 0) (summed u m (y + 1) 3) x v))
        (λ t. from_row x y 2 y 6 (omega arith) refl (omega arith) (strip_to (get_or u y 0) m 6 x t))
        (or_on (bit_or (summed u m (y + 2) 0) (summed u m (y + 1) 3)) (summed u m y 6) x (ap (λ (n : ℕ). bit n x) (sym (f.inside y (omega arith) l)) ∙ h)))
        (λ l. absurd (no_bit x (ap (λ (n : ℕ). bit n x) (sym (f.after y l)) ∙ h)))
        (lt_or_le y 16);
    from = λ x y s l k.
        let e = s.at_x in
        subst (λ (n : ℕ). At r n y) e
        (ap (λ (n : ℕ). bit n (s.x1 + s.x2)) (f.inside y (omega arith) k)
        ∙ in_row s.x1 s.y1 s.x2 s.y2 y s.left s.right (omega arith) s.at_y);
  }

-- ---- residues: one cell of the mask, three of a row

module _ (t m i c x : ℕ) where
  held_to : bit (held_of t m i c) x ≡ 1 → bit m c ≡ 1 → bit t (i + x) ≡ 1
  held_to h e = ⊎_elim
      (λ v. sym (bit_shr t i x) ∙ v)
      (λ v. absurd (let g = span_on (1 - bit m c) x (omega arith) v in omega arith))
      (or_on (t / 2 ^ i) ((1 - bit m c) * 65535) x h)

  held_from : x < 16 → (bit m c ≡ 1 → bit t (i + x) ≡ 1) → bit (held_of t m i c) x ≡ 1
  held_from l f = ⊎_elim
      (λ v. on_or_r (t / 2 ^ i) ((1 - bit m c) * 65535) x (on_span (1 - bit m c) x (omega arith) l))
      (λ v. on_or_l (t / 2 ^ i) ((1 - bit m c) * 65535) x (bit_shr t i x ∙ f (omega arith)))
      (lt_or_le (bit m c) 1)

module _ (t m s x : ℕ) where
  hold_to : bit (hold t m s) x ≡ 1 → (i : ℕ) → i < 3 → bit m (s + i) ≡ 1 → bit t (i + x) ≡ 1
  unfolding hold
  hold_to h zero l e =
      held_to t m 0 s x
      (and_on_l (held_of t m 0 s) (held_of t m 1 (s + 1)) x (and_on_l (bit_and (held_of t m 0 s) (held_of t m 1 (s + 1))) (held_of t m 2 (s + 2)) x h))
      (subst (λ (c : ℕ). bit m c ≡ 1) (omega arith) e)
  hold_to h (suc zero) l e =
      held_to t m 1 (s + 1) x
      (and_on_r (held_of t m 0 s) (held_of t m 1 (s + 1)) x (and_on_l (bit_and (held_of t m 0 s) (held_of t m 1 (s + 1))) (held_of t m 2 (s + 2)) x h)) e
  hold_to h (suc (suc zero)) l e = held_to t m 2 (s + 2) x (and_on_r (bit_and (held_of t m 0 s) (held_of t m 1 (s + 1))) (held_of t m 2 (s + 2)) x h) e
  hold_to h (suc (suc (suc i))) l e = absurd (omega arith)

  hold_from : x < 16 → ((i : ℕ) → i < 3 → bit m (s + i) ≡ 1 → bit t (i + x) ≡ 1) → bit (hold t m s) x ≡ 1
  unfolding hold
  hold_from l f = on_and (bit_and (held_of t m 0 s) (held_of t m 1 (s + 1))) (held_of t m 2 (s + 2)) x
      (on_and (held_of t m 0 s) (held_of t m 1 (s + 1)) x
      (held_from t m 0 s x l (λ e. f 0 (omega arith) (subst (λ (c : ℕ). bit m c ≡ 1) (omega arith) e)))
      (held_from t m 1 (s + 1) x l (f 1 (omega arith))))
      (held_from t m 2 (s + 2) x l (f 2 (omega arith)))

-- ---- the residue of rows by a mask

-- what the mask's bits from s on leave of row p
abbrev left : List ℕ → ℕ → ℕ → ℕ → ℕ
left u m p s = hold (get_or u p 0) m s

abbrev pub rest_row : List ℕ → ℕ → ℕ → ℕ
rest_row u m q = bit_and (bit_and (left u m q 0) (left u m (q + 1) 3)) (left u m (q + 2) 6)

module _ (t u : List ℕ) (m : ℕ) (z : (q : ℕ) → get_or u q 0 ≡ get_or t q 0) where
  held_row : (x y i j p s : ℕ) → s ≡ 3 * j → p ≡ y + j → bit (hold (get_or u p 0) m s) x ≡ 1 → AtMask m i j → At t (x + i) (y + j)
  held_row x y i j p s e g h c =
      subst (λ (k : ℕ). At t (x + i) k) g
      (subst (λ (k : ℕ). bit (get_or t p 0) k ≡ 1) (add_comm i x)
      (ap (λ (n : ℕ). bit n (i + x)) (sym (z p)) ∙ hold_to (get_or u p 0) m s x h i c.column (subst (λ (k : ℕ). bit m k ≡ 1) (omega arith) c.set)))

  row_held : (x y i j : ℕ) → bit (rest_row u m y) x ≡ 1 → AtMask m i j → At t (x + i) (y + j)
  row_held x y i zero h c =
      held_row x y i 0 y 0 refl (omega arith)
      (and_on_l (left u m y 0) (left u m (y + 1) 3) x (and_on_l (bit_and (left u m y 0) (left u m (y + 1) 3)) (left u m (y + 2) 6) x h)) c
  row_held x y i (suc zero) h c =
      held_row x y i 1 (y + 1) 3 refl refl
      (and_on_r (left u m y 0) (left u m (y + 1) 3) x (and_on_l (bit_and (left u m y 0) (left u m (y + 1) 3)) (left u m (y + 2) 6) x h)) c
  row_held x y i (suc (suc zero)) h c = held_row x y i 2 (y + 2) 6 refl refl (and_on_r (bit_and (left u m y 0) (left u m (y + 1) 3)) (left u m (y + 2) 6) x h) c
  row_held x y i (suc (suc (suc j))) h c = let r = c.row in absurd (omega arith)

  row_from : (x y j p s : ℕ) → j < 3 → s ≡ 3 * j → p ≡ y + j → x < 16 → Residue (At t) (AtMask m) x y → bit (hold (get_or u p 0) m s) x ≡ 1
  row_from x y j p s r e g l h = hold_from (get_or u p 0) m s x l (λ i q b.
      ap (λ (n : ℕ). bit n (i + x)) (z p)
      ∙ subst (λ (k : ℕ). bit (get_or t k 0) (i + x) ≡ 1) (sym g)
      (subst (λ (k : ℕ). At t k (y + j)) (add_comm x i) (h.all i j (record { column = q; row = r; set = subst (λ (k : ℕ). bit m k ≡ 1) (omega arith) b }))))

  pub shrunk_made : (r : List ℕ) → Filled (rest_row u m) (λ q. 0) 0 16 r → CutTo (Residue (At t) (AtMask m)) r
  shrunk_made r f = record {
    to = λ x y h. ⊎_elim
        (λ l. record { all = λ i j c. row_held x y i j (ap (λ (n : ℕ). bit n x) (sym (f.inside y (omega arith) l)) ∙ h) c })
        (λ l. absurd (no_bit x (ap (λ (n : ℕ). bit n x) (sym (f.after y l)) ∙ h)))
        (lt_or_le y 16);
    from = λ x y h l k. ap (λ (n : ℕ). bit n x) (f.inside y (omega arith) k) ∙ on_and (bit_and (left u m y 0) (left u m (y + 1) 3)) (left u m (y + 2) 6) x
        (on_and (left u m y 0) (left u m (y + 1) 3) x (row_from x y 0 y 0 (omega arith) refl (omega arith) l h)
        (row_from x y 1 (y + 1) 3 (omega arith) refl refl l h))
        (row_from x y 2 (y + 2) 6 (omega arith) refl refl l h);
  }
