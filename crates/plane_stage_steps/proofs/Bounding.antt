-- The rows of bytes above and below, the pads, and the last row, written one after the other, are the bytes that have no cell of the picture.
use mathlib.Core.Path.{◌≡◌, refl, ap, ◌∙◌}
use mathlib.Core.Logic.{⊎_elim}
use mathlib.Core.Bool.{cond}
use mathlib.Core.List.{List}
use Prim.Native.Nat.{ℕ, ◌+◌, ◌-◌, ◌*◌, ◌<◌, ◌≤◌, zero-le}
use native.Mathlib.Nat.{add-mul, mul-le-mul_right}
use native.Mathlib.Omega.{arith}
use lib.Dec.{ltb}
use lib.ListN.{length, get_or}
use borrow.Author.Tests.{lt-ltb}
use borrow.Rule.Slice.PartMut.{mid_of, put_mid}
use Rattle.plane.proofs.Tests.{lt_or_le}
use Rattle.rows.specs.Cells.{bit}
use Rattle.ranges.specs.Ranges.{Ranged}
use Rattle.ranges.proofs.Ranges.{get_d_mid, ranged_part}
use Rattle.ranges.proofs.FlatRows.{rows_apart}
use Rattle.planes.specs.Bytes.{Bitted}
use Rattle.planes.proofs.Bitting.{bitted_part, bitted_ap}
use Rattle.plane_stage_steps.specs.Bounds.{trimmed_bit, Padded, Bounded}

-- a part trimmed, and all bits kept
pub trimmed_part : (r v : ℕ) {a e : ℕ} {xs ys : List ℕ} → a ≤ e → e ≤ length xs
    → Bitted 0 (length (mid_of a (e - a) xs)) (trimmed_bit r v (mid_of a (e - a) xs)) (mid_of a (e - a) xs) ys
    → Bitted a e (trimmed_bit r v xs) xs (put_mid a (e - a) xs ys)
trimmed_part r v {a} {e} {xs} h g t =
    bitted_ap (bitted_part h g t)
    (λ k q lo hi lq.
    let i : a + (k - a) ≡ k = omega arith in
    ap (λ (n : ℕ). cond (ltb q r) (bit n q) (bit v q)) (get_d_mid 0 a (e - a) xs (k - a) (omega arith) ∙ ap (λ (n : ℕ). get_or xs n 0) i))

pub trimmed_none : (v a e : ℕ) (d : List ℕ) → Bitted a e (trimmed_bit 8 v d) d d
trimmed_none v a e d = record { len = refl; at = λ k q lo hi lq. rw (lt-ltb q 8 lq); below = λ k l. refl; above = λ k l. refl }

module _ (s n r v : ℕ) {d d₁ d₂ d₃ d₄ : List ℕ} (h : 2 ≤ s) (m : 0 < n)
    (f : Ranged 0 0 (s + 2) (λ _. v) d d₁) (g : Ranged 0 (n * s + s) (n * s + 2 * s + 2) (λ _. v) d₁ d₂) (p : Padded s n v d₂ d₃)
    (t : Bitted (n * s + 2) (n * s + s) (trimmed_bit r v d₃) d₃ d₄) where
  one_row : s ≤ n * s
  one_row = let a : 1 * s ≤ n * s = mul-le-mul_right s m in omega arith

  kept : (u x : ℕ) → 0 < u → u ≤ n → 2 ≤ x → x < s → get_or d₃ (u * s + x) 0 ≡ get_or d (u * s + x) 0
  kept u x lo hi lx hx =
      let a : 1 * s ≤ u * s = mul-le-mul_right s lo in
      let b : u * s ≤ n * s = mul-le-mul_right s hi in
      p.rest u x lx hx ∙ g.below (u * s + x) (omega arith) ∙ f.above (u * s + x) (omega arith)

  pub bounded : Bounded s n r v d d₄
  bounded = record {
    len = t.len ∙ p.len ∙ g.len ∙ f.len;
    over = λ k l. t.below k (omega (arith, one_row)) ∙ ⊎_elim
        (λ (u : k < s). p.below k u ∙ g.below k (omega (arith, one_row)) ∙ f.at k (omega arith) l)
        (λ (u : s ≤ k). let e : k ≡ 1 * s + (k - s) = omega arith in ap (λ (i : ℕ). get_or d₃ i 0) e ∙ p.at 1 (k - s) (omega arith) m (omega arith))
        (lt_or_le k s);
    under = λ k lo hi. let a = add-mul n 1 s in
        let b = add-mul n 2 s in t.above k (omega arith) ∙ p.above k (omega arith) ∙ g.at k (omega arith) (omega arith);
    side = λ u x lo hi lx. let b : u * s ≤ n * s = mul-le-mul_right s hi in t.below (u * s + x) (omega arith) ∙ p.at u x lo hi lx;
    inner = λ u x lo hi lx hx. let b = rows_apart s u n hi in t.below (u * s + x) (omega arith) ∙ kept u x lo (omega arith) lx hx;
    last = λ x q lx hx lq.
        t.at (n * s + x) q (omega arith) (omega arith) lq
        ∙ ap (λ (i : ℕ). cond (ltb q r) (bit i q) (bit v q)) (kept n x m (omega arith) lx hx);
    past = λ k l. let a = add-mul n 2 s in t.above k (omega arith) ∙ p.above k (omega arith) ∙ g.above k (omega arith) ∙ f.above k (omega (arith, one_row));
  }

-- the same, from what was written to the two parts of d and to the pads. The last row comes from where it is known to be there.
pub bounds_made : (s n r v : ℕ) {d y₁ y₂ d₃ d₄ : List ℕ} → 2 ≤ s → 0 < n → (n + 2) * s + 2 ≤ length d
    → Ranged 0 0 (length (mid_of 0 (s + 2 - 0) d)) (λ _. v) (mid_of 0 (s + 2 - 0) d) y₁
    → Ranged 0 0 (length (mid_of (n * s + s) (n * s + 2 * s + 2 - (n * s + s)) (put_mid 0 (s + 2 - 0) d y₁))) (λ _. v)
    (mid_of (n * s + s) (n * s + 2 * s + 2 - (n * s + s)) (put_mid 0 (s + 2 - 0) d y₁)) y₂
    → Padded s n v (put_mid (n * s + s) (n * s + 2 * s + 2 - (n * s + s)) (put_mid 0 (s + 2 - 0) d y₁) y₂) d₃
    → (n * s + 2 ≤ n * s + s → n * s + s ≤ length d₃ → Bitted (n * s + 2) (n * s + s) (trimmed_bit r v d₃) d₃ d₄) → Bounded s n r v d d₄
bounds_made s n r v {d} h m fits f₁ f₂ p t =
    let a = add-mul n 2 s in
    let f = ranged_part {a = 0} {e = s + 2} {xs = d} zero-le (omega arith) f₁ in
    let g = ranged_part {a = n * s + s} {e = n * s + 2 * s + 2} (omega arith) (omega (arith, f.len)) f₂ in
    bounded s n r v h m f g p (t (omega arith) (omega (arith, p.len, g.len, f.len)))
