-- Laws of `Bitted`: what a loop and a part do to the bits of a run of bytes.
use mathlib.Core.Path.{◌≡◌, refl, sym, ap, ◌∙◌, subst}
use mathlib.Core.Logic.{⊎_elim}
use mathlib.Core.List.{List}
use Prim.Native.Nat.{ℕ, ◌+◌, ◌-◌, ◌<◌, ◌≤◌}
use native.Mathlib.Omega.{arith}
use lib.ListN.{length, get_or, set, length-set}
use lib.Seq.{get_or-set_same, get_or-set_other}
use borrow.Rule.Slice.PartMut.{mid_of, put_mid, mid_len}
use Rattle.plane.proofs.Tests.{lt_or_le}
use Rattle.rows.specs.Cells.{bit}
use Rattle.ranges.specs.Ranges.{Ranged}
use Rattle.ranges.proofs.Ranges.{ranged_part}
use Rattle.planes.specs.Bytes.{Bitted}

-- a store at the end of the run makes it longer by one
pub bitted_more : {i : ℕ} {F : ℕ → ℕ → ℕ} {d d' : List ℕ} (v : ℕ) → Bitted 0 i F d d' → i < length d → ((q : ℕ) → q < 8 → bit v q ≡ F i q)
    → Bitted 0 (i + 1) F d (set d' i v)
bitted_more {i} {F} {d} {d'} v r l e = record {
  len = length-set d' i v ∙ r.len;
  at = λ k q lo hi lq. ⊎_elim
      (λ (u : k < i). ap (λ (n : ℕ). bit n q) (get_or-set_other d' i k v 0 (λ (z : k ≡ i). omega arith)) ∙ r.at k q lo u lq)
      (λ (u : i ≤ k). let z : k ≡ i = omega arith in
      subst (λ (m : ℕ). bit (get_or (set d' i v) m 0) q ≡ F m q) (sym z) (ap (λ (n : ℕ). bit n q) (get_or-set_same d' i v 0 (omega (arith, r.len))) ∙ e q lq))
      (lt_or_le k i);
  below = λ k u. absurd (omega arith);
  above = λ k u. get_or-set_other d' i k v 0 (λ (z : k ≡ i). omega arith) ∙ r.above k (omega arith);
}

-- a part, changed whole, and put back
pub bitted_part : {a e : ℕ} {F : ℕ → ℕ → ℕ} {xs ys : List ℕ} → a ≤ e → e ≤ length xs
    → Bitted 0 (length (mid_of a (e - a) xs)) F (mid_of a (e - a) xs) ys → Bitted a e (λ k. F (k - a)) xs (put_mid a (e - a) xs ys)
bitted_part {a} {e} {F} {xs} {ys} h g r =
    let s : Ranged 0 a e (λ k. get_or ys (k - a) 0) xs (put_mid a (e - a) xs ys) =
    ranged_part {f = λ (k : ℕ). get_or ys k 0} {xs = xs} {ys = ys} h g (record { len = r.len; at = λ k l u. refl; below = r.below; above = r.above }) in
    record {
      len = s.len;
      at = λ k q lo hi lq. ap (λ (n : ℕ). bit n q) (s.at k lo hi) ∙ r.at (k - a) q (omega arith) (within k lo hi) lq;
      below = s.below;
      above = s.above;
    }
  where
    within : (k : ℕ) → a ≤ k → k < e → k - a < length (mid_of a (e - a) xs)
    within k lo hi = omega (arith, mid_len a e xs g)

-- the same run at another account of its bits
pub bitted_ap : {p e : ℕ} {F G : ℕ → ℕ → ℕ} {d d' : List ℕ} → Bitted p e F d d' → ((k q : ℕ) → p ≤ k → k < e → q < 8 → F k q ≡ G k q) → Bitted p e G d d'
bitted_ap r h = record { len = r.len; at = λ k q lo hi l. r.at k q lo hi l ∙ h k q lo hi l; below = r.below; above = r.above }

-- a run from 0 on, and then one that begins before it ends
pub bitted_lap : {c m e : ℕ} {F : ℕ → ℕ → ℕ} {d d' d'' : List ℕ} → Bitted 0 m F d d' → Bitted c e F d' d'' → c ≤ m → m ≤ e → Bitted 0 e F d d''
bitted_lap {c} {m} {e} r s g i = record {
  len = s.len ∙ r.len;
  at = λ k q l u lq. ⊎_elim (λ (v : k < c). ap (λ (n : ℕ). bit n q) (s.below k v) ∙ r.at k q l (omega arith) lq) (λ (v : c ≤ k). s.at k q v u lq)
      (lt_or_le k c);
  below = λ k u. absurd (omega arith);
  above = λ k u. s.above k u ∙ r.above k (omega arith);
}
