-- Laws of `Ranged`: what a loop, a part and a chain of changes do to the cells of an image. They hold at any type of cell.
use mathlib.Core.Path.{◌≡◌, refl, sym, ap, ◌∙◌, subst}
use mathlib.Core.Logic.{⊎_elim}
use mathlib.Core.List.{List, ◌++◌}
use Prim.Native.Nat.{ℕ, ◌+◌, ◌-◌, ◌<◌, ◌≤◌, min}
use native.Mathlib.Omega.{arith}
use lib.ListN.{length, take, drop, get_or, get_or-append}
use lib.Seq.{get_or-take, get_or-drop, get_or-append-add, length-take-le}
use borrow.Rule.Slice.PartMut.{mid_of, post_of, put_mid, same_len_mid, mid_len}
use Rattle.plane.proofs.Tests.{lt_or_le}
use Rattle.ranges.specs.Ranges.{Ranged}

module _ {A : Type 0} (z : A) where
  -- the cells of a part
  pub get_d_mid : (a k : ℕ) (xs : List A) (j : ℕ) → j < k → get_or (mid_of a k xs) j z ≡ get_or xs (a + j) z
  get_d_mid a k xs j l = get_or-take k (drop a xs) j z l ∙ get_or-drop a xs j z

  -- the cells of a whole whose part has come back as ys
  module _ (a k : ℕ) (xs ys : List A) (h : a ≤ length xs) where
    put_before : (j : ℕ) → j < a → get_or (put_mid a k xs ys) j z ≡ get_or xs j z
    put_before j l =
        get_or-append (take a xs) (ys ++ post_of a k xs) z j (omega (arith, length-take-le a xs h)) ∙ get_or-take a xs j z l

    put_at : (j : ℕ) → get_or (put_mid a k xs ys) (a + j) z ≡ get_or (ys ++ post_of a k xs) j z
    put_at j = ap (λ (n : ℕ). get_or (put_mid a k xs ys) (n + j) z) (sym (length-take-le a xs h)) ∙ get_or-append-add (take a xs) (ys ++ post_of a k xs) j z

    put_in : (j : ℕ) → j < length ys → get_or (put_mid a k xs ys) (a + j) z ≡ get_or ys j z
    put_in j l = put_at j ∙ get_or-append ys (post_of a k xs) z j l

    put_after : (j : ℕ) → length ys ≡ k → get_or (put_mid a k xs ys) (a + (k + j)) z ≡ get_or xs (a + (k + j)) z
    put_after j e =
        put_at (k + j)
        ∙ ap (λ (n : ℕ). get_or (ys ++ post_of a k xs) (n + j) z) (sym e)
        ∙ get_or-append-add ys (post_of a k xs) j z
        ∙ get_or-drop k (drop a xs) j z
        ∙ get_or-drop a xs (k + j) z

module _ {A : Type 0} {z : A} where
  -- before the first store
  pub ranged_none : (p : ℕ) (f : ℕ → A) (d : List A) → Ranged z p p f d d
  ranged_none p f d = record { len = refl; at = λ k l u. absurd (omega arith); below = λ k l. refl; above = λ k l. refl }

  -- the same range at another account of its cells
  pub ranged_ap : {p e : ℕ} {f g : ℕ → A} {d d' : List A} → Ranged z p e f d d' → ((k : ℕ) → p ≤ k → k < e → f k ≡ g k) → Ranged z p e g d d'
  ranged_ap r q = record { len = r.len; at = λ k l u. r.at k l u ∙ q k l u; below = r.below; above = r.above }

  -- one range after the other, which may begin before the first one ends
  pub ranged_lap : {p c m e : ℕ} {f : ℕ → A} {d d' d'' : List A} → Ranged z p m f d d' → Ranged z c e f d' d'' → p ≤ c → c ≤ m → m ≤ e → Ranged z p e f d d''
  ranged_lap {p} {c} {m} {e} {f} {d} {d'} {d''} r s h g i = record {
    len = s.len ∙ r.len;
    at = λ k l u. ⊎_elim (λ (v : k < c). s.below k v ∙ r.at k l (omega arith)) (λ (v : c ≤ k). s.at k v u) (lt_or_le k c);
    below = λ k u. s.below k (omega arith) ∙ r.below k u;
    above = λ k u. s.above k u ∙ r.above k (omega arith);
  }

  pub ranged_join : {p m e : ℕ} {f : ℕ → A} {d d' d'' : List A} → Ranged z p m f d d' → Ranged z m e f d' d'' → p ≤ m → m ≤ e → Ranged z p e f d d''
  ranged_join r s h i = ranged_lap r s h (omega arith) i

  -- a part, changed whole, and put back
  pub ranged_part : {a e : ℕ} {f : ℕ → A} {xs ys : List A} → a ≤ e → e ≤ length xs
      → Ranged z 0 (length (mid_of a (e - a) xs)) f (mid_of a (e - a) xs) ys → Ranged z a e (λ k. f (k - a)) xs (put_mid a (e - a) xs ys)
  ranged_part {a} {e} {f} {xs} {ys} h g r =
      let n : length (mid_of a (e - a) xs) ≡ e - a = mid_len a e xs g in
      let l : length ys ≡ e - a = r.len ∙ n in record {
        len = same_len_mid a (e - a) xs ys r.len;
        at = λ k lo hi.
            let q : a + (k - a) ≡ k = omega arith in
            subst (λ (m : ℕ). get_or (put_mid a (e - a) xs ys) m z ≡ f (k - a)) q
            (put_in z a (e - a) xs ys (omega arith) (k - a) (omega arith) ∙ r.at (k - a) (omega arith) (omega arith));
        below = λ k u. put_before z a (e - a) xs ys (omega arith) k u;
        above = λ k u.
            let q : a + (e - a + (k - e)) ≡ k = omega arith in
            subst (λ (m : ℕ). get_or (put_mid a (e - a) xs ys) m z ≡ get_or xs m z) q (put_after z a (e - a) xs ys (omega arith) (k - e) l);
      }

  -- a part copied from a part of another list that is no shorter
  pub ranged_copy : (c b : ℕ) (ss : List A) {a e : ℕ} {xs ys : List A} → a ≤ e → e ≤ length xs → b ≤ length ss → e - a ≤ b - c
      → Ranged z 0 (min (length (mid_of a (e - a) xs)) (length (mid_of c (b - c) ss))) (λ k. get_or (mid_of c (b - c) ss) k z) (mid_of a (e - a) xs) ys
      → Ranged z a e (λ k. get_or ss (c + (k - a)) z) xs (put_mid a (e - a) xs ys)
  ranged_copy c b ss {a} {e} {xs} {ys} h g l u r =
      let m : length (mid_of a (e - a) xs) ≡ e - a = mid_len a e xs g in
      let n : length (mid_of c (b - c) ss) ≡ b - c = mid_len c b ss l in
      let q : min (length (mid_of a (e - a) xs)) (length (mid_of c (b - c) ss)) ≡ length (mid_of a (e - a) xs) = omega arith in
      ranged_ap
      (ranged_part h g (subst (λ (i : ℕ). Ranged z 0 i (λ k. get_or (mid_of c (b - c) ss) k z) (mid_of a (e - a) xs) ys) q r))
      (λ k lo hi. get_d_mid z c (b - c) ss (k - a) (omega arith))
