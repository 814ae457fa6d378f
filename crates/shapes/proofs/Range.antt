-- Ground 8 from the corner and the extents: points are in range exactly where no extent is above 15 and neither end of a coordinate is too far from 0.
-- A point strictly between the ends is not too far, because its two ends are not.
use mathlib.Core.Path.{◌≡◌, refl, sym, ◌∙◌, ap, ap₂, subst}
use mathlib.Core.Logic.{◌⊎◌, inl, inr}
use mathlib.Core.Bool.{Bool, ◌||◌}
use mathlib.Core.List.{List, [], ◌∷◌, map}
use Prim.Native.Nat.{ℕ, suc, ◌+◌, ◌-◌, ◌≤◌, ◌<◌}
use native.Mathlib.Omega.{arith}
use native.Mathlib.Decide.{dec_le}
use lib.Dec.{T, ltb, ltb→lt, lt→ltb, leb→le}
use lib.IntN.{ℤ, pos, negsuc, ◌+ℤ◌, ◌-ℤ◌, neg_ℤ, +ℤ_assoc, +ℤ_comm}
use lib.Signed.{◌≤ℤ◌}
use Rattle.plane.specs.Extent.{x_of, y_of, least, span, corner, width, height, Extent}
use Rattle.plane.specs.Lists.{In, any}
use Rattle.plane.specs.Point.{Point, ◌≐◌}
use Rattle.plane.proofs.Extents.{least_at, least_same, list_extent, extent_once, extent_same}
use Rattle.plane.proofs.Integer.{diff_ge, diff_lt}
use Rattle.plane.proofs.Member.{In-any, In-map}
use Rattle.plane.proofs.Tests.{T_or, same_test}
use Rattle.shapes.specs.Shape.{too_far, out_of_range}

-- a coordinate that starts at z and goes on for n is too far from 0 at one of its ends
abbrev pub offside : ℤ → ℕ → Bool
offside z n = too_far z || too_far (z +ℤ pos n)

-- ---- from the corner and the extents

-- what is too far is below 0 or not: the end on the same side is too far with it
between : (a u b : ℤ) → a ≤ℤ u → u ≤ℤ b → T (too_far u) → T (too_far a) ⊎ T (too_far b)
between a (pos m) (pos k) h l t = let q = leb→le m k l.le in let r = ltb→lt 15 m t in inr (lt→ltb 15 k (omega arith))
between a (pos m) (negsuc k) h l t = absurd l.le
between (pos k) (negsuc m) b h l t = absurd h.le
between (negsuc k) (negsuc m) b h l t = let q = leb→le m k h.le in let r = ltb→lt 15 (suc m) t in inl (lt→ltb 15 (suc k) (omega arith))

module _ (axis : Point → ℤ) (A : List Point) (z : ℤ) (n : ℕ) (c : least (map axis A) ≡ z) (E : Extent axis (In A) n) where
  -- the extent of the list
  span_of : span (map axis A) ≡ n
  span_of = extent_once axis (In A) (span (map axis A)) n (list_extent axis A E.low E.low_in) E

  low_at : axis E.low ≡ z
  low_at = sym (least_at (map axis A) (axis E.low) ((In-map axis A (axis E.low)).1 (E.low, E.low_in, refl)) below) ∙ c
    where
      below : (y : ℤ) → In (map axis A) y → axis E.low ≤ℤ y
      below y h = let r = (In-map axis A y).0 h in subst (λ x. axis E.low ≤ℤ x) (sym r.2) (E.low_least r.0 r.1)

  high_at : axis E.high ≡ z +ℤ pos n
  high_at = E.size ∙ ap (λ x. x +ℤ pos n) low_at

  -- a point that is too far makes an end too far
  far_end : (p : Point) → In A p → T (too_far (axis p)) → T (offside z n)
  far_end p h t =
      (T_or (too_far z) (too_far (z +ℤ pos n))).1
      (between z (axis p) (z +ℤ pos n) (subst (λ x. x ≤ℤ axis p) low_at (E.low_least p h)) (subst (λ x. axis p ≤ℤ x) high_at (E.high_greatest p h)) t)

  -- an end that is too far is a point's
  end_far : T (offside z n) → (p : Point) × In A p × T (too_far (axis p))
  end_far t = go ((T_or (too_far z) (too_far (z +ℤ pos n))).0 t)
    where
      go : T (too_far z) ⊎ T (too_far (z +ℤ pos n)) → (p : Point) × In A p × T (too_far (axis p))
      go (inl u) = (E.low, E.low_in, subst (λ x. T (too_far x)) (sym low_at) u)
      go (inr u) = (E.high, E.high_in, subst (λ x. T (too_far x)) (sym high_at) u)

-- ground 8 from the corner and the extents
pub range_is : (A : List Point) (d : Point) (w h : ℕ) → corner A ≡ d → Extent x_of (In A) w → Extent y_of (In A) h
    → out_of_range A ≡ (ltb 15 w || ltb 15 h || (offside d.0 w || offside d.1 h))
unfolding out_of_range
range_is A d w h c W H = ap₂ (λ a b. a || b) (ap₂ (λ m n. ltb 15 m || ltb 15 n) (span_of x_of A d.0 w cx W) (span_of y_of A d.1 h cy H)) ends
  where
    cx : least (map x_of A) ≡ d.0
    cx = ap (λ p. p.0) c

    cy : least (map y_of A) ≡ d.1
    cy = ap (λ p. p.1) c

    far : Point → Bool
    far p = too_far p.0 || too_far p.1

    ends : any far A ≡ (offside d.0 w || offside d.1 h)
    ends = same_test (any far A) (offside d.0 w || offside d.1 h) to from
      where
        to : T (any far A) → T (offside d.0 w || offside d.1 h)
        to t =
            let r = (In-any far A).0 t in
            (T_or (offside d.0 w) (offside d.1 h)).1 (pick r.0 r.1 ((T_or (too_far r.0.0) (too_far r.0.1)).0 r.2))
          where
            pick : (p : Point) → In A p → T (too_far p.0) ⊎ T (too_far p.1) → T (offside d.0 w) ⊎ T (offside d.1 h)
            pick p k (inl u) = inl (far_end x_of A d.0 w cx W p k u)
            pick p k (inr u) = inr (far_end y_of A d.1 h cy H p k u)

        from : T (offside d.0 w || offside d.1 h) → T (any far A)
        from t = (In-any far A).1 (pick ((T_or (offside d.0 w) (offside d.1 h)).0 t))
          where
            pick : T (offside d.0 w) ⊎ T (offside d.1 h) → (p : Point) × In A p × T (far p)
            pick (inl u) = let r = end_far x_of A d.0 w cx W u in (r.0, r.1, (T_or (too_far r.0.0) (too_far r.0.1)).1 (inl r.2))
            pick (inr u) = let r = end_far y_of A d.1 h cy H u in (r.0, r.1, (T_or (too_far r.0.0) (too_far r.0.1)).1 (inr r.2))

-- ---- equal sets of points

pub corner_same : (A B : List Point) → In A ≐ In B → corner A ≡ corner B
corner_same A B e = λ i. (one x_of i, one y_of i)
  where
    into : (axis : Point → ℤ) (A B : List Point) → ((p : Point) → In A p → In B p) → (z : ℤ) → In (map axis A) z → In (map axis B) z
    into axis A B f z h = let r = (In-map axis A z).0 h in (In-map axis B z).1 (r.0, f r.0 r.1, r.2)

    one : (axis : Point → ℤ) → least (map axis A) ≡ least (map axis B)
    one axis = least_same (map axis A) (map axis B) (λ z. (into axis A B (λ p. (e p).0) z, into axis B A (λ p. (e p).1) z))

-- they are in range alike
pub range_same : (A B : List Point) → In A ≐ In B → out_of_range A ≡ out_of_range B
range_same [] [] e = refl
range_same [] (q ∷ B) e = absurd ((e q).1 (inl refl))
range_same (p ∷ A) B e =
    let C = p ∷ A in
    let W = list_extent x_of C p (inl refl) in
    let H = list_extent y_of C p (inl refl) in
    range_is C (corner C) (width C) (height C) refl W H
    ∙ sym (range_is B (corner C) (width C) (height C) (sym (corner_same C B e)) (extent_same x_of (In C) (In B) (width C) e W)
    (extent_same y_of (In C) (In B) (height C) e H))

-- ---- a coordinate that is biased by 15

ltb_same : (a b c d : ℕ) → (a < b → c < d) → (c < d → a < b) → ltb a b ≡ ltb c d
ltb_same a b c d f g = same_test (ltb a b) (ltb c d) (λ t. lt→ltb c d (f (ltb→lt a b t))) (λ t. lt→ltb a b (g (ltb→lt c d t)))

pub biased_far : (x : ℕ) → too_far (pos x -ℤ pos 15) ≡ ltb 30 x
biased_far x = go (dec_le 15 x)
  where
    go : Dec (15 ≤ x) → too_far (pos x -ℤ pos 15) ≡ ltb 30 x
    go (yes h) = ap too_far (diff_ge x 15 h) ∙ ltb_same 15 (x - 15) 30 x (λ l. omega arith) (λ l. omega arith)
    go (no h) = let k : x < 15 = omega arith in ap too_far (diff_lt x 15 k) ∙ ltb_same 15 (suc (15 - suc x)) 30 x (λ l. omega arith) (λ l. omega arith)

pub biased_offside : (x n : ℕ) → offside (pos x -ℤ pos 15) n ≡ ltb 30 (x + n)
biased_offside x n = ap₂ (λ a b. a || b) (biased_far x) (ap too_far shift ∙ biased_far (x + n)) ∙ wider
  where
    shift : (pos x -ℤ pos 15) +ℤ pos n ≡ pos (x + n) -ℤ pos 15
    shift = +ℤ_assoc (pos x) (neg_ℤ (pos 15)) (pos n) ∙ ap (λ z. pos x +ℤ z) (+ℤ_comm (neg_ℤ (pos 15)) (pos n)) ∙ sym (+ℤ_assoc (pos x) (pos n) (neg_ℤ (pos 15)))

    wider : (ltb 30 x || ltb 30 (x + n)) ≡ ltb 30 (x + n)
    wider =
        same_test (ltb 30 x || ltb 30 (x + n)) (ltb 30 (x + n)) (λ t. pick ((T_or (ltb 30 x) (ltb 30 (x + n))).0 t))
        (λ t. (T_or (ltb 30 x) (ltb 30 (x + n))).1 (inr t))
      where
        pick : T (ltb 30 x) ⊎ T (ltb 30 (x + n)) → T (ltb 30 (x + n))
        pick (inl t) = let l = ltb→lt 30 x t in lt→ltb 30 (x + n) (omega arith)
        pick (inr t) = t
