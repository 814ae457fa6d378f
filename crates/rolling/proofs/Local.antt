-- Locality: what an operation makes of a picture at a point depends on the cells that it covers there and on nothing else. Two pictures that are alike
-- around two points are alike there afterwards; so a part of a picture, at whatever place it stands, will do for the whole.
use mathlib.Core.Path.{◌≡◌, refl, sym, ◌∙◌, ap, subst}
use mathlib.Core.Logic.{◌↔◌, inl, inr}
use mathlib.Core.Bool.{Bool, true, false, not, ◌||◌}
use mathlib.Core.List.{List, [], ◌∷◌, map}
use Prim.Native.Nat.{ℕ, zero, suc, ◌≤◌}
use native.Mathlib.Omega.{arith}
use lib.Dec.{T, ltb, nltb→le}
use lib.IntN.{ℤ, pos, negsuc, ◌+ℤ◌, ◌-ℤ◌, neg_ℤ, nat_abs, neg_ℤ-+ℤ, neg_ℤ-neg_ℤ, +ℤ_comm}
use lib.Signed.{lt_z}
use Rattle.plane.specs.Extent.{x_of, y_of, span, width, height}
use Rattle.plane.specs.Lists.{In, any}
use Rattle.plane.specs.Point.{Point, PointSet, ◌+ᵖ◌, negᵖ, ◌-ᵖ◌}
use Rattle.plane.proofs.Algebra.{+ᵖ_assoc, +ᵖ_comm}
use Rattle.plane.proofs.Extents.{span_far}
use Rattle.plane.proofs.Member.{In-map, no_any}
use Rattle.plane.proofs.Tests.{not_or}
use Rattle.shapes.specs.Shape.{too_far, out_of_range}
use Rattle.grids.specs.Rules.{covered, Gives, Makes}
use Rattle.grids.proofs.Rules.{gives_once, gives_alike}
use Rattle.cleaning.specs.Operation.{Made}
use Rattle.cleaning.specs.declared.Operation.{Operation}
use Rattle.cleaning.specs.declared.Operation.TheVariants.{Dilation, Erosion, Opening, Closing}
use Rattle.rolling.specs.Rolling.{greatest_y}

-- ---- the cells covered

-- the cells covered at p are p − a for dilation and p + a for erosion; f around p is as g around q
abbrev pub Alike : Operation → PointSet → (Point → ℕ) → Point → (Point → ℕ) → Point → Type 0
Alike Dilation A f p g q = (a : Point) → A a → f (p -ᵖ a) ≡ g (q -ᵖ a)
Alike Erosion A f p g q = (a : Point) → A a → f (p +ᵖ a) ≡ g (q +ᵖ a)
Alike Opening A f p g q = (a b : Point) → A a → A b → f (p -ᵖ a +ᵖ b) ≡ g (q -ᵖ a +ᵖ b)
Alike Closing A f p g q = (a b : Point) → A a → A b → f (p +ᵖ a -ᵖ b) ≡ g (q +ᵖ a -ᵖ b)

-- by one rule
rule_alike : (erode : Bool) (A : PointSet) (f g f' g' : Point → ℕ) (p q : Point) → Makes erode A f f' → Makes erode A g g'
    → ((a : Point) → A a → f (covered erode p a) ≡ g (covered erode q a)) → f' p ≡ g' q
rule_alike erode A f g f' g' p q m n s = gives_once erode A g q (f' p) (g' q) (gives_alike erode A f g p q s (f' p) (m p)) (n q)

-- each of the four operations
pub alike : (op : Operation) (A : PointSet) (f g f' g' : Point → ℕ) (p q : Point) → Made op A f f' → Made op A g g' → Alike op A f p g q → f' p ≡ g' q
alike Dilation A f g f' g' p q m n s = rule_alike false A f g f' g' p q m n s
alike Erosion A f g f' g' p q m n s = rule_alike true A f g f' g' p q m n s
alike Opening A f g f' g' p q m n s =
    rule_alike false A m.0 n.0 f' g' p q m.2 n.2 (λ a h. rule_alike true A f g m.0 n.0 (p -ᵖ a) (q -ᵖ a) m.1 n.1 (λ b k. s a b h k))
alike Closing A f g f' g' p q m n s =
    rule_alike true A m.0 n.0 f' g' p q m.2 n.2 (λ a h. rule_alike false A f g m.0 n.0 (p +ᵖ a) (q +ᵖ a) m.1 n.1 (λ b k. s a b h k))

-- ---- within 15

-- d is no farther than n along either axis
abbrev pub Near : ℕ → Point → Type 0
Near n d = (nat_abs d.0 ≤ n) × (nat_abs d.1 ≤ n)

abs_neg : (z : ℤ) → nat_abs (neg_ℤ z) ≡ nat_abs z
abs_neg (pos zero) = refl
abs_neg (pos (suc n)) = refl
abs_neg (negsuc n) = refl

abs_both : (n : ℕ) (z : ℤ) → T (not (lt_z (pos n) z)) → T (not (lt_z (pos n) (neg_ℤ z))) → nat_abs z ≤ n
abs_both n (pos k) t u = nltb→le n k t
abs_both n (negsuc k) t u = nltb→le n (suc k) u

neg_diff : (u v : ℤ) → neg_ℤ (u -ℤ v) ≡ v -ℤ u
neg_diff u v = neg_ℤ-+ℤ u (neg_ℤ v) ∙ ap (λ z. neg_ℤ u +ℤ z) (neg_ℤ-neg_ℤ v) ∙ +ℤ_comm (neg_ℤ u) v

-- no two members are farther apart than the span
span_abs : (zs : List ℤ) (n : ℕ) (u v : ℤ) → In zs u → In zs v → span zs ≤ n → nat_abs (u -ℤ v) ≤ n
span_abs zs n u v h k l = abs_both n (u -ℤ v) (span_far zs u v n h k l) (subst (λ z. T (not (lt_z (pos n) z))) (sym (neg_diff u v)) (span_far zs v u n k h l))

-- points that pass ground 8: none is farther than 15, and no two are farther apart
module _ (P : List Point) (o : T (not (out_of_range P))) where
  sides : (span (map x_of P) ≤ 15) × (span (map y_of P) ≤ 15)
  unfolding out_of_range
  sides =
      let u = ((not_or (ltb 15 (width P) || ltb 15 (height P)) (any (λ p. too_far p.0 || too_far p.1) P)).0 o).0 in
      let v = (not_or (ltb 15 (width P)) (ltb 15 (height P))).0 u in
      (nltb→le 15 (width P) v.0, nltb→le 15 (height P) v.1)

  each : (a : Point) → In P a → Near 15 a
  unfolding out_of_range
  each a h =
      let u = ((not_or (ltb 15 (width P) || ltb 15 (height P)) (any (λ p. too_far p.0 || too_far p.1) P)).0 o).1 in
      let v = (not_or (too_far a.0) (too_far a.1)).0 (no_any (λ p. too_far p.0 || too_far p.1) P u a h) in
      (nltb→le 15 (nat_abs a.0) v.0, nltb→le 15 (nat_abs a.1) v.1)

  each_neg : (a : Point) → In P a → Near 15 (negᵖ a)
  unfolding negᵖ
  each_neg a h = let k = each a h in (subst (λ n. n ≤ 15) (sym (abs_neg a.0)) k.0, subst (λ n. n ≤ 15) (sym (abs_neg a.1)) k.1)

  two : (a b : Point) → In P a → In P b → Near 15 (a -ᵖ b)
  unfolding ◌+ᵖ◌ negᵖ
  two a b h k = (
    span_abs (map x_of P) 15 a.0 b.0 ((In-map x_of P a.0).1 (a, h, refl)) ((In-map x_of P b.0).1 (b, k, refl)) sides.0,
    span_abs (map y_of P) 15 a.1 b.1 ((In-map y_of P a.1).1 (a, h, refl)) ((In-map y_of P b.1).1 (b, k, refl)) sides.1,
  )

  -- pictures that are alike within 15 of p and of q are alike there after each of the four operations
  pub within : (op : Operation) (f g f' g' : Point → ℕ) (p q : Point) → Made op (In P) f f' → Made op (In P) g g'
      → ((d : Point) → Near 15 d → f (p +ᵖ d) ≡ g (q +ᵖ d)) → f' p ≡ g' q
  within op f g f' g' p q m n s = alike op (In P) f g f' g' p q m n (reached op)
    where
      at : (d e c : Point) → ((r : Point) → r +ᵖ d ≡ r +ᵖ e +ᵖ c) → Near 15 d → f (p +ᵖ e +ᵖ c) ≡ g (q +ᵖ e +ᵖ c)
      at d e c l k = ap f (sym (l p)) ∙ s d k ∙ ap g (l q)

      reached : (op : Operation) → Alike op (In P) f p g q
      reached Dilation = λ a h. s (negᵖ a) (each_neg a h)
      reached Erosion = λ a h. s a (each a h)
      reached Opening = λ a b h k. at (b -ᵖ a) (negᵖ a) b (λ r. ap (λ z. r +ᵖ z) (+ᵖ_comm b (negᵖ a)) ∙ sym (+ᵖ_assoc r (negᵖ a) b)) (two b a k h)
      reached Closing = λ a b h k. at (a -ᵖ b) a (negᵖ b) (λ r. sym (+ᵖ_assoc r a (negᵖ b))) (two a b h k)

-- ---- rows

pub greatest_y_lem : (P : List Point) (a : Point) → In P a → nat_abs a.1 ≤ greatest_y P
unfolding greatest_y
greatest_y_lem [] a h = elim h [ ]
greatest_y_lem (p ∷ P) a (inl e) = let q : nat_abs a.1 ≡ nat_abs p.1 = ap (λ z. nat_abs z.1) e in omega arith
greatest_y_lem (p ∷ P) a (inr h) = let r = greatest_y_lem P a h in omega arith

-- a dilation at a point depends on no row farther than the greatest |y|
pub within_rows : (P : List Point) (f g : Point → ℕ) (p q : Point) → ((d : Point) → nat_abs d.1 ≤ greatest_y P → f (p +ᵖ d) ≡ g (q +ᵖ d))
    → (v : ℕ) → Gives false (In P) f p v ↔ Gives false (In P) g q v
unfolding negᵖ
within_rows P f g p q s v =
    (gives_alike false (In P) f g p q (λ a h. near a h) v, gives_alike false (In P) g f q p (λ a h. sym (near a h)) v)
  where
    near : (a : Point) → In P a → f (p -ᵖ a) ≡ g (q -ᵖ a)
    near a h = s (negᵖ a) (subst (λ n. n ≤ greatest_y P) (sym (abs_neg a.1)) (greatest_y_lem P a h))
