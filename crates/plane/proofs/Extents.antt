-- The least, the greatest and the span of a list of integers, and the extents of sets of points: the extents of a sum are the sums of the extents,
-- and an extent does not change where the set is moved.
use mathlib.Core.Path.{◌≡◌, refl, sym, ◌∙◌, ap, subst}
use mathlib.Core.Logic.{◌↔◌, ◌⊎◌, inl, inr}
use mathlib.Core.Bool.{not, cond}
use mathlib.Core.List.{List, [], ◌∷◌, map}
use Prim.Native.Nat.{ℕ, ◌+◌, ◌≤◌, zero-le}
use native.Mathlib.Nat.{add-zero}
use lib.Dec.{T, le→leb, nltb→le}
use lib.IntN.{ℤ, pos, ◌+ℤ◌, ◌-ℤ◌, neg_ℤ, nat_abs, +ℤ_idr}
use lib.Signed.{lt_z, ◌≤ℤ◌, ≤ℤ_refl, lt_z_no}
use Rattle.plane.specs.Extent.{x_of, y_of, least, greatest, span, Extent}
use Rattle.plane.specs.Lists.{In}
use Rattle.plane.specs.Point.{Point, PointSet, ◌+ᵖ◌, ◌≐◌, ◌⊕◌, moved, only}
use Rattle.plane.proofs.Algebra.{⊕_only}
use Rattle.plane.proofs.Integer.{+ℤ_swap, +ℤ_less, ≤ℤ_trans, ≤ℤ_antisym, ≤ℤ_add, ≤ℤ_diff, lt_z_le, ≤ℤ_nlt_z}
use Rattle.plane.proofs.Member.{In-map}
use Rattle.plane.proofs.Tests.{cond_ind}

-- ---- the least and the greatest

-- w is z or r, and stands in the order before both
abbrev First : (ℤ → ℤ → Type 0) → ℤ → ℤ → ℤ → Type 0
First R z r w = ((w ≡ z) ⊎ (w ≡ r)) × R w z × R w r

-- f takes the first of two at each step
record Firsts (R : ℤ → ℤ → Type 0) (f : List ℤ → ℤ) : Type 0 where
  same : (a : ℤ) → R a a
  over : (a b c : ℤ) → R a b → R b c → R a c
  one : (z : ℤ) → f (z ∷ []) ≡ z
  more : (z y : ℤ) (zs : List ℤ) → First R z (f (y ∷ zs)) (f (z ∷ y ∷ zs))

-- then it gives a member that stands before all
module _ {R : ℤ → ℤ → Type 0} {f : List ℤ → ℤ} (F : Firsts R f) where
  first_in : (zs : List ℤ) (z : ℤ) → In zs z → In zs (f zs)
  first_in [] z h = elim h [ ]
  first_in (y ∷ []) z h = inl (F.one y)
  first_in (y ∷ x ∷ zs) z h = pick (first_in (x ∷ zs) x (inl refl)) (F.more y x zs).0
    where
      pick : {w r : ℤ} → In (x ∷ zs) r → (w ≡ y) ⊎ (w ≡ r) → In (y ∷ x ∷ zs) w
      pick k (inl e) = inl e
      pick k (inr e) = inr (subst (In (x ∷ zs)) (sym e) k)

  first_before : (zs : List ℤ) (z : ℤ) → In zs z → R (f zs) z
  first_before [] z h = elim h [ ]
  first_before (y ∷ []) z (inr h) = elim h [ ]
  first_before (y ∷ []) z (inl e) = subst (R (f (y ∷ []))) (F.one y ∙ sym e) (F.same (f (y ∷ [])))
  first_before (y ∷ x ∷ zs) z (inl e) = subst (R (f (y ∷ x ∷ zs))) (sym e) (F.more y x zs).1
  first_before (y ∷ x ∷ zs) z (inr h) = F.over (f (y ∷ x ∷ zs)) (f (x ∷ zs)) z (F.more y x zs).2 (first_before (x ∷ zs) z h)

least_first : Firsts ◌≤ℤ◌ least
unfolding least
least_first = record { same = ≤ℤ_refl; over = ≤ℤ_trans; one = λ z. refl; more = λ z y zs. lesser z (least (y ∷ zs)) }
  where
    lesser : (z l : ℤ) → First ◌≤ℤ◌ z l (cond (lt_z z l) z l)
    lesser z l = cond_ind (lt_z z l) z l (First ◌≤ℤ◌ z l) (λ t. (inl refl, ≤ℤ_refl z, lt_z_le z l t)) (λ t. (inr refl, lt_z_no t, ≤ℤ_refl l))

greatest_first : Firsts (λ a b. b ≤ℤ a) greatest
unfolding greatest
greatest_first = record { same = ≤ℤ_refl; over = λ a b c h k. ≤ℤ_trans c b a k h; one = λ z. refl; more = λ z y zs. greater z (greatest (y ∷ zs)) }
  where
    greater : (z g : ℤ) → First (λ a b. b ≤ℤ a) z g (cond (lt_z z g) g z)
    greater z g = cond_ind (lt_z z g) g z (First (λ a b. b ≤ℤ a) z g) (λ t. (inr refl, lt_z_le z g t, ≤ℤ_refl g)) (λ t. (inl refl, ≤ℤ_refl z, lt_z_no t))

pub least_in : (zs : List ℤ) (z : ℤ) → In zs z → In zs (least zs)
least_in = first_in least_first

pub least_le : (zs : List ℤ) (z : ℤ) → In zs z → least zs ≤ℤ z
least_le = first_before least_first

pub greatest_in : (zs : List ℤ) (z : ℤ) → In zs z → In zs (greatest zs)
greatest_in = first_in greatest_first

pub greatest_ge : (zs : List ℤ) (z : ℤ) → In zs z → z ≤ℤ greatest zs
greatest_ge = first_before greatest_first

-- the same members, the same least
pub least_same : (zs ys : List ℤ) → ((z : ℤ) → In zs z ↔ In ys z) → least zs ≡ least ys
least_same [] [] h = refl
least_same [] (y ∷ ys) h = absurd ((h y).1 (inl refl))
least_same (z ∷ zs) [] h = absurd ((h z).0 (inl refl))
least_same (z ∷ zs) (y ∷ ys) h =
    let l = least (z ∷ zs) in
    let m = least (y ∷ ys) in
    let k = least_le (z ∷ zs) m ((h m).1 (least_in (y ∷ ys) y (inl refl))) in
    ≤ℤ_antisym l m k (least_le (y ∷ ys) l ((h l).0 (least_in (z ∷ zs) z (inl refl))))

-- a member that is no greater than any is the least
pub least_at : (zs : List ℤ) (z : ℤ) → In zs z → ((y : ℤ) → In zs y → z ≤ℤ y) → least zs ≡ z
least_at zs z h f = ≤ℤ_antisym (least zs) z (least_le zs z h) (f (least zs) (least_in zs z h))

-- ---- the span

pub span_is : (zs : List ℤ) (z : ℤ) → In zs z → greatest zs ≡ least zs +ℤ pos (span zs)
unfolding span
span_is zs z h = ≤ℤ_diff (least zs) (greatest zs) (≤ℤ_trans (least zs) z (greatest zs) (least_le zs z h) (greatest_ge zs z h))

-- no two members of a list are further apart than its span
pub span_far : (zs : List ℤ) (u v : ℤ) (n : ℕ) → In zs u → In zs v → span zs ≤ n → T (not (lt_z (pos n) (u -ℤ v)))
span_far zs u v n hu hv l =
    let s = span zs in
    let low : (least zs +ℤ pos s) ≤ℤ (v +ℤ pos n) = ≤ℤ_add (least zs) v (pos s) (pos n) (least_le zs v hv) (record { le = le→leb s n l }) in
    let high : greatest zs ≤ℤ (v +ℤ pos n) = subst (λ x. x ≤ℤ (v +ℤ pos n)) (sym (span_is zs u hu)) low in
    let reach : u ≤ℤ (v +ℤ pos n) = ≤ℤ_trans u (greatest zs) (v +ℤ pos n) (greatest_ge zs u hu) high in
    let near : (u -ℤ v) ≤ℤ (v +ℤ pos n -ℤ v) = ≤ℤ_add u (v +ℤ pos n) (neg_ℤ v) (neg_ℤ v) reach (≤ℤ_refl (neg_ℤ v)) in
    ≤ℤ_nlt_z (u -ℤ v) (pos n) (subst (λ x. (u -ℤ v) ≤ℤ x) (+ℤ_less v (pos n)) near)

-- a bound on how far apart any two members are bounds the span
pub span_near : (zs : List ℤ) (n : ℕ) → ((u v : ℤ) → In zs u → In zs v → T (not (lt_z (pos n) (u -ℤ v)))) → span zs ≤ n
unfolding span least greatest
span_near [] n h = zero-le
span_near (z ∷ zs) n h = go (z ∷ zs) (inl refl) h
  where
    go : (zs : List ℤ) → In zs z → ((u v : ℤ) → In zs u → In zs v → T (not (lt_z (pos n) (u -ℤ v)))) → span zs ≤ n
    go zs k h =
        let e : greatest zs -ℤ least zs ≡ pos (span zs) = ap (λ x. x -ℤ least zs) (span_is zs z k) ∙ +ℤ_less (least zs) (pos (span zs)) in
        let t = h (greatest zs) (least zs) (greatest_in zs z k) (least_in zs z k) in
        nltb→le n (span zs) (subst (λ x. T (not (lt_z (pos n) x))) e t)

-- ---- extents

pub list_extent : (axis : Point → ℤ) (A : List Point) (p : Point) → In A p → Extent axis (In A) (span (map axis A))
list_extent axis A p h =
    let zs = map axis A in
    let has : (a : Point) → In A a → In zs (axis a) = λ a k. (In-map axis A (axis a)).1 (a, k, refl) in
    let l = (In-map axis A (least zs)).0 (least_in zs (axis p) (has p h)) in
    let g = (In-map axis A (greatest zs)).0 (greatest_in zs (axis p) (has p h)) in
    record {
      low = l.0;
      low_in = l.1;
      low_least = λ a k. subst (λ x. x ≤ℤ axis a) l.2 (least_le zs (axis a) (has a k));
      high = g.0;
      high_in = g.1;
      high_greatest = λ a k. subst (λ x. axis a ≤ℤ x) g.2 (greatest_ge zs (axis a) (has a k));
      size = sym g.2 ∙ span_is zs (axis p) (has p h) ∙ ap (λ x. x +ℤ pos (span zs)) l.2;
    }

-- a set has one extent
pub extent_once : (axis : Point → ℤ) (S : PointSet) (m n : ℕ) → Extent axis S m → Extent axis S n → m ≡ n
extent_once axis S m n E F =
    let low = ≤ℤ_antisym (axis E.low) (axis F.low) (E.low_least F.low F.low_in) (F.low_least E.low E.low_in) in
    let high = ≤ℤ_antisym (axis E.high) (axis F.high) (F.high_greatest E.high E.high_in) (E.high_greatest F.high F.high_in) in
    let e : axis F.low +ℤ pos m ≡ axis F.low +ℤ pos n = ap (λ x. x +ℤ pos m) (sym low) ∙ sym E.size ∙ high ∙ F.size in
    ap nat_abs (sym (+ℤ_less (axis F.low) (pos m)) ∙ ap (λ x. x -ℤ axis F.low) e ∙ +ℤ_less (axis F.low) (pos n))

pub extent_same : (axis : Point → ℤ) (S R : PointSet) (n : ℕ) → S ≐ R → Extent axis S n → Extent axis R n
extent_same axis S R n e E = record {
  low = E.low;
  low_in = (e E.low).0 E.low_in;
  low_least = λ p h. E.low_least p ((e p).1 h);
  high = E.high;
  high_in = (e E.high).0 E.high_in;
  high_greatest = λ p h. E.high_greatest p ((e p).1 h);
  size = E.size;
}

-- a coordinate adds with the points
abbrev pub Adds : (Point → ℤ) → Type 0
Adds axis = (p q : Point) → axis (p +ᵖ q) ≡ axis p +ℤ axis q

pub x_adds : Adds x_of
unfolding ◌+ᵖ◌
x_adds p q = refl

pub y_adds : Adds y_of
unfolding ◌+ᵖ◌
y_adds p q = refl

-- the extent of a sum is the sum of the extents
pub extent_add : (axis : Point → ℤ) → Adds axis → (X Y : PointSet) (m n : ℕ) → Extent axis X m → Extent axis Y n → Extent axis (X ⊕ Y) (m + n)
extent_add axis adds X Y m n E F = record {
  low = E.low +ᵖ F.low;
  low_in = (E.low, F.low, E.low_in, F.low_in, refl);
  low_least = λ p h. subst (λ q. axis (E.low +ᵖ F.low) ≤ℤ axis q) h.4 (below h.0 h.1 h.2 h.3);
  high = E.high +ᵖ F.high;
  high_in = (E.high, F.high, E.high_in, F.high_in, refl);
  high_greatest = λ p h. subst (λ q. axis q ≤ℤ axis (E.high +ᵖ F.high)) h.4 (above h.0 h.1 h.2 h.3);
  size = adds E.high F.high ∙ (λ i. E.size i +ℤ F.size i) ∙ regroup;
}
  where
    both : (a b c d : Point) → axis a ≤ℤ axis b → axis c ≤ℤ axis d → axis (a +ᵖ c) ≤ℤ axis (b +ᵖ d)
    both a b c d h k = rw (adds a c, adds b d) (≤ℤ_add (axis a) (axis b) (axis c) (axis d) h k)

    below : (a b : Point) → X a → Y b → axis (E.low +ᵖ F.low) ≤ℤ axis (a +ᵖ b)
    below a b h k = both E.low a F.low b (E.low_least a h) (F.low_least b k)

    above : (a b : Point) → X a → Y b → axis (a +ᵖ b) ≤ℤ axis (E.high +ᵖ F.high)
    above a b h k = both a E.high b F.high (E.high_greatest a h) (F.high_greatest b k)

    regroup : (axis E.low +ℤ pos m) +ℤ (axis F.low +ℤ pos n) ≡ axis (E.low +ᵖ F.low) +ℤ pos (m + n)
    regroup = +ℤ_swap (axis E.low) (pos m) (axis F.low) (pos n) ∙ ap (λ x. x +ℤ pos (m + n)) (sym (adds E.low F.low))

-- moving is adding one point, whose extent is 0
pub extent_moved : (axis : Point → ℤ) → Adds axis → (d : Point) (S : PointSet) (n : ℕ) → Extent axis S n → Extent axis (moved d S) n
extent_moved axis adds d S n E =
    extent_same axis (S ⊕ only d) (moved d S) n (⊕_only S d) (subst (Extent axis (S ⊕ only d)) (add-zero n) (extent_add axis adds S (only d) n 0 E point))
  where
    point : Extent axis (only d) 0
    point = record {
      low = d;
      low_in = refl;
      low_least = λ p e. subst (λ q. axis d ≤ℤ axis q) (sym e) (≤ℤ_refl (axis d));
      high = d;
      high_in = refl;
      high_greatest = λ p e. subst (λ q. axis q ≤ℤ axis d) (sym e) (≤ℤ_refl (axis d));
      size = sym (+ℤ_idr (axis d));
    }
