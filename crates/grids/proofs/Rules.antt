-- What the rules say at a point is one value, goes by the cells that are covered and by the set of points, and is what the greatest or the least of a list
-- of cells is. Of pictures of 0 and 1 it is Minkowski's ⊕ and ⊖ of the occupied points.
use mathlib.Core.Path.{◌≡◌, refl, sym, ◌∙◌, ap, ap₂, subst}
use mathlib.Core.Logic.{◌↔◌, ◌≢◌, inl, inr}
use mathlib.Core.Bool.{Bool, true, false}
use mathlib.Core.List.{List, [], ◌∷◌, map}
use Prim.Native.Nat.{ℕ, zero, suc, ◌≤◌, min, max}
use native.Mathlib.Omega.{arith}
use Rattle.plane.specs.Lists.{In}
use Rattle.plane.specs.Point.{Point, PointSet, ◌+ᵖ◌, ◌-ᵖ◌, ◌≐◌, ◌⊕◌, ◌⊖◌}
use Rattle.plane.proofs.Algebra.{+ᵖ_cancel, subᵖ_cancel}
use Rattle.grids.specs.Frame.{free, full, highest, greater, lesser, over, occupied}
use Rattle.grids.specs.Image.{fold}
use Rattle.grids.specs.Rules.{covered, SomeCovered, Greatest, Least, Gives, Makes}
use Rattle.grids.proofs.Values.{Upto}

-- ---- one value

greatest_once : (S : ℕ → Type 0) (u v : ℕ) → Greatest S u → Greatest S v → u ≡ v
greatest_once S u v (inl a) (inl b) = a.0 ∙ sym b.0
greatest_once S u v (inl a) (inr (inl b)) = absurd (b.1 a.1)
greatest_once S u v (inl a) (inr (inr b)) = absurd (b.1 a.1)
greatest_once S u v (inr (inl a)) (inl b) = absurd (a.1 b.1)
greatest_once S u v (inr (inl a)) (inr (inl b)) = a.0 ∙ sym b.0
greatest_once S u v (inr (inl a)) (inr (inr b)) = absurd (b.2 a.2)
greatest_once S u v (inr (inr a)) (inl b) = absurd (a.1 b.1)
greatest_once S u v (inr (inr a)) (inr (inl b)) = absurd (a.2 b.2)
greatest_once S u v (inr (inr a)) (inr (inr b)) = a.0 ∙ sym b.0

least_once : (S : ℕ → Type 0) (u v : ℕ) → Least S u → Least S v → u ≡ v
least_once S u v (inl a) (inl b) = a.0 ∙ sym b.0
least_once S u v (inl a) (inr (inl b)) = absurd (b.1 a.1)
least_once S u v (inl a) (inr (inr b)) = absurd (b.1 a.1)
least_once S u v (inr (inl a)) (inl b) = absurd (a.1 b.1)
least_once S u v (inr (inl a)) (inr (inl b)) = a.0 ∙ sym b.0
least_once S u v (inr (inl a)) (inr (inr b)) = absurd (b.2 a.2)
least_once S u v (inr (inr a)) (inl b) = absurd (a.1 b.1)
least_once S u v (inr (inr a)) (inr (inl b)) = absurd (a.2 b.2)
least_once S u v (inr (inr a)) (inr (inr b)) = a.0 ∙ sym b.0

pub gives_once : (erode : Bool) (A : PointSet) (f : Point → ℕ) (p : Point) (u v : ℕ) → Gives erode A f p u → Gives erode A f p v → u ≡ v
gives_once true A f p u v g h = least_once (SomeCovered true A f p) u v g h
gives_once false A f p u v g h = greatest_once (SomeCovered false A f p) u v g h

-- no higher than a cell may be
pub gives_upto : (erode : Bool) (A : PointSet) (f : Point → ℕ) (p : Point) (v : ℕ) → Gives erode A f p v → v ≤ highest
gives_upto true A f p v (inl a) = omega (arith, a.0)
gives_upto true A f p v (inr (inl a)) = omega (arith, a.0)
gives_upto true A f p v (inr (inr a)) = omega (arith, a.0)
gives_upto false A f p v (inl a) = omega (arith, a.0)
gives_upto false A f p v (inr (inl a)) = omega (arith, a.0)
gives_upto false A f p v (inr (inr a)) = omega (arith, a.0)

-- the greatest value and the least decide by themselves
pub gives_one : (A : PointSet) (f : Point → ℕ) (p : Point) (v : ℕ) → SomeCovered false A f p 1 → Gives false A f p v → v ≡ 1
gives_one A f p v s (inl a) = a.0
gives_one A f p v s (inr (inl a)) = absurd (a.1 s)
gives_one A f p v s (inr (inr a)) = absurd (a.1 s)

pub gives_zero : (A : PointSet) (f : Point → ℕ) (p : Point) (v : ℕ) → SomeCovered true A f p 0 → Gives true A f p v → v ≡ 0
gives_zero A f p v s (inl a) = a.0
gives_zero A f p v s (inr (inl a)) = absurd (a.1 s)
gives_zero A f p v s (inr (inr a)) = absurd (a.1 s)

-- ---- by the cells that are covered

module _ (S R : ℕ → Type 0) (e : (v : ℕ) → S v ↔ R v) (v : ℕ) where
  greatest_same : Greatest S v → Greatest R v
  greatest_same (inl a) = inl (a.0, (e 1).0 a.1)
  greatest_same (inr (inl a)) = inr (inl (a.0, (λ r. a.1 ((e 1).1 r)), (e 2).0 a.2))
  greatest_same (inr (inr a)) = inr (inr (a.0, (λ r. a.1 ((e 1).1 r)), λ r. a.2 ((e 2).1 r)))

  least_same : Least S v → Least R v
  least_same (inl a) = inl (a.0, (e 0).0 a.1)
  least_same (inr (inl a)) = inr (inl (a.0, (λ r. a.1 ((e 0).1 r)), (e 2).0 a.2))
  least_same (inr (inr a)) = inr (inr (a.0, (λ r. a.1 ((e 0).1 r)), λ r. a.2 ((e 2).1 r)))

-- where the same values are covered, the same is given
pub gives_same : (erode : Bool) (A B : PointSet) (f g : Point → ℕ) (p q : Point) → ((v : ℕ) → SomeCovered erode A f p v ↔ SomeCovered erode B g q v)
    → (v : ℕ) → Gives erode A f p v → Gives erode B g q v
gives_same true A B f g p q e v h = least_same (SomeCovered true A f p) (SomeCovered true B g q) e v h
gives_same false A B f g p q e v h = greatest_same (SomeCovered false A f p) (SomeCovered false B g q) e v h

-- pictures that are alike around p and q
pub gives_alike : (erode : Bool) (A : PointSet) (f g : Point → ℕ) (p q : Point) → ((a : Point) → A a → f (covered erode p a) ≡ g (covered erode q a))
    → (v : ℕ) → Gives erode A f p v → Gives erode A g q v
gives_alike erode A f g p q s =
    gives_same erode A A f g p q (λ v. ((λ c. (c.0, c.1, sym (s c.0 c.1) ∙ c.2)), λ c. (c.0, c.1, s c.0 c.1 ∙ c.2)))

-- sets with the same points
pub gives_set : (erode : Bool) (A B : PointSet) (f : Point → ℕ) (p : Point) → A ≐ B → (v : ℕ) → Gives erode A f p v → Gives erode B f p v
gives_set erode A B f p s = gives_same erode A B f f p p (λ v. ((λ c. (c.0, (s c.0).0 c.1, c.2)), λ c. (c.0, (s c.0).1 c.1, c.2)))

-- ---- of a list

zero_one : ◌≢◌ {A = ℕ} 0 1
zero_one e = omega arith

zero_two : ◌≢◌ {A = ℕ} 0 2
zero_two e = omega arith

one_zero : ◌≢◌ {A = ℕ} 1 0
one_zero e = omega arith

one_two : ◌≢◌ {A = ℕ} 1 2
one_two e = omega arith

two_zero : ◌≢◌ {A = ℕ} 2 0
two_zero e = omega arith

two_one : ◌≢◌ {A = ℕ} 2 1
two_one e = omega arith

one_greatest : (y : ℕ) → greater 1 y ≡ 1
one_greatest zero = refl
one_greatest (suc y) = let e : min 0 y ≡ 0 = omega arith in omega arith

one_lesser : (y : ℕ) → lesser 1 y ≡ y
one_lesser zero = refl
one_lesser (suc y) = let e : max 0 y ≡ y = omega arith in omega arith

module _ {B : Type 0} (g : B → ℕ) where
  -- some member's value is v
  abbrev Among : List B → ℕ → Type 0
  Among P v = (b : B) × In P b × (g b ≡ v)

  -- a member more, whose value is another
  more : (b : B) (P : List B) (u v : ℕ) → g b ≡ u → u ≢ v → Among (b ∷ P) v ↔ Among P v
  more b P u v e n = (
    λ c. go c.0 c.1 c.2,
    λ c. (c.0, inr c.1, c.2),
  )
    where
      go : (c : B) → In (b ∷ P) c → g c ≡ v → Among P v
      go c (inl q) h = absurd (n (sym e ∙ ap g (sym q) ∙ h))
      go c (inr q) h = (c, q, h)

  -- the greatest of the members' values
  pub greatest_rule : (P : List B) → ((b : B) → In P b → g b ≤ highest) → Greatest (Among P) (fold greater free (map g P))
  greatest_rule [] h = inr (inr (refl, (λ c. c.1), λ c. c.1))
  greatest_rule (b ∷ P) h = go (g b) refl (h b (inl refl)) (greatest_rule P (λ c k. h c (inr k)))
    where
      y : ℕ
      y = fold greater free (map g P)

      go : (x : ℕ) → g b ≡ x → x ≤ highest → Greatest (Among P) y → Greatest (Among (b ∷ P)) (greater (g b) y)
      go zero e l (inl a) = inl (ap (λ n. greater n y) e ∙ a.0, (more b P 0 1 e zero_one).1 a.1)
      go zero e l (inr (inl a)) =
          inr (inl (ap (λ n. greater n y) e ∙ a.0, (λ c. a.1 ((more b P 0 1 e zero_one).0 c)), (more b P 0 2 e zero_two).1 a.2))
      go zero e l (inr (inr a)) =
          inr (inr (ap (λ n. greater n y) e ∙ a.0, (λ c. a.1 ((more b P 0 1 e zero_one).0 c)), λ c. a.2 ((more b P 0 2 e zero_two).0 c)))
      go (suc zero) e l r = inl (ap (λ n. greater n y) e ∙ one_greatest y, (b, inl refl, e))
      go (suc (suc zero)) e l (inl a) = inl (ap₂ greater e a.0, (more b P 2 1 e two_one).1 a.1)
      go (suc (suc zero)) e l (inr (inl a)) = inr (inl (ap₂ greater e a.0, (λ c. a.1 ((more b P 2 1 e two_one).0 c)), (b, inl refl, e)))
      go (suc (suc zero)) e l (inr (inr a)) = inr (inl (ap₂ greater e a.0, (λ c. a.1 ((more b P 2 1 e two_one).0 c)), (b, inl refl, e)))
      go (suc (suc (suc x))) e l r = absurd (omega arith)

  -- the least of them
  pub least_rule : (P : List B) → ((b : B) → In P b → g b ≤ highest) → Least (Among P) (fold lesser full (map g P))
  least_rule [] h = inr (inr (refl, (λ c. c.1), λ c. c.1))
  least_rule (b ∷ P) h = go (g b) refl (h b (inl refl)) (least_rule P (λ c k. h c (inr k)))
    where
      y : ℕ
      y = fold lesser full (map g P)

      go : (x : ℕ) → g b ≡ x → x ≤ highest → Least (Among P) y → Least (Among (b ∷ P)) (lesser (g b) y)
      go zero e l r = inl (ap (λ n. lesser n y) e, (b, inl refl, e))
      go (suc zero) e l (inl a) = inl (ap (λ n. lesser n y) e ∙ one_lesser y ∙ a.0, (more b P 1 0 e one_zero).1 a.1)
      go (suc zero) e l (inr (inl a)) =
          inr (inl (ap (λ n. lesser n y) e ∙ one_lesser y ∙ a.0, (λ c. a.1 ((more b P 1 0 e one_zero).0 c)), (more b P 1 2 e one_two).1 a.2))
      go (suc zero) e l (inr (inr a)) =
          inr (inr (ap (λ n. lesser n y) e ∙ one_lesser y ∙ a.0, (λ c. a.1 ((more b P 1 0 e one_zero).0 c)), λ c. a.2 ((more b P 1 2 e one_two).0 c)))
      go (suc (suc zero)) e l (inl a) = inl (ap₂ lesser e a.0, (more b P 2 0 e two_zero).1 a.1)
      go (suc (suc zero)) e l (inr (inl a)) = inr (inl (ap₂ lesser e a.0, (λ c. a.1 ((more b P 2 0 e two_zero).0 c)), (b, inl refl, e)))
      go (suc (suc zero)) e l (inr (inr a)) = inr (inl (ap₂ lesser e a.0, (λ c. a.1 ((more b P 2 0 e two_zero).0 c)), (b, inl refl, e)))
      go (suc (suc (suc x))) e l r = absurd (omega arith)

-- a picture taken through a list of points is what the rule gives of these points
pub over_makes : (erode : Bool) (P : List Point) (f : Point → ℕ) → Upto highest f → Makes erode (In P) f (over erode P f)
over_makes true P f b p = least_rule (λ a. f (p +ᵖ a)) P (λ a _. b (p +ᵖ a))
over_makes false P f b p = greatest_rule (λ a. f (p -ᵖ a)) P (λ a _. b (p -ᵖ a))

-- ---- pictures of 0 and 1

zero_or_one : (n : ℕ) → n ≤ 1 → n ≢ 0 → n ≡ 1
zero_or_one n l h = omega arith

module _ (A : PointSet) (f g : Point → ℕ) (b : Upto 1 f) where
  no_two : (erode : Bool) (p : Point) → SomeCovered erode A f p 2 → ⊥
  no_two erode p c = let l = b (covered erode p c.0) in omega (arith, c.2)

  pub makes_binary : (erode : Bool) → Makes erode A f g → Upto 1 g
  makes_binary erode m p = go erode (m p)
    where
      go : (erode : Bool) → Gives erode A f p (g p) → g p ≤ 1
      go true (inl a) = omega (arith, a.0)
      go true (inr (inl a)) = absurd (no_two true p a.2)
      go true (inr (inr a)) = omega (arith, a.0)
      go false (inl a) = omega (arith, a.0)
      go false (inr (inl a)) = absurd (no_two false p a.2)
      go false (inr (inr a)) = omega (arith, a.0)

  pub dilation_set : Makes false A f g → occupied g ≐ occupied f ⊕ A
  dilation_set m p = (λ e. to e (m p), λ h. from h (m p))
    where
      some : (occupied f ⊕ A) p → SomeCovered false A f p 1
      some h = (h.1, h.3, subst (λ x. f x ≡ 1) (sym (+ᵖ_cancel h.0 h.1) ∙ ap (λ x. x -ᵖ h.1) h.4) h.2)

      to : g p ≡ 1 → Gives false A f p (g p) → (occupied f ⊕ A) p
      to e (inl a) = let c = a.1 in (p -ᵖ c.0, c.0, c.2, c.1, subᵖ_cancel p c.0)
      to e (inr (inl a)) = absurd (omega (arith, e, a.0))
      to e (inr (inr a)) = absurd (omega (arith, e, a.0))

      from : (occupied f ⊕ A) p → Gives false A f p (g p) → g p ≡ 1
      from h (inl a) = a.0
      from h (inr (inl a)) = absurd (a.1 (some h))
      from h (inr (inr a)) = absurd (a.1 (some h))

  pub erosion_set : Makes true A f g → occupied g ≐ occupied f ⊖ A
  erosion_set m p = (λ e. to e (m p), λ h. from h (m p))
    where
      to : g p ≡ 1 → Gives true A f p (g p) → (occupied f ⊖ A) p
      to e (inl a) = absurd (omega (arith, e, a.0))
      to e (inr (inl a)) = absurd (omega (arith, e, a.0))
      to e (inr (inr a)) = λ c h. zero_or_one (f (p +ᵖ c)) (b (p +ᵖ c)) (λ z. a.1 (c, h, z))

      from : (occupied f ⊖ A) p → Gives true A f p (g p) → g p ≡ 1
      from h (inl a) = let c = a.1 in absurd (omega (arith, h c.0 c.1, c.2))
      from h (inr (inl a)) = absurd (no_two true p a.2)
      from h (inr (inr a)) = a.0
