-- The order that picks: it is strict and total on lists of stages, so two plans that are both picked have the same stages. It compares the numbers of stages
-- first, and the stages in turn where those are equal.
use mathlib.Core.Path.{◌≡◌, refl, sym, ap₂}
use mathlib.Core.Logic.{◌↔◌, ◌⊎◌, inl, inr}
use mathlib.Core.Bool.{Bool, true, false, not, ◌&&◌, ◌||◌}
use mathlib.Core.List.{List, [], ◌∷◌}
use Prim.Native.Nat.{ℕ, suc, ◌≤◌, ◌<◌}
use native.Mathlib.Omega.{arith}
use lib.Dec.{T, ltb, eqb, eqb→eq, ltb→lt, nltb→le, T_not, not_T}
use lib.ListN.{length}
use Rattle.plane.specs.Point.{Point, PointSet}
use Rattle.plane.proofs.Tests.{not_or, T_and, T_or, eq-eqb, not_ltb}
use Rattle.masks.specs.Chain.{smaller, before, Picked}

-- not smaller either way: the same, for lists of one length
same_length : (ms ns : List ℕ) → length ms ≡ length ns → T (not (smaller ms ns)) → T (not (smaller ns ms)) → ms ≡ ns
same_length [] [] e t u = refl
same_length [] (b ∷ ns) e t u = absurd (let z : 0 ≡ suc (length ns) = e in omega arith)
same_length (a ∷ ms) [] e t u = absurd (let z : suc (length ms) ≡ 0 = e in omega arith)
same_length (a ∷ ms) (b ∷ ns) e t u =
    let v = (not_or (ltb a b) (eqb a b && smaller ms ns)).0 t in
    let w = (not_or (ltb b a) (eqb b a && smaller ns ms)).0 u in
    let h = nltb→le a b v.0 in
    let k = nltb→le b a w.0 in
    let q : a ≡ b = omega arith in
    let l : length ms ≡ length ns = (let z : suc (length ms) ≡ suc (length ns) = e in omega arith) in
    ap₂ (λ x xs. x ∷ xs) q (same_length ms ns l (rest a b (smaller ms ns) q v.1) (rest b a (smaller ns ms) (sym q) w.1))
  where
    rest : (a b : ℕ) (s : Bool) → a ≡ b → T (not (eqb a b && s)) → T (not s)
    rest a b s q t = not_T s (λ r. T_not (eqb a b && s) t ((T_and (eqb a b) s).1 (eq-eqb q, r)))

-- ms does not come before ns: it has no fewer stages, and where it has as many it is not smaller
not_before : (ms ns : List ℕ) → T (not (before ms ns)) ↔ ((length ns ≤ length ms) × (length ms ≡ length ns → T (not (smaller ms ns))))
not_before ms ns = (
  λ t. let u = (not_or fewer tied).0 t in
      (nltb→le (length ms) (length ns) u.0, λ e. not_T less (λ s. T_not tied u.1 ((T_and equal less).1 (eq-eqb e, s)))),
  λ h. (not_or fewer tied).1 (
    not_ltb (length ms) (length ns) h.0,
    not_T tied (λ t. let u = (T_and equal less).0 t in T_not less (h.1 (eqb→eq (length ms) (length ns) u.0)) u.1),
  ),
)
  where
    fewer : Bool
    fewer = ltb (length ms) (length ns)

    equal : Bool
    equal = eqb (length ms) (length ns)

    less : Bool
    less = smaller ms ns

    tied : Bool
    tied = equal && less

-- what does not come before ms has at least as many stages
pub no_fewer : (ms ns : List ℕ) → T (not (before ns ms)) → length ms ≤ length ns
no_fewer ms ns t = ((not_before ns ms).0 t).0

-- of two lists neither comes before the other only where they are one
neither : (ms ns : List ℕ) → T (not (before ms ns)) → T (not (before ns ms)) → ms ≡ ns
neither ms ns t u =
    let h = no_fewer ns ms t in
    let k = no_fewer ms ns u in
    let e : length ms ≡ length ns = omega arith in
    same_length ms ns e (((not_before ms ns).0 t).1 e) (((not_before ns ms).0 u).1 (sym e))

-- the plan that is written is one
pub picked_once : (permitted : ℕ → Bool) (S : PointSet) (d e : Point) (ms ns : List ℕ) → Picked permitted S d ms → Picked permitted S e ns → ms ≡ ns
picked_once permitted S d e ms ns p q = neither ms ns (q.first d ms p.plan) (p.first e ns q.plan)

-- ---- how a search shows it

-- of two lists of one length: the same, or smaller at the first difference
abbrev pub not_above : List ℕ → List ℕ → Bool
not_above [] ns = true
not_above (a ∷ ms) [] = false
not_above (a ∷ ms) (b ∷ ns) = ltb a b || eqb a b && not_above ms ns

-- what is above ms is not smaller
not_smaller : (ms ns : List ℕ) → T (not_above ms ns) → T (not (smaller ns ms))
not_smaller [] [] t = tt
not_smaller [] (b ∷ ns) t = tt
not_smaller (a ∷ ms) [] t = absurd t
not_smaller (a ∷ ms) (b ∷ ns) t = go ((T_or (ltb a b) (eqb a b && not_above ms ns)).0 t) (not_smaller ms ns)
  where
    no_and : (s r : Bool) → (T s → T (not r)) → T (not (s && r))
    no_and true r f = f tt
    no_and false r f = tt

    both : T (not (ltb b a)) → (T (eqb b a) → T (not (smaller ns ms))) → T (not (smaller (b ∷ ns) (a ∷ ms)))
    both l f = (not_or (ltb b a) (eqb b a && smaller ns ms)).1 (l, no_and (eqb b a) (smaller ns ms) f)

    go : T (ltb a b) ⊎ T (eqb a b && not_above ms ns) → (T (not_above ms ns) → T (not (smaller ns ms))) → T (not (smaller (b ∷ ns) (a ∷ ms)))
    go (inl l) ih =
        let h = ltb→lt a b l in
        both (not_ltb b a (omega arith)) (λ e. absurd (let q = eqb→eq b a e in omega arith))
    go (inr r) ih =
        let u = (T_and (eqb a b) (not_above ms ns)).0 r in
        let q = eqb→eq a b u.0 in
        both (not_ltb b a (omega arith)) (λ _. ih u.1)

-- what is no shorter does not come before, where it is not smaller either
pub not_before_tied : (ms ns : List ℕ) → length ms ≤ length ns → (length ns ≡ length ms → T (not (smaller ns ms))) → T (not (before ns ms))
not_before_tied ms ns h f = (not_before ns ms).1 (h, f)

-- a longer list does not come before, nor does one that is above
pub not_before_longer : (ms ns : List ℕ) → length ms < length ns → T (not (before ns ms))
not_before_longer ms ns h = (not_before ns ms).1 (omega arith, λ e. absurd (omega arith))

pub not_before_above : (ms ns : List ℕ) → length ms ≡ length ns → T (not_above ms ns) → T (not (before ns ms))
not_before_above ms ns e t = (not_before ns ms).1 (omega arith, λ _. not_smaller ms ns t)
