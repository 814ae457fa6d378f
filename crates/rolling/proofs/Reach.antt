-- The greatest |y| of a plan's points needs no list of them: it is the greater of |dy| and |dy + h|, where h is the sum of the stages' extents in y. The
-- points' least y is dy and their greatest dy + h, and no number between two is farther from 0 than both.
use mathlib.Core.Path.{◌≡◌, refl, sym, ◌∙◌, ap, subst}
use mathlib.Core.Logic.{inl, inr}
use mathlib.Core.Bool.{not}
use mathlib.Core.List.{List, [], ◌∷◌, map}
use Prim.Native.Nat.{ℕ, ◌≤◌, ◌<◌, zero-le, max}
use native.Mathlib.Omega.{arith}
use lib.Dec.{T, leb→le}
use lib.IntN.{ℤ, pos, negsuc, ◌+ℤ◌, nat_abs}
use lib.Signed.{◌≤ℤ◌}
use Rattle.plane.specs.Extent.{y_of, least, Extent}
use Rattle.plane.specs.Lists.{In}
use Rattle.plane.specs.Point.{Point}
use Rattle.plane.proofs.Extents.{y_adds, least_at}
use Rattle.plane.proofs.Member.{In-map}
use Rattle.masks.specs.Chain.{PlanOf}
use Rattle.masks.specs.Mask.{stage}
use Rattle.masks.proofs.Bounds.{along, total, plan_extent, forced}
use Rattle.shapes.specs.Plan.{plan_masks, plan_offset, plan_points, wrong_masks}
use Rattle.shapes.proofs.Written.{plan_itself}
use Rattle.rolling.specs.Rolling.{greatest_y}
use Rattle.rolling.proofs.Local.{greatest_y_lem}

between : (d z e : ℤ) → d ≤ℤ z → z ≤ℤ e → nat_abs z ≤ max (nat_abs d) (nat_abs e)
between d (pos n) (pos m) h k = let l = leb→le n m k.le in omega arith
between d (pos n) (negsuc m) h k = absurd k.le
between (pos m) (negsuc n) e h k = absurd h.le
between (negsuc m) (negsuc n) e h k = let l = leb→le n m h.le in omega arith

greatest_least : (P : List Point) (n : ℕ) → ((a : Point) → In P a → nat_abs a.1 ≤ n) → greatest_y P ≤ n
unfolding greatest_y
greatest_least [] n h = zero-le
greatest_least (p ∷ P) n h = let a = h p (inl refl) in let r = greatest_least P n (λ b k. h b (inr k)) in omega arith

pub extent_y : (P : List Point) (h : ℕ) (E : Extent y_of (In P) h) → greatest_y P ≡ max (nat_abs (y_of E.low)) (nat_abs (y_of E.high))
extent_y P h E =
    let l = y_of E.low in
    let g = y_of E.high in
    let a = greatest_y_lem P E.low E.low_in in
    let b = greatest_y_lem P E.high E.high_in in
    let c = greatest_least P (max (nat_abs l) (nat_abs g)) (λ p k. between l (y_of p) g (E.low_least p k) (E.high_greatest p k)) in
    omega arith

-- a number above each |y| is above the greatest, where there is a point
pub greatest_below : (P : List Point) (h : ℕ) → Extent y_of (In P) h → (n : ℕ) → ((a : Point) → In P a → nat_abs a.1 < n) → greatest_y P < n
greatest_below P h E n f = let a = f E.low E.low_in in let b = f E.high E.high_in in omega (arith, extent_y P h E)

pub plan_below : (ws : List ℕ) → T (not (wrong_masks (plan_masks ws))) → (n : ℕ) → ((a : Point) → In (plan_points ws) a → nat_abs a.1 < n)
    → greatest_y (plan_points ws) < n
plan_below ws t =
    greatest_below (plan_points ws) (total (along y_of) (plan_masks ws))
    (plan_extent y_of y_adds refl (In (plan_points ws)) (plan_offset ws) (plan_masks ws) (plan_itself ws t))

pub plan_y : (ws : List ℕ) → T (not (wrong_masks (plan_masks ws)))
    → greatest_y (plan_points ws) ≡ max (nat_abs (plan_offset ws).1) (nat_abs ((plan_offset ws).1 +ℤ pos (total (along y_of) (plan_masks ws))))
plan_y ws t = extent_y A h E ∙ ap (λ z. max (nat_abs (y_of E.low)) (nat_abs z)) E.size ∙ ap (λ z. max (nat_abs z) (nat_abs (z +ℤ pos h))) low
  where
    A : List Point
    A = plan_points ws

    d : Point
    d = plan_offset ws

    P : PlanOf stage (In A) d (plan_masks ws)
    P = plan_itself ws t

    h : ℕ
    h = total (along y_of) (plan_masks ws)

    E : Extent y_of (In A) h
    E = plan_extent y_of y_adds refl (In A) d (plan_masks ws) P

    least_is : least (map y_of A) ≡ y_of E.low
    least_is = least_at (map y_of A) (y_of E.low) ((In-map y_of A (y_of E.low)).1 (E.low, E.low_in, refl)) (λ z k.
        let r = (In-map y_of A z).0 k in subst (λ w. y_of E.low ≤ℤ w) (sym r.2) (E.low_least r.0 r.1))

    low : y_of E.low ≡ d.1
    low = sym least_is ∙ sym (ap (λ p. p.1) (forced A d (plan_masks ws) P))
