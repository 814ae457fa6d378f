-- What is true of the sixteen directions and the eighteen numbers, each tested over its whole table: a direction's parts are small and it goes one way along
-- x only; the first and the second direction of a number make so many times its middle one, so that their counts balance at every cell.
use mathlib.Core.Path.{◌≡◌, ap}
use mathlib.Core.Logic.{◌⊎◌, inl, inr, ⊎_elim}
use Prim.Native.Nat.{ℕ, ◌+◌, ◌*◌, ◌≤◌, ◌<◌, min}
use native.Mathlib.Omega.{arith}
use native.Mathlib.Nat.{mul-le-mul}
use lib.Dec.{T, leb, leb→le, eqb, eqb→eq}
use Rattle.plane.specs.Lists.{all, up_to}
use Rattle.plane.proofs.Tests.{lt_or_le}
use Rattle.plane.proofs.Member.{each_below}
use Rattle.edges.specs.Edges.{plus_x, plus_y, minus_x, minus_y, ahead, behind, first_direction, second_direction, middle_of, times_of}

-- ---- tests over a table
at_most : (f : ℕ → ℕ) (b n : ℕ) → T (all (λ i. leb (f i) b) (up_to n)) → (i : ℕ) → i < n → f i ≤ b
at_most f b n t i l = leb→le (f i) b (each_below (λ i. leb (f i) b) n t i l)

equal : (f g : ℕ → ℕ) (n : ℕ) → T (all (λ i. eqb (f i) (g i)) (up_to n)) → (i : ℕ) → i < n → f i ≡ g i
equal f g n t i l = eqb→eq (f i) (g i) (each_below (λ i. eqb (f i) (g i)) n t i l)

-- ---- directions
-- each part of a direction is at most 2
pub record Small (i : ℕ) : Type 0 where
  pub a : plus_x i ≤ 2
  pub b : plus_y i ≤ 2
  pub c : minus_x i ≤ 2
  pub d : minus_y i ≤ 2

pub small : (i : ℕ) → i < 16 → Small i
unfolding plus_x plus_y minus_x minus_y
small i l = record { a = at_most plus_x 2 16 tt i l; b = at_most plus_y 2 16 tt i l; c = at_most minus_x 2 16 tt i l; d = at_most minus_y 2 16 tt i l }

lin_small : (a b x y : ℕ) → a ≤ 2 → b ≤ 2 → x < 16 → y < 16 → a * x + b * y ≤ 60
lin_small a b x y k l p q =
    let m : x ≤ 15 = omega arith in
    let n : y ≤ 15 = omega arith in
    let u : a * x ≤ 2 * 15 = mul-le-mul k m in
    let v : b * y ≤ 2 * 15 = mul-le-mul l n in
    omega arith

pub ahead_small : (i x y : ℕ) → i < 16 → x < 16 → y < 16 → ahead i x y ≤ 60
ahead_small i x y l p q = lin_small (plus_x i) (plus_y i) x y (small i l).a (small i l).b p q

pub behind_small : (i x y : ℕ) → i < 16 → x < 16 → y < 16 → behind i x y ≤ 60
behind_small i x y l p q = lin_small (minus_x i) (minus_y i) x y (small i l).c (small i l).d p q

pub one_way : (i : ℕ) → i < 16 → (plus_x i ≡ 0) ⊎ (minus_x i ≡ 0)
unfolding plus_x minus_x
one_way i l = pick (plus_x i) (minus_x i) (equal (λ i. min (plus_x i) (minus_x i)) (λ i. 0) 16 tt i l)
  where
    pick : (a b : ℕ) → min a b ≡ 0 → (a ≡ 0) ⊎ (b ≡ 0)
    pick a b e = ⊎_elim (λ w. inl (omega arith)) (λ w. inr (omega arith)) (lt_or_le a 1)

-- the products of a direction's parts with two columns and a row
pub products : {a b c d first last y : ℕ} → (a ≤ 2) × ((b ≤ 2) × ((c ≤ 2) × ((d ≤ 2) × ((first ≤ 15) × ((last ≤ 15) × (y ≤ 15))))))
    → (a * last ≤ 2 * 15) × (b * y ≤ 2 * 15) × (c * first ≤ 2 * 15) × (d * y ≤ 2 * 15)
products (a, (b, (c, (d, (f, (l, y)))))) = (mul-le-mul a l, mul-le-mul b y, mul-le-mul c f, mul-le-mul d y)

-- ---- numbers
-- the directions of a number are among the sixteen, and the middle one is taken at most 4 times
pub record Inside (i : ℕ) : Type 0 where
  pub first : first_direction i ≤ 15
  pub second : second_direction i ≤ 15
  pub middle : middle_of i ≤ 15
  pub times : times_of i ≤ 4

pub inside : (i : ℕ) → i < 18 → Inside i
unfolding first_direction second_direction middle_of times_of
inside i l =
    record {
      first = at_most first_direction 15 18 tt i l;
      second = at_most second_direction 15 18 tt i l;
      middle = at_most middle_of 15 18 tt i l;
      times = at_most times_of 4 18 tt i l;
    }

-- what two parts make with t times a third
abbrev made : (ℕ → ℕ) → (ℕ → ℕ) → ℕ → ℕ
made f g i = f (first_direction i) + f (second_direction i) + times_of i * g (middle_of i)

balance_x : (i : ℕ) → i < 18 → made plus_x minus_x i ≡ made minus_x plus_x i
unfolding plus_x minus_x first_direction second_direction middle_of times_of
balance_x i l = equal (made plus_x minus_x) (made minus_x plus_x) 18 tt i l

balance_y : (i : ℕ) → i < 18 → made plus_y minus_y i ≡ made minus_y plus_y i
unfolding plus_y minus_y first_direction second_direction middle_of times_of
balance_y i l = equal (made plus_y minus_y) (made minus_y plus_y) 18 tt i l

-- parts that balance do so at every cell
balance_at : (t x y a a' a'' b b' b'' c c' c'' d d' d'' : ℕ) → a + a' + t * c'' ≡ c + c' + t * a'' → b + b' + t * d'' ≡ d + d' + t * b''
    → a * x + b * y + (a' * x + b' * y) + t * (c'' * x + d'' * y) ≡ c * x + d * y + (c' * x + d' * y) + t * (a'' * x + b'' * y)
balance_at t x y a a' a'' b b' b'' c c' c'' d d' d'' e f = omega (arith, ap (λ (k : ℕ). k * x) e, ap (λ (k : ℕ). k * y) f)

pub balance : (i : ℕ) → i < 18 → (x y : ℕ) → ahead (first_direction i) x y + ahead (second_direction i) x y + times_of i * behind (middle_of i) x y
    ≡ behind (first_direction i) x y + behind (second_direction i) x y + times_of i * ahead (middle_of i) x y
balance i l x y = balance_at (times_of i) x y _ _ _ _ _ _ _ _ _ _ _ _ (balance_x i l) (balance_y i l)
