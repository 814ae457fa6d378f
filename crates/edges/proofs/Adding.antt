-- Numbers add up: where X has its greatest value at p and Y at q, X ⊕ Y has its own at p + q, and a number is a sum of such values with fixed factors.
use mathlib.Core.Path.{◌≡◌, refl, sym, ap, subst}
use mathlib.Core.Logic.{inl, inr}
use mathlib.Core.List.{List, [], ◌∷◌}
use Prim.Native.Nat.{ℕ, ◌+◌, ◌*◌, ◌≤◌}
use native.Mathlib.Omega.{arith}
use native.Mathlib.Nat.{mul-add}
use Rattle.plane.specs.Lists.{In}
use Rattle.rows.specs.Cells.{Cells, Same, Sum, AtMask, AtOrigin, AtSum}
use Rattle.edges.specs.Edges.{plus_x, plus_y, minus_x, minus_y, ahead, behind, Top, first_direction, second_direction, middle_of, times_of, Number, summed}

-- ---- greatest values of one direction
add_lin : (a b x y u v : ℕ) → a * (x + u) + b * (y + v) ≡ a * x + b * y + (a * u + b * v)
add_lin a b x y u v = omega (arith, mul-add a x u, mul-add b y v)

module _ (i : ℕ) where
  pub ahead_adds : (x y u v : ℕ) → ahead i (x + u) (y + v) ≡ ahead i x y + ahead i u v
  ahead_adds x y u v = add_lin (plus_x i) (plus_y i) x y u v

  pub behind_adds : (x y u v : ℕ) → behind i (x + u) (y + v) ≡ behind i x y + behind i u v
  behind_adds x y u v = add_lin (minus_x i) (minus_y i) x y u v

  pub top_same : {X Y : Cells} {x y : ℕ} → Same X Y → Top i X x y → Top i Y x y
  top_same {X} {Y} {x} {y} s t = record { cell = s.to x y t.cell; above = λ u v h. t.above u v (s.from u v h) }

  -- two cells where it is greatest have the same value
  pub top_once : {X Y : Cells} {x y u v : ℕ} → Same X Y → Top i X x y → Top i Y u v → ahead i x y + behind i u v ≡ ahead i u v + behind i x y
  top_once {X} {Y} {x} {y} {u} {v} s t w = omega (arith, t.above u v (s.from u v w.cell), w.above x y (s.to x y t.cell))

  pub top_sum : {X Y : Cells} {x y u v : ℕ} → Top i X x y → Top i Y u v → Top i (Sum X Y) (x + u) (y + v)
  top_sum {X} {Y} {x} {y} {u} {v} s t = record {
    cell = record { x1 = x; y1 = y; x2 = u; y2 = v; left = s.cell; right = t.cell; at_x = refl; at_y = refl };
    above = λ p q c.
        subst (λ (k : ℕ). ahead i k q + behind i (x + u) (y + v) ≤ ahead i (x + u) (y + v) + behind i k q) c.at_x
        (subst (λ (k : ℕ). ahead i (c.x1 + c.x2) k + behind i (x + u) (y + v) ≤ ahead i (x + u) (y + v) + behind i (c.x1 + c.x2) k) c.at_y
        (omega (
          arith,
          ahead_adds x y u v,
          behind_adds x y u v,
          ahead_adds c.x1 c.y1 c.x2 c.y2,
          behind_adds c.x1 c.y1 c.x2 c.y2,
          s.above c.x1 c.y1 c.left,
          t.above c.x2 c.y2 c.right,
        )));
  }

  pub top_origin : Top i AtOrigin 0 0
  top_origin = record {
    cell = record { at_x = refl; at_y = refl };
    above = λ u v o. subst (λ (k : ℕ). ahead i k v + behind i 0 0 ≤ ahead i 0 0 + behind i k v) (sym o.at_x)
        (subst (λ (k : ℕ). ahead i 0 k + behind i 0 0 ≤ ahead i 0 0 + behind i 0 k) (sym o.at_y) (omega arith));
  }

-- ---- numbers
-- t times a sum of two, on both sides of an equation
times_both : (t a b c d : ℕ) → a + b ≡ c + d → t * a + t * b ≡ t * c + t * d
times_both t a b c d e = omega (arith, mul-add t a b, mul-add t c d, ap (λ (k : ℕ). t * k) e)

-- two sums of two, added
two_sums : (s a b t c d : ℕ) → s ≡ a + b → t ≡ c + d → s + t ≡ a + c + (b + d)
two_sums s a b t c d e f = omega arith

-- the equations of two numbers, added: q ahead and p behind at the first and second direction, a ahead and b behind at the middle one
value_sum : (t v p q a b w p' q' a' b' p'' q'' a'' b'' : ℕ) → v + (p + t * a) ≡ q + t * b → w + (p' + t * a') ≡ q' + t * b'
    → p'' ≡ p + p' → q'' ≡ q + q' → a'' ≡ a + a' → b'' ≡ b + b' → v + w + (p'' + t * a'') ≡ q'' + t * b''
value_sum t v p q a b w p' q' a' b' p'' q'' a'' b'' e f g h k l =
    omega (arith, mul-add t a a', mul-add t b b', ap (λ (n : ℕ). t * n) k, ap (λ (n : ℕ). t * n) l)

module _ {i : ℕ} where
  pub number_same : {X Y : Cells} {v : ℕ} → Same X Y → Number i X v → Number i Y v
  number_same s n = record {
    x1 = n.x1;
    y1 = n.y1;
    x2 = n.x2;
    y2 = n.y2;
    x3 = n.x3;
    y3 = n.y3;
    first = top_same (first_direction i) s n.first;
    second = top_same (second_direction i) s n.second;
    middle = top_same (middle_of i) s n.middle;
    value = n.value;
  }

  pub number_once : {X Y : Cells} {v w : ℕ} → Same X Y → Number i X v → Number i Y w → v ≡ w
  number_once s n m =
      let e = times_both (times_of i) _ _ _ _ (top_once (middle_of i) s n.middle m.middle) in
      omega (arith, n.value, m.value, top_once (first_direction i) s n.first m.first, top_once (second_direction i) s n.second m.second)

  pub number_sum : {X Y : Cells} {v w : ℕ} → Number i X v → Number i Y w → Number i (Sum X Y) (v + w)
  number_sum {X} {Y} {v} {w} n m = record {
    x1 = n.x1 + m.x1;
    y1 = n.y1 + m.y1;
    x2 = n.x2 + m.x2;
    y2 = n.y2 + m.y2;
    x3 = n.x3 + m.x3;
    y3 = n.y3 + m.y3;
    first = top_sum (first_direction i) n.first m.first;
    second = top_sum (second_direction i) n.second m.second;
    middle = top_sum (middle_of i) n.middle m.middle;
    value = value_sum (times_of i) v _ _ _ _ w _ _ _ _ _ _ _ _ n.value m.value
        (two_sums _ _ _ _ _ _ (behind_adds (first_direction i) n.x1 n.y1 m.x1 m.y1)
        (behind_adds (second_direction i) n.x2 n.y2 m.x2 m.y2))
        (two_sums _ _ _ _ _ _ (ahead_adds (first_direction i) n.x1 n.y1 m.x1 m.y1) (ahead_adds (second_direction i) n.x2 n.y2 m.x2 m.y2))
        (ahead_adds (middle_of i) n.x3 n.y3 m.x3 m.y3)
        (behind_adds (middle_of i) n.x3 n.y3 m.x3 m.y3);
  }

  pub number_origin : Number i AtOrigin 0
  number_origin = record {
    x1 = 0;
    y1 = 0;
    x2 = 0;
    y2 = 0;
    x3 = 0;
    y3 = 0;
    first = top_origin (first_direction i);
    second = top_origin (second_direction i);
    middle = top_origin (middle_of i);
    value = omega arith;
  }

  -- the numbers of masks add up to that of their sum
  pub number_sums : (num : ℕ → ℕ) (ms : List ℕ) → ((m : ℕ) → In ms m → Number i (AtMask m) (num m)) → Number i (AtSum ms) (summed num ms)
  number_sums num [] f = number_origin
  number_sums num (m ∷ ms) f = number_sum (f m (inl refl)) (number_sums num ms (λ k h. f k (inr h)))
