-- The columns of a mask's row that are set: three of them, with the first standing in for one that is not, are all of them.
use mathlib.Core.Path.{◌≡◌, refl}
use mathlib.Core.Bool.{Bool, true, false, cond}
use Prim.Native.Nat.{ℕ, ◌+◌, ◌≤◌, ◌<◌}
use native.Mathlib.Nat.{add-zero}
use native.Mathlib.Omega.{arith}
use Rattle.planes.specs.Bits.{bit_pick, bit_seed}
use Rattle.planes.specs.MaskBits.{has_bit, over_bits}
use Rattle.plane_pass_steps.specs.Passes.{of_three}
use Rattle.plane_row_steps.specs.MaskRows.{one_column, of_columns, first_column, stand_in}

-- the first of three tests that holds, and i where its own test holds, else the first
abbrev first_test : Bool → Bool → Bool → ℕ
first_test a b c = cond a 0 (cond b 1 (cond c 2 3))

-- by the three tests
three_tests : (erode a b c : Bool) (f : ℕ → ℕ) (e : ℕ) → first_test a b c < 3
    → one_column (bit_pick erode) c (f 2) (one_column (bit_pick erode) b (f 1) (one_column (bit_pick erode) a (f 0) e))
    ≡ bit_pick erode e (of_three erode (f (cond a 0 (first_test a b c))) (f (cond b 1 (first_test a b c))) (f (cond c 2 (first_test a b c))))
three_tests true true true true f e h = omega arith
three_tests true true true false f e h = omega arith
three_tests true true false true f e h = omega arith
three_tests true true false false f e h = omega arith
three_tests true false true true f e h = omega arith
three_tests true false true false f e h = omega arith
three_tests true false false true f e h = omega arith
three_tests true false false false f e h = absurd (let u : 3 < 3 = h in omega arith)
three_tests false true true true f e h = omega arith
three_tests false true true false f e h = omega arith
three_tests false true false true f e h = omega arith
three_tests false true false false f e h = omega arith
three_tests false false true true f e h = omega arith
three_tests false false true false f e h = omega arith
three_tests false false false true f e h = omega arith
three_tests false false false false f e h = absurd (let u : 3 < 3 = h in omega arith)

no_tests : (erode a b c : Bool) (f : ℕ → ℕ) (e : ℕ) → first_test a b c ≡ 3
    → one_column (bit_pick erode) c (f 2) (one_column (bit_pick erode) b (f 1) (one_column (bit_pick erode) a (f 0) e)) ≡ e
no_tests erode true b c f e h = absurd (let u : 0 ≡ 3 = h in omega arith)
no_tests erode false true c f e h = absurd (let u : 1 ≡ 3 = h in omega arith)
no_tests erode false false true f e h = absurd (let u : 2 ≡ 3 = h in omega arith)
no_tests erode false false false f e h = refl

module _ (erode : Bool) (f : ℕ → ℕ) (m s e : ℕ) where
  pub columns_three : first_column m s < 3
      → of_columns (bit_pick erode) f m s e ≡ bit_pick erode e (of_three erode (f (stand_in m s 0)) (f (stand_in m s 1)) (f (stand_in m s 2)))
  unfolding of_columns
  columns_three h = rw (add-zero s) (three_tests erode (has_bit m s) (has_bit m (s + 1)) (has_bit m (s + 2)) f e h)

  pub columns_none : first_column m s ≡ 3 → of_columns (bit_pick erode) f m s e ≡ e
  unfolding of_columns
  columns_none h = no_tests erode (has_bit m s) (has_bit m (s + 1)) (has_bit m (s + 2)) f e h

-- the seed changes no pick of bits
pub seed_three : (erode : Bool) (a b c : ℕ) → a ≤ 1 → b ≤ 1 → c ≤ 1 → bit_pick erode (bit_seed erode) (of_three erode a b c) ≡ of_three erode a b c
seed_three true a b c u v w = omega arith
seed_three false a b c u v w = omega arith

-- the nine bits of a mask are its three rows
pub nine_bits : (pick : ℕ → ℕ → ℕ) (e : ℕ) (f : ℕ → ℕ) (m : ℕ)
    → over_bits pick e f m 9 ≡ of_columns pick (λ i. f (6 + i)) m 6 (of_columns pick (λ i. f (3 + i)) m 3 (of_columns pick (λ i. f i) m 0 e))
unfolding over_bits of_columns
nine_bits pick e f m = refl

-- equal readings give equal picks
pub columns_ap : (pick : ℕ → ℕ → ℕ) (f g : ℕ → ℕ) (m s : ℕ) {e e' : ℕ} → f 0 ≡ g 0 → f 1 ≡ g 1 → f 2 ≡ g 2 → e ≡ e'
    → of_columns pick f m s e ≡ of_columns pick g m s e'
unfolding of_columns
columns_ap pick f g m s a b c h = rw (a, b, c, h)
