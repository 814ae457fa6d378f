-- Rows of one end, written into a part of the kept frame; and that both ends are ready to be.
use mathlib.Core.Path.{◌≡◌, refl, sym, ◌∙◌, ap, subst}
use mathlib.Core.Logic.{◌⊎◌, inl, inr}
use mathlib.Core.Bool.{not}
use mathlib.Core.List.{List}
use Prim.Native.Nat.{ℕ, ◌+◌, ◌-◌, ◌*◌, ◌≤◌, ◌<◌}
use native.Mathlib.Omega.{arith}
use native.Mathlib.Nat.{add-mul, mul_comm, mul-le-mul, mul-le-mul_right}
use borrow.Author.Tests.{le-ltb, ne_eqb}
use borrow.Rule.Slice.PartMut.{mid_of, put_mid, mid_len}
use lib.Dec.{T, ltb}
use lib.ListN.{length, get_or, take, drop, get_or-eq_default}
use Rattle.shapes.specs.Plan.{plan_masks, plan_offset}
use Rattle.plan_grounds.proofs.Accepted.{plan_length, place_small}
use Rattle.grids.specs.Frame.{highest, bad_cell}
use Rattle.ranges.specs.Ranges.{Ranged}
use Rattle.ranges.proofs.Ranges.{ranged_part}
use Rattle.cleaning.specs.Operation.{in_turn}
use Rattle.cleaning.specs.declared.Operation.TheVariants.{Dilation}
use Rattle.rolling.specs.Ends.{rows_of, near_rows, part_rows, EndPut}
use Rattle.rolling.proofs.Clean.{none_drop, none_take}
use Rattle.end_steps.specs.Ends.{EndPart, EndRows}
use Rattle.rolling_calls.specs.Rows.{EndReady, Reworked, BothPut}

-- a list that was put into another's part, whatever its cells
put_part : (a e : ℕ) (xs ys : List ℕ) → a ≤ e → e ≤ length xs → length ys ≡ length (mid_of a (e - a) xs)
    → Ranged 0 a e (λ k. get_or ys (k - a) 0) xs (put_mid a (e - a) xs ys)
put_part a e xs ys h g l = ranged_part {a = a} {e = e} {f = λ k. get_or ys k 0} {xs = xs} {ys = ys} h g (record {
  len = l;
  at = λ k u v. refl;
  below = λ k u. absurd (omega arith);
  above = λ k u. get_or-eq_default ys 0 {n = k} (omega arith) ∙ sym (get_or-eq_default (mid_of a (e - a) xs) 0 u);
})

-- rows from p to q of a frame take as many cells as their number says
rows_between : (p q W : ℕ) → (p + q) * W - p * W ≡ q * W
rows_between p q W = omega (arith, add-mul p q W)

module _ {plan live kept : List ℕ} {W a e b t : ℕ} (R : EndReady plan W a e live b t kept) where
  abbrev part : List ℕ
  part = mid_of (a * W) ((a + e) * W - a * W) live

  abbrev rows : List ℕ
  rows = mid_of (b * W) ((b + t) * W - b * W) kept

  pub before_part : a * W ≤ (a + e) * W
  before_part = mul-le-mul_right {m = a} {n = a + e} W (omega arith)

  pub before_rows : b * W ≤ (b + t) * W
  before_rows = mul-le-mul_right {m = b} {n = b + t} W (omega arith)

  pub rows_end : (b + t) * W ≤ (a + e) * W
  rows_end = mul-le-mul_right {m = b + t} {n = a + e} W R.within.1

  pub rows_room : (b + t) * W ≤ length kept
  rows_room = omega (arith, rows_end, R.kept_room)

  part_is : part ≡ rows_of W a e live
  part_is = ap (λ n. take n (drop (a * W) live)) (rows_between a e W)

  part_clean : T (not (bad_cell part))
  part_clean = none_take (ltb highest) ((a + e) * W - a * W) (drop (a * W) live) (none_drop (ltb highest) (a * W) live R.clean)

  pub end_part : EndPart plan W e part (b - a) t rows
  end_part = record {
    whole = record {
      words = plan_length plan R.accepted;
      across = (place_small plan R.accepted).0;
      down = (place_small plan R.accepted).1;
      sides = R.sides;
      rows = R.rows;
      size = mid_len (a * W) ((a + e) * W) live R.live_room ∙ rows_between a e W;
      clean = part_clean;
    };
    near = omega (arith, R.within);
    room = mid_len (b * W) ((b + t) * W) kept rows_room ∙ rows_between b t W;
  }

  pub end_put : {ys : List ℕ} → EndRows plan W e part (b - a) t rows ys
      → EndPut plan W a e live b t kept (put_mid (b * W) ((b + t) * W - b * W) kept ys)
  end_put {ys} E = record { size = P.len; near = near; far = far }
    where
      P : Ranged 0 (b * W) ((b + t) * W) (λ k. get_or ys (k - b * W) 0) kept (put_mid (b * W) ((b + t) * W - b * W) kept ys)
      P = put_part (b * W) ((b + t) * W) kept ys before_rows rows_room E.size

      near : (x r : ℕ) → x < W → b ≤ r → r < b + t → get_or (put_mid (b * W) ((b + t) * W - b * W) kept ys) (r * W + x) 0
          ≡ get_or (in_turn Dilation W e (rows_of W a e live) (plan_offset plan) (plan_masks plan)) ((r - a) * W + x) 0
      near x r h l u =
          let low = mul-le-mul_right {m = b} {n = r} W l in
          let high = mul-le-mul_right {m = r + 1} {n = b + t} W (omega arith) in
          let q : b + (r - b) ≡ r = omega arith in
          let p : b * W + (r - b) * W ≡ r * W = sym (add-mul b (r - b) W) ∙ ap (λ n. n * W) q in
          let i : r * W + x - b * W ≡ (r - b) * W + x = omega (arith, p) in
          let j : b - a + (r - b) ≡ r - a = omega (arith, R.within.0) in
          P.at (r * W + x) (omega (arith, low)) (omega (arith, high, add-mul r 1 W)) ∙ ap (λ n. get_or ys n 0) i ∙ E.row x (r - b) h (omega arith)
          ∙ ap (λ n. get_or (in_turn Dilation W e part (plan_offset plan) (plan_masks plan)) (n * W + x) 0) j
          ∙ ap (λ f. get_or (in_turn Dilation W e f (plan_offset plan) (plan_masks plan)) ((r - a) * W + x) 0) part_is

      far : (x r : ℕ) → x < W → (r < b) ⊎ (b + t ≤ r) → get_or (put_mid (b * W) ((b + t) * W - b * W) kept ys) (r * W + x) 0 ≡ get_or kept (r * W + x) 0
      far x r h (inl l) = let m = mul-le-mul_right {m = r + 1} {n = b} W (omega arith) in P.below (r * W + x) (omega (arith, m, add-mul r 1 W))
      far x r h (inr l) = let m = mul-le-mul_right {m = b + t} {n = r} W l in P.above (r * W + x) (omega (arith, m))

-- ---- both ends

module _ {plan live kept : List ℕ} {W H Y : ℕ} (R : Reworked plan W H Y live kept) where
  -- a part of e rows from row a on, with its rows b to b + t
  ready : (kept₁ : List ℕ) → length kept₁ ≡ length kept → (e a b t : ℕ) → e ≡ part_rows H Y → a + e ≤ H → a ≤ b → b + t ≤ a + e
      → EndReady plan W a e live b t kept₁
  ready kept₁ k e a b t q l h m = record {
    accepted = R.accepted;
    sides = rw (
      ne_eqb W 0 (λ z. omega (arith, R.columns, z)),
      le-ltb 240 W R.columns.1,
      ne_eqb e 0 (λ z. omega (arith, q, R.rows, z)),
      le-ltb 240 e (omega (arith, q, R.rows)),
    ) refl;
    rows = omega (arith, q, R.reach);
    within = (h, m);
    most = omega (arith, l, R.rows);
    few = let u : a + e ≤ 240 = omega (arith, l, R.rows) in mul-le-mul u R.columns.1;
    live_room = omega (arith, inside, R.live_size, mul_comm W H);
    kept_room = omega (arith, inside, R.kept_size, mul_comm W H, k);
    clean = R.clean;
  }
    where
      inside : (a + e) * W ≤ H * W
      inside = mul-le-mul_right {m = a + e} {n = H} W l

  pub first_ready : (e t : ℕ) → e ≡ part_rows H Y → t ≡ near_rows H Y → EndReady plan W 0 e live 0 t kept
  first_ready e t p q = ready kept refl e 0 0 t p (omega (arith, p)) (omega arith) (omega (arith, p, q))

  pub last_ready : (e t : ℕ) → e ≡ part_rows H Y → t ≡ near_rows H Y → {kept₁ : List ℕ} → EndPut plan W 0 e live 0 t kept kept₁
      → EndReady plan W (H - e) e live (H - t) t kept₁
  last_ready e t p q {kept₁} E = ready kept₁ E.size e (H - e) (H - t) t p (omega (arith, p)) (omega (arith, p, q)) (omega (arith, p, q))

  pub both_put : (e t : ℕ) → e ≡ part_rows H Y → t ≡ near_rows H Y → {k₁ k₂ : List ℕ} → EndPut plan W 0 e live 0 t kept k₁
      → EndPut plan W (H - e) e live (H - t) t k₁ k₂ → BothPut plan W H Y live kept k₂
  both_put e t p q {k₁} {k₂} top bottom = record {
    between = k₁;
    first = subst (λ i. EndPut plan W 0 i live 0 (near_rows H Y) kept k₁) p (subst (λ j. EndPut plan W 0 e live 0 j kept k₁) q top);
    last = subst (λ i. EndPut plan W (H - i) i live (H - near_rows H Y) (near_rows H Y) k₁ k₂) p
        (subst (λ j. EndPut plan W (H - e) e live (H - j) j k₁ k₂) q bottom);
  }
