-- The rows that are worked out anew, from parts of the live frame: those near row 0 depend on its first 2Y + 1 rows at most, those near the last row on its
-- last 2Y + 1. So the dilations of these two parts and the rows that are only moved make up the kept frame.
use mathlib.Core.Path.{◌≡◌, refl, sym, ◌∙◌, ap, subst}
use mathlib.Core.Logic.{◌⊎◌, inl, inr}
use mathlib.Core.Bool.{not}
use mathlib.Core.List.{List}
use Prim.Native.Nat.{ℕ, suc, ◌+◌, ◌-◌, ◌*◌, ◌≤◌, ◌<◌, zero-le}
use native.Mathlib.Omega.{arith}
use native.Mathlib.Nat.{mul_comm, mul-le-mul_right, add-mul}
use lib.Dec.{T, ltb, lt→ltb, ltb→lt}
use lib.IntN.{pos}
use lib.ListN.{length, get_or, drop, length-drop, get_or-append}
use lib.Seq.{get_or-take, get_or-drop}
use Rattle.plane.specs.Lists.{In}
use Rattle.plane.specs.Point.{Point}
use Rattle.plane.proofs.Tests.{T_and, clash, lt_or_le}
use Rattle.words.specs.Ground.{first_of}
use Rattle.words.proofs.Refusals.{clear}
use Rattle.shapes.specs.Plan.{plan_masks, plan_offset, plan_points, plan_tests}
use Rattle.shapes.proofs.Written.{plan_itself}
use Rattle.grids.specs.Frame.{highest, bad_cell}
use Rattle.cleaning.specs.Operation.{Direct, in_turn}
use Rattle.cleaning.specs.declared.Operation.{Operation}
use Rattle.cleaning.specs.declared.Operation.TheVariants.{Dilation}
use Rattle.cleaning.proofs.Fixed.{direct_cell}
use Rattle.cleaning.proofs.Plans.{passing, small_plan}
use Rattle.cleaning.proofs.Turn.{turn_direct}
use Rattle.rolling.specs.Ends.{rows_of, near_rows, part_rows, EndPut}
use Rattle.rolling.specs.Rolling.{rolled, greatest_y, farther, DilatedTo, Rolled}
use Rattle.rolling.proofs.Part.{Amid, part_dilation}
use Rattle.rolling.proofs.Clean.{none_drop, none_take}

-- ---- parts that are long enough

pub top_amid : (H Y r : ℕ) → r < H → r ≤ Y → Amid (part_rows H Y) H 0 Y (r - 0)
top_amid H Y r h k = record { inner = omega arith; here = omega arith; first = inl refl; last = go (lt_or_le (2 * Y + 1) H) }
  where
    go : (2 * Y + 1 < H) ⊎ (H ≤ 2 * Y + 1) → (0 + part_rows H Y ≡ H) ⊎ (r - 0 + Y < part_rows H Y)
    go (inl l) = inr (omega arith)
    go (inr l) = inl (omega arith)

pub bottom_amid : (H Y r : ℕ) → r < H → H - 1 - r ≤ Y → Amid (part_rows H Y) H (H - part_rows H Y) Y (r - (H - part_rows H Y))
bottom_amid H Y r h k = record { inner = omega arith; here = omega arith; first = go (lt_or_le (2 * Y + 1) H); last = inl (omega arith) }
  where
    go : (2 * Y + 1 < H) ⊎ (H ≤ 2 * Y + 1) → (H - part_rows H Y ≡ 0) ⊎ (Y ≤ r - (H - part_rows H Y))
    go (inl l) = inr (omega arith)
    go (inr l) = inl (omega arith)

-- the cells of a part
rows_at : (W a e : ℕ) (f : List ℕ) (x y : ℕ) → x < W → y < e → get_or (rows_of W a e f) (y * W + x) 0 ≡ get_or f ((a + y) * W + x) 0
rows_at W a e f x y h k =
    let m = mul-le-mul_right {m = suc y} {n = e} W k in
    get_or-take (e * W) (drop (a * W) f) (y * W + x) 0 (omega arith) ∙ get_or-drop (a * W) f (y * W + x) 0 ∙ ap (λ n. get_or f n 0) (omega (arith, add-mul a y W))

-- the dilation of a part that is long enough is that of the frame
part_gives : (P : List Point) (W H a e : ℕ) (f made : List ℕ) → Direct Dilation W e (rows_of W a e f) (In P) made → (x r : ℕ) → x < W → a ≤ r
    → Amid e H a (greatest_y P) (r - a) → DilatedTo W H f (In P) (pos x, pos r) (get_or made ((r - a) * W + x) 0)
part_gives P W H a e f made D x r h l A =
    let v = get_or made ((r - a) * W + x) 0 in
    let p : Point = (pos x, pos (r - a)) in
    let here = subst (DilatedTo W e (rows_of W a e f) (In P) p) (sym (direct_cell Dilation W e (rows_of W a e f) (In P) made D x (r - a) h A.here))
    (D.made p) in
    let s = (part_dilation W H e a f (rows_of W a e f) (rows_at W a e f) P x (r - a) h A v).0 here in
    let q : a + (r - a) ≡ r = omega arith in
    subst (λ n. DilatedTo W H f (In P) (pos x, pos n) v) q s

-- an accepted plan's stages give in turn, of cells that pass ground 13 in any number of rows, what its points give directly
pub plan_direct : (op : Operation) (plan : List ℕ) (W h : ℕ) (g : List ℕ) → first_of (plan_tests plan) ≡ 0 → T (not (bad_cell g))
    → Direct op W h g (In (plan_points plan)) (in_turn op W h g (plan_offset plan) (plan_masks plan))
unfolding plan_tests
plan_direct op plan W h g z t =
    let c = (clear (plan_tests plan) tt z).1.1.1.1.1 in
    let P = plan_itself plan c.0 in
    turn_direct op W h g (plan_offset plan) (plan_masks plan) (In (plan_points plan)) P.stages (small_plan plan P.stages c.1.0) (passing g t) P.sum

-- ---- rows that are moved

-- the next row of before
pub next_row : (W H : ℕ) (row f : List ℕ) → length f ≡ W * H → (x r : ℕ) → x < W → suc r < H → get_or (rolled W f row) (r * W + x) 0 ≡ get_or f (suc r * W + x) 0
next_row W H row f s x r h k =
    let m = mul-le-mul_right {m = suc (suc r)} {n = H} W k in
    let l : r * W + x < length (drop W f) = omega (arith, m, length-drop W f, s, mul_comm W H) in
    let e : W + (r * W + x) ≡ suc r * W + x = omega arith in
    get_or-append (drop W f) row 0 (r * W + x) l ∙ get_or-drop W f (r * W + x) 0 ∙ ap (λ n. get_or f n 0) e

-- a row that is not only moved is near an end
pub near_end : (H Y r : ℕ) → T (not (farther H Y r)) → (r ≤ Y) ⊎ (H - 1 - r ≤ Y)
near_end H Y r t = go (lt_or_le Y r) (lt_or_le Y (H - 1 - r))
  where
    go : (Y < r) ⊎ (r ≤ Y) → (Y < H - 1 - r) ⊎ (H - 1 - r ≤ Y) → (r ≤ Y) ⊎ (H - 1 - r ≤ Y)
    go (inr l) v = inl l
    go (inl l) (inr v) = inr v
    go (inl l) (inl v) = absurd (clash (farther H Y r) t ((T_and (ltb Y r) (ltb Y (H - 1 - r))).1 (lt→ltb Y r l, lt→ltb Y (H - 1 - r) v)))

-- how many rows lie near either end
few_near : (H Y r : ℕ) → Y < r → Y < H - 1 - r → (0 + near_rows H Y ≤ r) × (r < H - near_rows H Y)
few_near H Y r h k = (omega arith, omega arith)

-- ---- both ends, and the rows between them

module _ (plan : List ℕ) (z : first_of (plan_tests plan) ≡ 0) (W H : ℕ) (f : List ℕ) (clean : T (not (bad_cell f))) where
  abbrev P : List Point
  P = plan_points plan

  abbrev Y : ℕ
  Y = greatest_y P

  abbrev e : ℕ
  e = part_rows H Y

  abbrev t : ℕ
  t = near_rows H Y

  -- a part's rows, as they were put
  end_says : {a b : ℕ} {kept kept' : List ℕ} → EndPut plan W a e f b t kept kept' → (x r : ℕ) → x < W → b ≤ r → r < b + t → a ≤ r → Amid e H a Y (r - a)
      → DilatedTo W H f (In P) (pos x, pos r) (get_or kept' (r * W + x) 0)
  end_says {a} E x r h k l m A =
      let part_clean = none_take (ltb highest) (e * W) (drop (a * W) f) (none_drop (ltb highest) (a * W) f clean) in
      let D = plan_direct Dilation plan W e (rows_of W a e f) z part_clean in
      subst (DilatedTo W H f (In P) (pos x, pos r)) (sym (E.near x r h k l)) (part_gives P W H a e f _ D x r h m A)

  pub by_ends : (row live kept : List ℕ) {k₁ k₂ : List ℕ} → f ≡ rolled W live row → length row ≡ W → length kept ≡ W * H → length (rolled W kept row) ≡ W * H
      → EndPut plan W 0 e f 0 t (rolled W kept row) k₁ → EndPut plan W (H - e) e f (H - t) t k₁ k₂
      → Rolled P W H row live kept f k₂
  by_ends row live kept {k₁} {k₂} shows wide size long top bottom = record {
    shown = shows;
    size = bottom.size ∙ top.size ∙ long;
    moved = λ x r h k u.
        let v = (T_and (ltb Y r) (ltb Y (H - 1 - r))).0 u in
        let n = few_near H Y r (ltb→lt Y r v.0) (ltb→lt Y (H - 1 - r) v.1) in
        bottom.far x r h (inl n.1) ∙ top.far x r h (inr n.0) ∙ next_row W H row kept size x r h (omega (arith, n.1));
    anew = λ x r h k u. go x r h k (lt_or_le r (H - t)) (near_end H Y r u);
  }
    where
      go : (x r : ℕ) → x < W → r < H → (r < H - t) ⊎ (H - t ≤ r) → (r ≤ Y) ⊎ (H - 1 - r ≤ Y)
          → DilatedTo W H f (In P) (pos x, pos r) (get_or k₂ (r * W + x) 0)
      go x r h k (inr l) u = end_says bottom x r h l (omega arith) (omega arith) (bottom_amid H Y r k (omega arith))
      go x r h k (inl l) (inl u) =
          subst (DilatedTo W H f (In P) (pos x, pos r)) (sym (bottom.far x r h (inl l)))
          (end_says top x r h zero-le (omega arith) zero-le (top_amid H Y r k u))
      go x r h k (inl l) (inr u) = absurd (omega arith)
