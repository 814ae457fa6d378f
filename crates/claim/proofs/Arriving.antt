-- An arriving row, from its promise: the live frame cell by cell, and that a row is farther than the greatest |y| where it is farther than each.
use mathlib.Core.Path.{◌≡◌, ◌∙◌, ap}
use mathlib.Core.Logic.{◌⊎◌, inl, inr}
use mathlib.Core.Bool.{not}
use mathlib.Core.List.{List, ◌++◌}
use Prim.Native.Nat.{ℕ, suc, ◌+◌, ◌-◌, ◌*◌, ◌<◌}
use native.Mathlib.Omega.{arith}
use native.Mathlib.Nat.{mul_comm}
use lib.Dec.{T, ltb, lt→ltb, ltb→lt}
use lib.ListN.{length, get_or, drop, length-drop}
use lib.Seq.{get_or-append-add}
use Rattle.plane.specs.Lists.{In}
use Rattle.plane.specs.Point.{Point}
use Rattle.plane.proofs.Tests.{T_and, T_dec}
use Rattle.words.specs.Ground.{first_of}
use Rattle.words.specs.Ground.{Answer}
use Rattle.words.proofs.Refusals.{clear}
use Rattle.shapes.specs.Plan.{plan_points, plan_masks, plan_tests, wrong_masks}
use Rattle.rolling.specs.Rolling.{rolled, greatest_y, farther, arrival_tests, Arrived}
use Rattle.rolling.proofs.Local.{greatest_y_lem}
use Rattle.rolling.proofs.Ends.{next_row}
use Rattle.rolling.proofs.Reach.{plan_below}
use Rattle.rolling.proofs.Rolls.{Accepted, call_accepted, step, rolling, shape_rolling}
use Rattle.rolling.proofs.Present.{live_good, shows}
use Rattle.claim.specs.Frames.{Farther, RowShows}
use Rattle.claim.specs.Waterfall.{Waterfall}

module _ (plan : List ℕ) (W H : ℕ) (row live kept : List ℕ) (z : first_of (arrival_tests plan W H row live kept) ≡ 0) where
  A : Accepted W H row live kept
  A = call_accepted plan W H row live kept z

  masks_pass : T (not (wrong_masks (plan_masks plan)))
  unfolding arrival_tests plan_tests
  masks_pass = (clear (arrival_tests plan W H row live kept) tt z).1.1.1.1.1.0

  abbrev P : List Point
  P = plan_points plan

  -- farther than each point is farther than the greatest |y|, and the other way round
  to_greatest : (r : ℕ) → Farther (In P) H r → T (farther H (greatest_y P) r)
  to_greatest r f =
      (T_and (ltb (greatest_y P) r) (ltb (greatest_y P) (H - 1 - r))).1 (
        lt→ltb (greatest_y P) r (plan_below plan masks_pass r (λ p h. (f p h).0)),
        lt→ltb (greatest_y P) (H - 1 - r) (plan_below plan masks_pass (H - 1 - r) (λ p h. (f p h).1)),
      )

  to_each : (r : ℕ) → T (farther H (greatest_y P) r) → Farther (In P) H r
  to_each r t p h =
      let u = (T_and (ltb (greatest_y P) r) (ltb (greatest_y P) (H - 1 - r))).0 t in
      let a = ltb→lt (greatest_y P) r u.0 in
      let b = ltb→lt (greatest_y P) (H - 1 - r) u.1 in
      let g = greatest_y_lem P p h in
      (omega (arith, a, g), omega (arith, b, g))

  near_greatest : (r : ℕ) → ¬ Farther (In P) H r → T (not (farther H (greatest_y P) r))
  near_greatest r n = go (T_dec (farther H (greatest_y P) r))
    where
      go : T (farther H (greatest_y P) r) ⊎ T (not (farther H (greatest_y P) r)) → T (not (farther H (greatest_y P) r))
      go (inl t) = absurd (n (to_each r t))
      go (inr t) = t

  -- the last row of the live frame
  last_row_lem : (x r : ℕ) → x < W → suc r ≡ H → get_or (rolled W live row) (r * W + x) 0 ≡ get_or row x 0
  last_row_lem x r h k =
      let m : suc r * W ≡ H * W = ap (λ n. n * W) k in
      let e : r * W + x ≡ length (drop W live) + x = omega (arith, m, length-drop W live, A.live_size, mul_comm W H) in
      ap (λ n. get_or (drop W live ++ row) n 0) e ∙ get_or-append-add (drop W live) row x 0

  pub row_shows : (s : Answer) (live' kept' : List ℕ) → Arrived plan W H row live kept s live' kept' → RowShows (In P) W H row live kept s live' kept'
  row_shows s live' kept' a =
      let w = a.done z in
      let R = w.1 in record {
        answer = w.0;
        live_size = ap length R.shown ∙ (live_good W H row live kept A).size;
        next = λ x r h k. ap (λ l. get_or l (r * W + x) 0) R.shown ∙ next_row W H row live A.live_size x r h k;
        last = λ x r h k. ap (λ l. get_or l (r * W + x) 0) R.shown ∙ last_row_lem x r h k;
        kept_size = R.size;
        far = λ x r h k f. R.moved x r h k (to_greatest r f);
        near = λ x r h k n. R.anew x r h k (near_greatest r n);
      }

pub waterfall : Waterfall
waterfall = record { right = rolling; step = step; shape = shape_rolling; present = shows }
