-- A refused frame is refused, and so is one without a measured cell; else its occupied cells are counted, and 10,000 times as many divided by those measured.
use mathlib.Core.Path.{◌≡◌, refl, sym, ◌∙◌, ap, ap₂, subst}
use mathlib.Core.Bool.{cond}
use mathlib.Core.List.{List, [], ◌∷◌}
use Prim.Native.Nat.{ℕ, ◌*◌, ◌/◌, ◌%◌, ◌≤◌}
use native.Mathlib.Omega.{arith}
use lib.Dec.{eqb}
use lib.ListN.{length}
use borrow.Author.Tests.{eqb-false}
use Rattle.std.proofs.lemmas.Result.{err_from_is_err_and}
use Rattle.words.specs.Ground.{first_of}
use Rattle.words.proofs.Refusals.{clear, rest_append, promised_done, promised_refusal}
use Rattle.words.proofs.Tested.{refused_first}
use Rattle.grids.specs.Frame.{frame_tests, load}
use Rattle.grids.specs.Share.{exact, measured, none_measured, share_tests, TenThousandths}
use Rattle.grids.proofs.Shares.{load_most, can_share}
use Rattle.cell_steps.proofs.Loops.{times_load}
use Rattle.frame_grounds.specs.Looking.{greatest_cell, frame_tests_by}
use Rattle.frame_grounds.proofs.Accepted.{size_passes, length_passes, frame_length}
use Rattle.frame_grounds.proofs.Looked.{frame_by, cell_all}
use Rattle.frame_grounds.proofs.Sides.{few_cells}
use Rattle.load_calls.proofs.share.Goals as goal

-- with the greatest number that was found, the tests are the frame's
tested_is : (w h : ℕ) (f : List ℕ) (g : ℕ) (x : ℕ) → g ≡ greatest_cell w h f → x ≡ first_of (frame_tests_by w h f g) → x ≡ first_of (frame_tests w h f)
tested_is w h f g x e o = o ∙ ap (λ n. first_of (frame_tests_by w h f n)) e ∙ frame_by w h f

-- a frame that is not refused is as long as it should be, and has few cells
few : (w h : ℕ) (f : List ℕ) → first_of (frame_tests w h f) ≡ 0 → length f ≤ 57600
few w h f z = let l = few_cells w h (size_passes w h f z) in omega (arith, frame_length w h f z)

-- then ground 16 alone decides
last : (w h : ℕ) (f : List ℕ) → first_of (frame_tests w h f) ≡ 0 → first_of (share_tests w h f) ≡ cond (none_measured f) 16 0
unfolding frame_tests share_tests
last w h f z = rest_append (frame_tests w h f) ((16, none_measured f) ∷ []) (clear (frame_tests w h f) tt z)

pub returns-in_err-frame_tested : goal.returns-in_err-frame_tested
unfolding share_tests
returns-in_err-frame_tested c =
    let a = c.args in
    let f = a.frame.now in
    let p = err_from_is_err_and c.from_residual.result c.from_residual.ensures.1 in
    let e = tested_is a.w a.h f _ _ c.greatest_cell-greatest.ensures c.in_err-frame_tested.ensures in
    rw (p.1, p.2) (refused_first (frame_tests a.w a.h f) c.in_err-frame_tested.field-0.0 e ((16, none_measured f) ∷ []) refl tt)

pub measured-all-requires : goal.measured-all-requires
measured-all-requires c =
    let a = c.args in
    let f = a.frame.now in
    let z = sym (tested_is a.w a.h f _ _ c.greatest_cell-greatest.ensures c.in_ok-frame_tested.ensures) in (
      few a.w a.h f z,
      c.greatest_cell-greatest.ensures ∙ cell_all a.w a.h f (size_passes a.w a.h f z) (length_passes a.w a.h f z),
    )

pub returns-in_err-tried : goal.returns-in_err-tried
returns-in_err-tried c =
    let a = c.args in
    let f = a.frame.now in
    let y = sym (tested_is a.w a.h f _ _ c.greatest_cell-greatest.ensures c.in_ok-frame_tested.ensures) in
    let p = err_from_is_err_and c.from_residual-in_err-tried.result c.from_residual-in_err-tried.ensures.1 in
    let q = c.in_err-tried.ensures in
    let e : first_of (share_tests a.w a.h f) ≡ 16 = last a.w a.h f y ∙ ap (λ b. cond b 16 0) (ap (λ n. eqb n 0) (sym c.measured-all.ensures) ∙ q.0) in
    rw (p.1, p.2, q.1) (promised_refusal (share_tests a.w a.h f) (λ z. let n = sym e ∙ z in absurd (omega arith)) (ap (λ k. (k, 0, 0)) (sym e)) tt)

pub ten_thousandths-requires : goal.ten_thousandths-requires
ten_thousandths-requires c =
    let a = c.args in
    let f = a.frame.now in
    let y = sym (tested_is a.w a.h f _ _ c.greatest_cell-greatest.ensures c.in_ok-frame_tested.ensures) in
    let l = few a.w a.h f y in
    let n = c.times-n.ensures.few (omega arith) ∙ times_load f in
    let m = eqb-false _ 0 c.in_ok-tried.ensures in
    (omega (arith, load_most f), omega arith)

pub returns : goal.returns
returns c =
    let a = c.args in
    let f = a.frame.now in
    let y = sym (tested_is a.w a.h f _ _ c.greatest_cell-greatest.ensures c.in_ok-frame_tested.ensures) in
    let l = few a.w a.h f y in
    let n = c.times-n.ensures.few (omega arith) ∙ times_load f in
    let z : first_of (share_tests a.w a.h f) ≡ 0 =
    last a.w a.h f y ∙ ap (λ b. cond b 16 0) (ap (λ n. eqb n 0) (sym c.measured-all.ensures) ∙ c.in_ok-tried.ensures) in
    let t = c.ten_thousandths in
    let e : exact t.result.quotient t.result.remainder ≡ exact (10000 * load f / measured f) (10000 * load f % measured f) =
    ap₂ exact t.ensures.0 t.ensures.1 ∙ ap₂ (λ k n. exact (10000 * k / n) (10000 * k % n)) n c.measured-all.ensures in
    promised_done (share_tests a.w a.h f) z (subst (TenThousandths f) (sym e) (can_share a.w a.h f z))
