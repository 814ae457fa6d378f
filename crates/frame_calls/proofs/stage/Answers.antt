-- A refusal is the answer; else what no ground refuses is ready, and the grid is written.
use mathlib.Core.Path.{◌≡◌, refl, sym, ◌∙◌, ap}
use mathlib.Core.List.{List}
use Prim.Native.Nat.{ℕ}
use native.Mathlib.Omega.{arith}
use Rattle.std.proofs.lemmas.Result.{err_from_is_err_and}
use Rattle.words.specs.Ground.{first_of}
use Rattle.words.proofs.Tested.{refused_call}
use Rattle.grids.specs.Grid.{stage_tests}
use Rattle.frame_grounds.specs.Looking.{greatest_byte, stage_tests_by}
use Rattle.frame_grounds.proofs.Looked.{stage_by}
use Rattle.frame_calls.proofs.Fitting.{ready, measured, stage_done}
use Rattle.frame_calls.proofs.stage.Goals as goal

-- the grounds were tried with the greatest byte of the grid
tried : (word w h : ℕ) (from to : List ℕ) {n s : ℕ} → n ≡ greatest_byte w h from → s ≡ first_of (stage_tests_by word w h from n to)
    → s ≡ first_of (stage_tests word w h from to)
tried word w h from to e t = t ∙ ap (λ n. first_of (stage_tests_by word w h from n to)) e ∙ stage_by word w h from to

pub returns-in_err-stage_refusal : goal.returns-in_err-stage_refusal
returns-in_err-stage_refusal c =
    let a = c.args in
    let k = c.in_err-stage_refusal in
    let p = err_from_is_err_and c.from_residual.result c.from_residual.ensures.1 in
    let e = tried a.word a.w a.h a.from.now a.to.now c.greatest_byte-greatest.ensures k.ensures in
    rw (p.1, p.2) (refused_call (stage_tests a.word a.w a.h a.from.now a.to.now) k.field-0.0 e refl refl)

pub by_two-requires : goal.by_two-requires
by_two-requires c =
    let a = c.args in
    ready a.word a.w a.h a.from.now a.to.now (sym (tried a.word a.w a.h a.from.now a.to.now c.greatest_byte-greatest.ensures c.in_ok-stage_refusal.ensures))

pub returns-then-greatest-gt1 : goal.returns-then-greatest-gt1
returns-then-greatest-gt1 c =
    let a = c.args in
    let z = sym (tried a.word a.w a.h a.from.now a.to.now c.greatest_byte-greatest.ensures c.in_ok-stage_refusal.ensures) in
    stage_done a.word a.w a.h a.from.now a.to.now z a.erode a.around _ _ refl c.by_two.ensures

pub by_one-requires : goal.by_one-requires
by_one-requires c =
    let a = c.args in
    let z = sym (tried a.word a.w a.h a.from.now a.to.now c.greatest_byte-greatest.ensures c.in_ok-stage_refusal.ensures) in
    let e = c.greatest_byte-greatest.ensures in
    let l = c.if-greatest-gt1.false in
    (ready a.word a.w a.h a.from.now a.to.now z, measured a.word a.w a.h a.from.now a.to.now z (omega arith))

pub returns-else-greatest-gt1 : goal.returns-else-greatest-gt1
returns-else-greatest-gt1 c =
    let a = c.args in
    let z = sym (tried a.word a.w a.h a.from.now a.to.now c.greatest_byte-greatest.ensures c.in_ok-stage_refusal.ensures) in
    stage_done a.word a.w a.h a.from.now a.to.now z a.erode a.around _ _ refl c.by_one.ensures
