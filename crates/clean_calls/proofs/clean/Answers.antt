-- A refusal is the answer, and nothing was written; else the frame is packed, the stages are run, and the result is cut.
use mathlib.Core.Path.{refl, sym}
use Rattle.std.proofs.lemmas.Result.{err_from_is_err_and}
use lib.Dec.{ltb}
use Rattle.words.proofs.Tested.{refused_call}
use Rattle.cleaning.specs.Cleaning.{operation_tests}
use Rattle.clean_calls.proofs.Accepted.{few_stages}
use Rattle.clean_calls.proofs.Working.{plan_accepted, packable, runs, ran}
use native.Mathlib.Omega.{arith}
use Rattle.clean_calls.proofs.clean.Goals as goal

pub returns-in_err-refused : goal.returns-in_err-refused
returns-in_err-refused c =
    let a = c.args in
    let k = c.in_err-refused in
    let p = err_from_is_err_and c.from_residual.result c.from_residual.ensures.1 in
    rw (p.1, p.2)
    (refused_call (operation_tests a.plan.now a.w a.h a.frame.now a.first.now a.second.now) k.field-0.0 k.ensures refl (refl, refl))

pub levels-requires : goal.levels-requires
levels-requires c =
    let a = c.args in
    let z = sym c.in_ok-refused.ensures in
    packable a.plan.now a.w a.h a.frame.now a.first.now a.second.now z c.greatest_cell-greatest.ensures

pub overflow_cast-result : goal.overflow_cast-result
overflow_cast-result c =
    let a = c.args in
    let z = sym c.in_ok-refused.ensures in
    let two = ltb 1 c.greatest_cell-greatest.result in
    let t = c.run-n.ensures.through (runs a.plan.now a.w a.h a.frame.now a.first.now a.second.now z two a.op c.levels.ensures) in
    omega (arith, few_stages a.plan.now (plan_accepted a.plan.now a.w a.h a.frame.now a.first.now a.second.now z) a.op t.ended.count)

pub returns : goal.returns
returns c =
    let a = c.args in
    let z = sym c.in_ok-refused.ensures in
    let two = ltb 1 c.greatest_cell-greatest.result in
    let t = c.run-n.ensures.through (runs a.plan.now a.w a.h a.frame.now a.first.now a.second.now z two a.op c.levels.ensures) in
    ran a.plan.now a.w a.h a.frame.now a.first.now a.second.now z two a.op c.levels.ensures t.ended t.away _ refl
