-- A refusal is the answer, and nothing was written; else the row arrives, and the kept frame is brought up to date.
use mathlib.Core.Path.{refl, sym}
use Rattle.std.proofs.lemmas.Result.{err_from_is_err_and}
use Rattle.words.proofs.Refusals.{promised_done}
use Rattle.words.proofs.Tested.{refused_call}
use Rattle.rolling.specs.Rolling.{arrival_tests}
use Rattle.rolling_calls.proofs.Arriving.{live_room, kept_room, reached, anew_ready, arrived}
use Rattle.rolling_calls.proofs.arrive.Goals as goal

pub returns-in_err-arrival_refusal : goal.returns-in_err-arrival_refusal
returns-in_err-arrival_refusal c =
    let a = c.args in
    let k = c.in_err-arrival_refusal in
    let p = err_from_is_err_and c.from_residual.result c.from_residual.ensures.1 in
    rw (p.1, p.2) (refused_call (arrival_tests a.plan.now a.w a.h a.row.now a.live.now a.kept.now) k.field-0.0 k.ensures refl (refl, refl))

pub anew-requires : goal.anew-requires
anew-requires c =
    let a = c.args in
    let z = sym c.in_ok-arrival_refusal.ensures in
    let far = reached a.plan.now a.w a.h a.row.now a.live.now a.kept.now z c.reach-y.result c.reach-y.ensures.of_a_plan in
    let live = c.roll.ensures.arrives (live_room a.plan.now a.w a.h a.row.now a.live.now a.kept.now z) in
    let kept = c.roll-2.ensures.arrives (kept_room a.plan.now a.w a.h a.row.now a.live.now a.kept.now z) in
    anew_ready a.plan.now a.w a.h a.row.now a.live.now a.kept.now z c.reach-y.result far live kept

pub returns : goal.returns
returns c =
    let a = c.args in
    let z = sym c.in_ok-arrival_refusal.ensures in
    let far = reached a.plan.now a.w a.h a.row.now a.live.now a.kept.now z c.reach-y.result c.reach-y.ensures.of_a_plan in
    let live = c.roll.ensures.arrives (live_room a.plan.now a.w a.h a.row.now a.live.now a.kept.now z) in
    let kept = c.roll-2.ensures.arrives (kept_room a.plan.now a.w a.h a.row.now a.live.now a.kept.now z) in
    promised_done (arrival_tests a.plan.now a.w a.h a.row.now a.live.now a.kept.now) z
    (refl, arrived a.plan.now a.w a.h a.row.now a.live.now a.kept.now z c.reach-y.result far live kept c.anew.ensures)
