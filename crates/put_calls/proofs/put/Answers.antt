-- A refusal is the answer; else what no ground refuses fits, and is written.
use native.Mathlib.Omega.{arith}
use mathlib.Core.Path.{refl, sym}
use Rattle.frame_grounds.proofs.Sides.{sides}
use Rattle.put_calls.proofs.Fitting.{put_sides, put_done}
use Rattle.put_calls.proofs.put.Goals as goal

pub overflow_add-grid : goal.overflow_add-grid
overflow_add-grid c =
    let a = c.args in
    let b = sides a.w a.h (put_sides a.w a.h a.frame.now a.image.now (sym c.in_ok-put_refusal.ensures)) in
    omega arith

pub overflow_add-grid-2 : goal.overflow_add-grid-2
overflow_add-grid-2 c =
    let a = c.args in
    let b = sides a.w a.h (put_sides a.w a.h a.frame.now a.image.now (sym c.in_ok-put_refusal.ensures)) in
    omega arith

pub returns : goal.returns
returns c =
    let a = c.args in
    let d = c.distance-d in
    let v = c.outside in
    put_done a.w a.h a.frame.now a.image.now (sym c.in_ok-put_refusal.ensures) a.around d.result v.result d.ensures v.ensures c.cut.result _ _ refl c.cut.ensures
