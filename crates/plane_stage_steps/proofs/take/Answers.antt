-- The passes, and then the bounds.
use native.Mathlib.Omega.{arith}
use Prim.Native.Nat.{◌+◌, ◌-◌, ◌*◌}
use native.Mathlib.Nat.{add-mul}
use lib.ListN.{length}
use borrow.Rule.Slice.PartMut.{mid_of, mid_len}
use Rattle.planes.specs.Planes.{byte_rows}
use Rattle.plane_row_steps.proofs.Rooms.{rows_there}
use Rattle.plane_stage_steps.proofs.PlaneStage.{plane_taken}
use Rattle.plane_stage_steps.proofs.take.Goals as goal

pub returns : goal.returns
returns c =
    let a = c.args in
    let v = a.plane in
    let s = v.columns + 2 in
    let n = byte_rows v.rows in
    let e = n * s + s in
    let m = mid_len (s + 2) e a.dst.now (omega (arith, add-mul n 2 s)) in
    let there = rows_there (length (mid_of (s + 2) (e - (s + 2)) a.dst.now)) (length a.src.now) s (omega arith)
    (omega (arith, m, add-mul n 2 s)) in
    plane_taken a.stage.erode v.outside v.columns v.rows a.stage.mask a.src.now a.dst.now _ _ (omega arith) (omega arith) (omega arith)
    (c.rows.ensures.done there)
    (rw c.last_rows.ensures at c.bound.ensures)
