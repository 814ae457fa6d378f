-- The cells and the anchor that the list holds, as a window.
use Rattle.shape_calls.proofs.Reading.{held_made}
use Rattle.rows.proofs.Known.{rows16}
use Rattle.shape_calls.proofs.read_shape.Goals as goal

pub returns : goal.returns
returns c =
    let ws = c.args.ws.now in
    let a = c.read_anchor-anchor in
    let r = c.read_rows-rows in
    held_made ws (record { ax = a.result.x; ay = a.result.y; rows = r.result }) (rows16 r.result _ r.type_inv) a.ensures.0 a.ensures.1
    r.ensures c.from_window.result c.from_window.ensures
