-- A node's invariant: of the masks that have the number those from j on were tried. The measure is what document 01's form names: the remaining extents and
-- the remaining stages of the list, doubled so that it falls from node to stage too.
use lib.ListN.{length, get_or, take}
use Rattle.completions.proofs.Nodes.{Turned}
use Prim.Native.Nat.{◌+◌, ◌*◌}
use Rattle.completion_steps.proofs.+node_stage.Given as goal

abbrev pub decreases-node : goal.decreases-node
decreases-node l = (get_or l.here.need 16 0 + get_or l.here.need 17 0 + length l.cand.now) * 2 + 1

abbrev pub decreases-stage : goal.decreases-stage
decreases-stage l = (get_or l.here.need 16 0 + get_or l.here.need 17 0 + (l.j + 1)) * 2

abbrev pub invariant-node-loop-j : goal.invariant-node-loop-j
invariant-node-loop-j l = Turned l.nums l.here l.cand l.k (take l.b.count l.list) l.j
