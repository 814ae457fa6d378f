-- The measure is what document 01's form names: the remaining extents and the remaining stage numbers, doubled so that it falls from node to stage too.
-- The invariant of node's loop: of k stages from m on, what completes the sum has none below `i`.
use lib.ListN.{get_or}
use Rattle.completions.specs.Completing.{aim_of, partial_sum}
use Rattle.search.specs.Tree.{Narrowed, tries}
use Prim.Native.Nat.{◌+◌, ◌*◌, ◌-◌}
use Rattle.search_steps.proofs.+node_stage.Given as goal

abbrev pub decreases-node : goal.decreases-node
decreases-node l = (get_or l.here.need 16 0 + get_or l.here.need 17 0 + (512 - l.m)) * 2 + 1

abbrev pub decreases-stage : goal.decreases-stage
decreases-stage l = (get_or l.here.need 16 0 + get_or l.here.need 17 0 + (512 - l.m)) * 2

abbrev pub invariant-node-loop-i : goal.invariant-node-loop-i
invariant-node-loop-i l = Narrowed (tries l.marks) (aim_of l.here) (partial_sum l.here) l.k l.m l.i
