-- The invariant: r has the numbers before i, each by the greatest values of its three directions.
use Rattle.std.proofs.Common.{◌≡◌, ℕ, ◌+◌, ◌*◌, ◌<◌, length}
use lib.ListN.{get_or}
use Rattle.edges.specs.Edges.{first_direction, second_direction, middle_of, times_of}
use Rattle.edge_steps.proofs.numbers.Given as goal

abbrev pub invariant-loop-i : goal.invariant-loop-i
invariant-loop-i l = (length l.r ≡ 18)
    × ((k : ℕ) → k < l.i → get_or l.r k 0 + (times_of k * get_or l.s (middle_of k) 0 + 128) ≡ get_or l.s (first_direction k) 0 + get_or l.s (second_direction k) 0 + times_of k * 64)
