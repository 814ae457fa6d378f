-- The invariant: the first t of the other list stand behind the first p.
use Rattle.std.proofs.Common.{◌≡◌, length}
use Rattle.completions.proofs.Drawing.{AppendedTo}
use Rattle.pool_steps.proofs.pools.appended.Given as goal

abbrev pub invariant-loop-t : goal.invariant-loop-t
invariant-loop-t l = length l.initial.list ≡ 512 → AppendedTo l.initial.list l.list l.other l.p l.t
