-- The invariant: out is the list of the rows before y, and past its n words as it was.
use Prim.Native.Nat.{◌≤◌}
use lib.ListN.{length}
use Rattle.lists.proofs.Written.{Writing}
use Rattle.word_steps.proofs.write_list.Given as goal

abbrev pub invariant-loop-y : goal.invariant-loop-y
invariant-loop-y l = (17 ≤ length l.out) × Writing l.ax l.ay l.rows l.initial.out l.y l.n l.out
