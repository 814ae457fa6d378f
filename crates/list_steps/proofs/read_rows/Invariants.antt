-- The invariant: the cells read with those of the words from i on are the list's.
use Rattle.lists.proofs.Joined.{ReadTo}
use Rattle.list_steps.proofs.read_rows.Given as goal

abbrev pub invariant-loop-i : goal.invariant-loop-i
invariant-loop-i l = ReadTo l.ws l.i l.r
