-- Whether the rows before i are the same.
use Rattle.std.proofs.Common.{◌≡◌, ◌<◌, ℕ, true, false}
use lib.ListN.{get_or}
use Rattle.row_steps.proofs.same.Given as goal

abbrev pub invariant-loop-i : goal.invariant-loop-i
invariant-loop-i l = (l.all ≡ true → (q : ℕ) → q < l.i → get_or l.a q 0 ≡ get_or l.b q 0) × (l.all ≡ false → l.a ≡ l.b → ⊥)
