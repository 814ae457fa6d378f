-- Ground 9 of planning, tried after the shape's grounds: the output list is too short, or the call does its work.
use mathlib.Core.Path.{◌≡◌, sym, ◌∙◌, ap, subst}
use mathlib.Core.Bool.{cond}
use mathlib.Core.List.{List, [], ◌∷◌}
use Prim.Native.Nat.{ℕ, ◌≤◌, ◌<◌}
use native.Mathlib.Omega.{arith}
use borrow.Author.Tests.{lt-ltb, le-ltb}
use lib.ListN.{length}
use Rattle.words.specs.Ground.{first_of, Promised}
use Rattle.words.proofs.Refusals.{promised_rest, promised_done, promised_refusal}
use Rattle.shapes.specs.Calls.{short_output}
use Rattle.shapes.specs.Shape.{shape_tests}
use Rattle.shape_calls.proofs.Calls.{shape_clear}
use Rattle.planning.specs.Planning.{planning_tests}

module _ {Refuses : ℕ → Type 0} {Unchanged Work : Type 0} (ws out : List ℕ) (z : first_of (shape_tests ws) ≡ 0) where
  pub too_short : length out < 32 → Refuses 9 → Unchanged → Promised (planning_tests ws out) Refuses Unchanged Work
  too_short h s u =
      promised_rest (shape_tests ws) _ (shape_clear ws z) (promised_refusal _ (λ e. let q = sym nine ∙ e in omega arith) (subst Refuses (sym nine) s) u)
    where
      nine : first_of ((9, short_output 32 out) ∷ []) ≡ 9
      nine = ap (λ b. cond b 9 0) (lt-ltb (length out) 32 h)

  pub long_enough : 32 ≤ length out → Work → Promised (planning_tests ws out) Refuses Unchanged Work
  long_enough h w = promised_rest (shape_tests ws) _ (shape_clear ws z) (promised_done _ none w)
    where
      none : first_of ((9, short_output 32 out) ∷ []) ≡ 0
      none = ap (λ b. cond b 9 0) (le-ltb (length out) 32 h)
