-- The step, and the question below it.
use mathlib.Core.Path.{◌≡◌, refl}
use mathlib.Core.Bool.{Bool, true, false}
use Rattle.std.specs.Prelude.{MatchOption}
use Rattle.std.specs.Bool.{then_some}
use Rattle.completions.specs.declared.Here.{Here}
use Rattle.completions.proofs.Opening.{shut_none}
use Rattle.completion_steps.proofs.opened.Goals as goal

-- a value that is kept where r is true
kept : (r : Bool) (P : Type 0) (Q : Here → Type 0) (b : Here) → (r ≡ false → P) → Q b → MatchOption (then_some r b) P Q
kept false P Q b f q = f refl
kept true P Q b f q = q

pub returns : goal.returns
returns c =
    let a = c.args in
    let room = c.roomy.ensures.0 c.if-not-roomy.false in
    rw c.then_some.ensures (kept c.node.result _ _ _
    (λ e. shut_none a.nums.now a.cand.now a.here a.m a.k _ c.in_ok-below.ensures.1 (c.node.ensures e))
    (record { list = room.0; path = room.1 }, c.in_ok-below.ensures.1))
