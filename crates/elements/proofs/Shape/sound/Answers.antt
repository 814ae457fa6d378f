-- The first row and the first column with a cell are 0, and no cell is past 30 with the place added.
use mathlib.Core.Path.{◌≡◌, sym, subst, ◌∙◌}
use mathlib.Core.Bool.{true, true≢false}
use Prim.Native.Nat.{ℕ}
use lib.Dec.{eqb}
use borrow.Author.Tests.{eqb-true}
use Rattle.std.specs.Option.{option_eq}
use Rattle.std.specs.Prelude.{Option, None, Some}
use Rattle.rows.specs.Cells.{Cells}
use Rattle.rows.proofs.Known.{rows16}
use Rattle.extents.specs.Extents.{Least, FirstOf}
use Rattle.elements.proofs.Stands.{some, is_sound, sound_within}
use Rattle.elements.proofs.Shape.sound.Goals as goal
use Rattle.elements.proofs.Shape.sound.Goals.{then-self, else-self}
use Rattle.elements.proofs.Shape.sound.Goals.{then-eq, else-eq}

-- the least number is 0 where the test for it says so
zero_first : (number : ℕ → ℕ → ℕ) (X : Cells) (o : Option ℕ) → FirstOf number X o → option_eq eqb o (Some 0) ≡ true → Least number X 0
zero_first number X None f e = absurd (true≢false (sym e))
zero_first number X (Some n) f e = subst (Least number X) (eqb-true n 0 e) f

pub returns-then-eq-2-clause-yes : goal.returns-then-eq-2-clause-yes
returns-then-eq-2-clause-yes c = λ t.
    let s = c.args.self in
    elim c.if-eq.branch [
      | then-eq w ↦ elim c.if-self.branch [
        | then-self v ↦
            is_sound s (rows16 s.rows _ c.well_formed.0.1.1.1.1.1.0) v.if-self.true
            (zero_first _ _ v.first_row.result v.first_row.ensures (sym v.eq.ensures ∙ sym v.value-is ∙ w.if-eq.true))
            (zero_first _ _ w.first_column.result w.first_column.ensures (sym w.eq-then-eq.ensures ∙ sym w.value-is ∙ c.if-eq-2.true))
            (c.within.ensures.yes t)
        | else-self v ↦ cc
      ]
      | else-eq w ↦ cc
    ]

pub returns-then-eq-2-clause-no : goal.returns-then-eq-2-clause-no
returns-then-eq-2-clause-no c = λ f S.
    let s = c.args.self in
    c.within.ensures.no f (some S.top) (sound_within s (rows16 s.rows _ c.well_formed.0.1.1.1.1.1.0) S)
