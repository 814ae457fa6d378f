-- Column 0 is the bits 0, 3 and 6.
use mathlib.Core.Path.{◌≡◌, ◌∙◌, sym, subst}
use mathlib.Core.Bool.{true}
use Prim.Native.Nat.{◌/◌, ◌%◌}
use lib.Dec.{T, eqb}
use borrow.Author.Tests.{eq-eqb, ne_eqb}
use Rattle.masks.proofs.Shifts.{column_bits, column_bits_lem}
use Rattle.masks.proofs.in_column_0.Goals as goal
use Rattle.masks.proofs.in_column_0.Goals.{then-m-eq1, else-m-eq1}

pub returns-then-m-eq1-2 : goal.returns-then-m-eq1-2
returns-then-m-eq1-2 c =
    let a = c.args in
    elim c.if-m-eq1.branch [
      | then-m-eq1 w ↦
          let e : true ≡ column_bits a.m = rw (eq-eqb (a.m % 2) 1 w.if-m-eq1.true) in
          c.if-m-eq1-2.true ∙ e ∙ column_bits_lem a.m c.requires
      | else-m-eq1 w ↦
          let b : eqb (a.m / 8 % 2) 1 ≡ true = sym w.value-is ∙ c.if-m-eq1-2.true in
          let e : true ≡ column_bits a.m = simp (ne_eqb (a.m % 2) 1 w.if-m-eq1.false, b) in
          c.if-m-eq1-2.true ∙ e ∙ column_bits_lem a.m c.requires
    ]

pub returns-else-m-eq1-2 : goal.returns-else-m-eq1-2
returns-else-m-eq1-2 c =
    let a = c.args in
    elim c.if-m-eq1.branch [
      | then-m-eq1 w ↦ absurd (subst T (sym (w.value-is ∙ eq-eqb (a.m % 2) 1 w.if-m-eq1.true) ∙ c.if-m-eq1-2.false) tt)
      | else-m-eq1 w ↦
          let e : eqb (a.m / 64 % 2) 1 ≡ column_bits a.m
          = simp (ne_eqb (a.m % 2) 1 w.if-m-eq1.false, sym w.value-is ∙ c.if-m-eq1-2.false) in
          e ∙ column_bits_lem a.m c.requires
    ]
