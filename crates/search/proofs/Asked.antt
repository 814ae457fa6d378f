-- The list and the table that the quick search is asked with, a mask at a time; and what its answer says of lists that sum to the cells.
use mathlib.Core.Bool.{Bool}
use mathlib.Core.Path.{sym, subst, ◌∙◌}
use mathlib.Core.Bool.{false}
use mathlib.Core.Logic.{⊎_elim}
use mathlib.Core.List.{List}
use Prim.Native.Nat.{ℕ, ◌+◌, ◌%◌, ◌<◌}
use lib.Dec.{T}
use lib.ListN.{get_or}
use Rattle.masks.specs.Mask.{stage}
use Rattle.rows.specs.Cells.{Same, At, AtMask}
use Rattle.rows.proofs.Addition.{same_trans, stage_rows}
use Rattle.rows.proofs.Sums.{last_or}
use Rattle.edges.specs.Edges.{Number}
use Rattle.edges.specs.Numbers.{Numbered}
use Rattle.edges.proofs.Adding.{number_same}
use Rattle.edges.proofs.Greatest.{front_all}
use Rattle.completions.specs.Completing.{number_in}
use Rattle.search.specs.Tree.{tries}
use Rattle.search.specs.Asking.{Stored, Tabled}
use Rattle.search.proofs.Reaches.{mask_reach}

-- ---- the table

module _ (marks : List Bool) (table : List ℕ) (m : ℕ) (h : Tabled marks m table) where
  pub tabled_skip : (T (tries marks m) → ⊥) → Tabled marks (m + 1) table
  tabled_skip f = record {
    long = h.long;
    at = λ s b t. ⊎_elim (λ e. absurd (f (subst (λ (k : ℕ). T (tries marks k)) e t))) (λ w. h.at s w t) (last_or s m b);
  }

  pub tabled_more : (numbers table' : List ℕ) → Stored table m numbers 18 table' → ((i : ℕ) → i < 18 → Number i (AtMask m) (get_or numbers i 0))
      → Tabled marks (m + 1) table'
  tabled_more numbers table' g n = record {
    long = g.long ∙ h.long;
    at = λ s b t i l. ⊎_elim
        (λ e. subst (λ (k : ℕ). Number i (AtMask k) (number_in table' i k)) (sym e) (subst (Number i (AtMask m)) (sym (g.new i l)) (n i l)))
        (λ w. subst (Number i (AtMask s)) (sym (g.kept s i w l)) (h.at s w t i l))
        (last_or s m b);
  }

-- the numbers of a stage's rows are the stage's
pub stage_numbers : (m : ℕ) → T (stage m) → (rows r : List ℕ) → Same (At rows) (AtMask (m % 512)) → Numbered rows 3 r → (i : ℕ) → i < 18 → Number i
    (AtMask m) (get_or r i 0)
stage_numbers m t rows r e n i l =
    let f = stage_rows m t e in
    let c = mask_reach false m t in
    let a = front_all rows 3 (λ u v k. (f.to u v k).row) in
    number_same (same_trans a f) (n.number c.x c.y (a.from c.x c.y (f.from c.x c.y c.cell)) i l)
