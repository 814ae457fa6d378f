-- Worked cases of cells of rows and masks.
use mathlib.Core.Path.{refl}
use mathlib.Core.List.{[], ◌∷◌}
use lib.Dec.{lit<}
use Rattle.rows.specs.Cells.{Cells, At, AtMask, Sum, Residue}
use Rattle.rows.specs.Leaves.{Lowered}

-- bit 2 of row 1
row_cell : At (0 ∷ 4 ∷ []) 2 1
row_cell = refl

-- cell (2, 1) of a mask is bit 5
mask_cell : AtMask 32 2 1
mask_cell = record { column = lit< tt; row = lit< tt; set = refl }

-- (1, 0) and (0, 1) sum to (1, 1)
sum_cell : Sum (AtMask 2) (AtMask 8) 1 1
sum_cell = record {
  x1 = 1;
  y1 = 0;
  x2 = 0;
  y2 = 1;
  left = record { column = lit< tt; row = lit< tt; set = refl };
  right = record { column = lit< tt; row = lit< tt; set = refl };
  at_x = refl;
  at_y = refl;
}

-- moved by (−1, −1), it is bit 1 of row 0
lowered_cell : Lowered (At (0 ∷ 4 ∷ [])) 1 1 1 0
lowered_cell = refl

-- (2, 0) lies in the residue by (0, 1) where (2, 1) lies in the set
residue_reads : (X : Cells) → Residue X (AtMask 8) 2 0 → X 2 1
residue_reads X r = r.all 0 1 (record { column = lit< tt; row = lit< tt; set = refl })
