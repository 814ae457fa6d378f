-- Document 01, "Measured against": the plans marked P, of sets of points, by the computed search.
use mathlib.Core.Path.{◌≡◌, refl}
use mathlib.Core.Bool.{true, false}
use mathlib.Core.List.{List, [], ◌∷◌, map}
use Rattle.plane.specs.Lists.{In}
use Rattle.plane.specs.Point.{Point, Cell, point, ◌+ᵖ◌, origin}
use Rattle.masks.specs.Chain.{subset, Chain, PlanOf, Picked, before}
use Rattle.masks.specs.Mask.{stage}
use Rattle.masks.proofs.Cells.{sum_cells, cell_sums}
use Rattle.masks.proofs.Placed.{picked, placed, no_chain, hopeless, cells_plan}
use Rattle.masks.proofs.Search.{search, same, same_is, mem}

-- ---- a row of four cells: 3 then 5, which comes before 3 then 7

abbrev pub four_cells : List Cell
four_cells = (0, 0) ∷ (1, 0) ∷ (2, 0) ∷ (3, 0) ∷ []

pub four : Picked stage (In (map point four_cells)) origin (3 ∷ 5 ∷ [])
unfolding ◌+ᵖ◌ search same stage sum_cells cell_sums
four = picked (In (map point four_cells)) four_cells origin (3 ∷ 5 ∷ []) (placed (map point four_cells) four_cells origin refl tt tt) tt tt tt tt refl

pub four_other : PlanOf stage (In (map point four_cells)) origin (3 ∷ 7 ∷ [])
unfolding ◌+ᵖ◌ same mem stage sum_cells cell_sums
four_other =
    cells_plan (In (map point four_cells)) four_cells origin (3 ∷ 7 ∷ []) (placed (map point four_cells) four_cells origin refl tt tt) tt tt
    ((same_is four_cells (sum_cells (3 ∷ 7 ∷ []))).0 tt)

pub four_order : (before (3 ∷ 5 ∷ []) (3 ∷ 7 ∷ []) ≡ true) × (before (3 ∷ 7 ∷ []) (3 ∷ 5 ∷ []) ≡ false)
four_order = (refl, refl)

-- ---- one cell, at any place: no stage

abbrev pub one_cell : List Cell
one_cell = (0, 0) ∷ []

pub one : (d : Point) (A : List Point) → A ≡ map (λ c. point c +ᵖ d) one_cell → Picked stage (In A) d []
unfolding search same stage sum_cells cell_sums
one d A e = picked (In A) one_cell d [] (placed A one_cell d e tt tt) tt tt tt tt refl

-- ---- columns 0 and 3 of one row; columns 0, 1 and 3: no chain

abbrev pub apart_cells : List Cell
apart_cells = (0, 0) ∷ (3, 0) ∷ []

pub apart : ¬ Chain subset (In (map point apart_cells))
unfolding ◌+ᵖ◌ hopeless
apart = no_chain (In (map point apart_cells)) apart_cells origin 3 (placed (map point apart_cells) apart_cells origin refl tt tt) tt

abbrev pub gap_cells : List Cell
gap_cells = (0, 0) ∷ (1, 0) ∷ (3, 0) ∷ []

pub gap : ¬ Chain subset (In (map point gap_cells))
unfolding ◌+ᵖ◌ hopeless
gap = no_chain (In (map point gap_cells)) gap_cells origin 3 (placed (map point gap_cells) gap_cells origin refl tt tt) tt

-- ---- eight points: stages 17, 33, 129, though the extents allow two

abbrev pub eight_cells : List Cell
eight_cells = (0, 0) ∷ (1, 1) ∷ (2, 1) ∷ (1, 2) ∷ (3, 2) ∷ (2, 3) ∷ (3, 3) ∷ (4, 4) ∷ []

pub eight : Picked stage (In (map point eight_cells)) origin (17 ∷ 33 ∷ 129 ∷ [])
unfolding ◌+ᵖ◌ search same stage sum_cells cell_sums
eight = picked (In (map point eight_cells)) eight_cells origin (17 ∷ 33 ∷ 129 ∷ []) (placed (map point eight_cells) eight_cells origin refl tt tt) tt tt tt tt refl
