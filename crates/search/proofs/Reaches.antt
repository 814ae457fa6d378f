-- How far sums of cells reach: the greatest columns, and the greatest rows, add up. So those of a sum of stages are known, and how many stages it has at
-- least and at most.
use mathlib.Core.Path.{◌≡◌, refl, ◌∙◌, ap, subst}
use mathlib.Core.Bool.{Bool, true, false}
use mathlib.Core.List.{List, [], ◌∷◌}
use Prim.Native.Nat.{ℕ, suc, ◌+◌, ◌*◌, ◌≤◌}
use native.Mathlib.Omega.{arith}
use lib.Dec.{T}
use lib.ListN.{length}
use Rattle.plane.specs.Lists.{all}
use Rattle.plane.proofs.Tests.{T_and}
use Rattle.masks.specs.Mask.{stage}
use Rattle.masks.proofs.Bounds.{total}
use Rattle.stage_steps.specs.Reach.{reach}
use Rattle.stage_steps.proofs.Stages.{number_of, reach_all, reach_cell, reach_some, reach_small}
use Rattle.rows.specs.Cells.{Cells, Same, Sum, AtMask, AtSum}
use Rattle.rows.proofs.Bridge.{mask_cells_lem}
use Rattle.extents.specs.Extents.{Greatest}

-- the number of a cell that a reach is about: its row, or its column
abbrev pub along : Bool → ℕ → ℕ → ℕ
along down x y = number_of down (x, y)

module _ (number : ℕ → ℕ → ℕ) where
  pub greatest_same : {X Y : Cells} {n : ℕ} → Same X Y → Greatest number X n → Greatest number Y n
  greatest_same s g = record { x = g.x; y = g.y; cell = s.to g.x g.y g.cell; at = g.at; all = λ x y h. g.all x y (s.from x y h) }

  pub greatest_once : {X : Cells} {m n : ℕ} → Greatest number X m → Greatest number X n → m ≡ n
  greatest_once e f = omega (arith, f.all e.x e.y e.cell, e.at, e.all f.x f.y f.cell, f.at)

  module _ (adds : (x y u v : ℕ) → number (x + u) (y + v) ≡ number x y + number u v) where
    pub greatest_sum : {X Y : Cells} {m n : ℕ} → Greatest number X m → Greatest number Y n → Greatest number (Sum X Y) (m + n)
    greatest_sum {X} {Y} {m} {n} e f = record {
      x = e.x + f.x;
      y = e.y + f.y;
      cell = record { x1 = e.x; y1 = e.y; x2 = f.x; y2 = f.y; left = e.cell; right = f.cell; at_x = refl; at_y = refl };
      at = omega (arith, adds e.x e.y f.x f.y, e.at, f.at);
      all = λ x y s. subst (λ (k : ℕ). k ≤ m + n) (ap (λ (k : ℕ). number k (s.y1 + s.y2)) s.at_x ∙ ap (number x) s.at_y)
          (omega (arith, adds s.x1 s.y1 s.x2 s.y2, e.all s.x1 s.y1 s.left, f.all s.x2 s.y2 s.right));
    }

pub along_adds : (down : Bool) (x y u v : ℕ) → along down (x + u) (y + v) ≡ along down x y + along down u v
along_adds true x y u v = refl
along_adds false x y u v = refl

-- ---- stages

pub mask_reach : (down : Bool) (m : ℕ) → T (stage m) → Greatest (along down) (AtMask m) (reach down m)
mask_reach down m t =
    let c = reach_cell m t down in
    record {
      x = c.0.0;
      y = c.0.1;
      cell = (mask_cells_lem m c.0.0 c.0.1).1 c.1;
      at = c.2;
      all = λ x y h. reach_all m t down (x, y) ((mask_cells_lem m x y).0 h);
    }

pub sum_reach : (down : Bool) (ms : List ℕ) → T (all stage ms) → Greatest (along down) (AtSum ms) (total (reach down) ms)
sum_reach down [] t = record { x = 0; y = 0; cell = record { at_x = refl; at_y = refl }; at = zero_at down; all = λ x y o. low down x y o.at_x o.at_y }
  where
    zero_at : (down : Bool) → along down 0 0 ≡ 0
    zero_at true = refl
    zero_at false = refl

    low : (down : Bool) (x y : ℕ) → x ≡ 0 → y ≡ 0 → along down x y ≤ 0
    low true x y p q = omega arith
    low false x y p q = omega arith
sum_reach down (m ∷ ms) t =
    let u = (T_and (stage m) (all stage ms)).0 t in
    greatest_sum (along down) (along_adds down) (mask_reach down m u.0) (sum_reach down ms u.1)

-- each stage adds at most 2 to either, and at least 1 to both together
pub total_reach : (ms : List ℕ) → T (all stage ms)
    → (total (reach false) ms ≤ 2 * length ms) × (total (reach true) ms ≤ 2 * length ms) × (length ms ≤ total (reach false) ms + total (reach true) ms)
total_reach [] t = (omega arith, omega arith, omega arith)
total_reach (m ∷ ms) t =
    let u = (T_and (stage m) (all stage ms)).0 t in
    let r = total_reach ms u.1 in
    step (reach false m) (reach true m) _ _ (length ms) (reach_small false m) (reach_small true m) (reach_some m u.0) r.0 r.1 r.2
  where
    step : (a b w h n : ℕ) → a ≤ 2 → b ≤ 2 → 1 ≤ a + b → w ≤ 2 * n → h ≤ 2 * n → n ≤ w + h → (a + w ≤ 2 * suc n) × (b + h ≤ 2 * suc n) ×
        (suc n ≤ a + w + (b + h))
    step a b w h n p q r s t u = (omega arith, omega arith, omega arith)
