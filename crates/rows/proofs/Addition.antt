-- Sums of cells: the same sets have the same sums, and addition is commutative and associative, with the cell (0, 0) alone as its unit.
use mathlib.Core.Path.{◌≡◌, refl, ◌∙◌, subst}
use mathlib.Core.List.{List}
use Prim.Native.Nat.{ℕ, ◌+◌, ◌%◌}
use native.Mathlib.Nat.{add_comm}
use native.Mathlib.Omega.{arith}
use lib.Dec.{T}
use Rattle.rows.specs.Cells.{Cells, Same, Sum, AtMask, AtOrigin, AtSum}
use Rattle.masks.specs.Chain.{sum_of}
use Rattle.masks.specs.Mask.{stage}
use Rattle.masks.proofs.Cells.{stage_below}
use Rattle.plane.specs.Lists.{In}
use Rattle.plane.specs.Point.{origin, ◌≐◌}
use Rattle.plane.proofs.Algebra.{≐_sym, ≐_trans}
use Rattle.rows.proofs.Bridge.{sum_points, same_points}

pub same_refl : {X : Cells} → Same X X
same_refl = record { to = λ x y h. h; from = λ x y h. h }

pub same_sym : {X Y : Cells} → Same X Y → Same Y X
same_sym e = record { to = e.from; from = e.to }

pub same_trans : {X Y Z : Cells} → Same X Y → Same Y Z → Same X Z
same_trans e f = record { to = λ x y h. f.to x y (e.to x y h); from = λ x y h. e.from x y (f.from x y h) }

-- a cell that is another by its numbers
pub to_cell : (X : Cells) {x y u v : ℕ} → x ≡ u → y ≡ v → X x y → X u v
to_cell X {x} {y} {u} {v} p q h = subst (λ (k : ℕ). X u k) q (subst (λ (k : ℕ). X k y) p h)

pub add_cells : {X Y : Cells} (x y i j : ℕ) → X x y → Y i j → Sum X Y (x + i) (y + j)
add_cells x y i j h k = record { x1 = x; y1 = y; x2 = i; y2 = j; left = h; right = k; at_x = refl; at_y = refl }

pub sum_both : {X Y U W : Cells} → Same X U → Same Y W → Same (Sum X Y) (Sum U W)
sum_both e f = record { to = both e.to f.to; from = both e.from f.from }
  where
    both : {X Y U W : Cells} → ((x y : ℕ) → X x y → U x y) → ((x y : ℕ) → Y x y → W x y) → (x y : ℕ) → Sum X Y x y → Sum U W x y
    both f g x y s = record {
      x1 = s.x1;
      y1 = s.y1;
      x2 = s.x2;
      y2 = s.y2;
      left = f s.x1 s.y1 s.left;
      right = g s.x2 s.y2 s.right;
      at_x = s.at_x;
      at_y = s.at_y;
    }

pub sum_comm : {X Y : Cells} → Same (Sum X Y) (Sum Y X)
sum_comm = record { to = swap; from = swap }
  where
    swap : {X Y : Cells} (x y : ℕ) → Sum X Y x y → Sum Y X x y
    swap x y s = record {
      x1 = s.x2;
      y1 = s.y2;
      x2 = s.x1;
      y2 = s.y1;
      left = s.right;
      right = s.left;
      at_x = add_comm s.x2 s.x1 ∙ s.at_x;
      at_y = add_comm s.y2 s.y1 ∙ s.at_y;
    }

pub sum_assoc : {X Y Z : Cells} → Same (Sum (Sum X Y) Z) (Sum X (Sum Y Z))
sum_assoc = record {
  to = λ x y s. record {
    x1 = s.left.x1;
    y1 = s.left.y1;
    x2 = s.left.x2 + s.x2;
    y2 = s.left.y2 + s.y2;
    left = s.left.left;
    right = add_cells s.left.x2 s.left.y2 s.x2 s.y2 s.left.right s.right;
    at_x = omega (arith, s.at_x, s.left.at_x);
    at_y = omega (arith, s.at_y, s.left.at_y);
  };
  from = λ x y s. record {
    x1 = s.x1 + s.right.x1;
    y1 = s.y1 + s.right.y1;
    x2 = s.right.x2;
    y2 = s.right.y2;
    left = add_cells s.x1 s.y1 s.right.x1 s.right.y1 s.left s.right.left;
    right = s.right.right;
    at_x = omega (arith, s.at_x, s.right.at_x);
    at_y = omega (arith, s.at_y, s.right.at_y);
  };
}

pub sum_origin : {X : Cells} → Same (Sum X AtOrigin) X
sum_origin {X} = record {
  to = λ x y s. to_cell X (omega (arith, s.at_x, s.right.at_x)) (omega (arith, s.at_y, s.right.at_y)) s.left;
  from = λ x y h. record {
    x1 = x;
    y1 = y;
    x2 = 0;
    y2 = 0;
    left = h;
    right = record { at_x = refl; at_y = refl };
    at_x = omega arith;
    at_y = omega arith;
  };
}

-- lists of masks with the same points on the plane have the same cells
pub sum_cells_same : (ms ns : List ℕ) → In (sum_of ms) ≐ In (sum_of ns) → Same (AtSum ms) (AtSum ns)
sum_cells_same ms ns e = same_points (AtSum ms) (AtSum ns) origin (≐_trans (sum_points ms) (≐_trans e (≐_sym (sum_points ns))))

-- the rows of a stage: the masks are below 512, so the remainder by 512 is the mask
pub stage_rows : {X : Cells} (m : ℕ) → T (stage m) → Same X (AtMask (m % 512)) → Same X (AtMask m)
stage_rows {X} m t e = let h = stage_below m t in subst (λ n. Same X (AtMask n)) (omega arith) e
