-- What a list holds is read as a shape: of any list, the points that it holds; of an accepted one, the points that it stands for.
use mathlib.Core.Path.{◌≡◌, sym, ap₂, subst}
use mathlib.Core.Logic.{◌↔◌}
use mathlib.Core.Bool.{not}
use mathlib.Core.List.{List, map}
use Prim.Native.Nat.{ℕ}
use native.Mathlib.Omega.{arith}
use lib.Dec.{T, ltb, nltb→le}
use lib.ListN.{length, get_or}
use Rattle.plane.specs.Lists.{In, any, any_next}
use Rattle.plane.specs.Point.{Point, Cell, point, ◌-ᵖ◌, ◌≐◌}
use Rattle.plane.proofs.Algebra.{≐_trans}
use Rattle.plane.proofs.Member.{In-map}
use Rattle.plane.proofs.Tests.{not_or}
use Rattle.words.specs.Ground.{first_of}
use Rattle.words.proofs.Refusals.{Clear, clear}
use Rattle.rows.specs.Cells.{Same, At}
use Rattle.rows.proofs.Sums.{Rows16}
use Rattle.shapes.specs.Shape.{rows, shape_cells, shape_points, shape_tests, empty_row, not_rising, out_of_range}
use Rattle.shapes.proofs.Accepted.{some_cell, in_range_lem}
use Rattle.shapes.proofs.Range.{range_same}
use Rattle.lists.specs.Held.{held_cells, held_anchor, CellsOf}
use Rattle.lists.proofs.Held.{held_list, held_anchor_lem}
use Rattle.lists.proofs.Fields.{anchor_small}
use Rattle.elements.specs.declared.Shape.{Shape}
use Rattle.elements.specs.declared.Window.{Window}
use Rattle.elements.specs.Standing.{window_points, cells_of, points_of, Made, Anchored}
use Rattle.elements.proofs.Stands.{cells_at}
use Rattle.shape_calls.specs.Steps.{held_points, SomeHeld, StandsFor}

-- the same members, the same results
pub map_same : {A B : Type 0} (f : A → B) (xs ys : List A) → ((a : A) → In xs a → In ys a) → (b : B) → In (map f xs) b → In (map f ys) b
map_same f xs ys h b k = let r = (In-map f xs b).0 k in (In-map f ys b).1 (r.0, h r.0 r.1, r.2)

-- ---- any list

module _ (ws : List ℕ) (w : Window) (W : Rows16 w.rows) (ex : w.ax ≡ (held_anchor ws).0) (ey : w.ay ≡ (held_anchor ws).1)
    (S : Same (At w.rows) (CellsOf (held_cells ws))) where
  -- the cells of the rows are those that the list holds
  cell_to : (k : Cell) → In (cells_of w.rows) k → In (held_cells ws) k
  cell_to k h = S.to k.0 k.1 ((cells_at w.rows W k.0 k.1).0 h)

  cell_from : (k : Cell) → In (held_cells ws) k → In (cells_of w.rows) k
  cell_from k h = (cells_at w.rows W k.0 k.1).1 (S.from k.0 k.1 h)

  points_are : In (window_points w.rows (w.ax, w.ay)) ≐ In (held_points ws)
  unfolding window_points
  points_are p = subst (λ a. In (window_points w.rows a) p ↔ In (held_points ws) p) (λ i. (sym ex i, sym ey i))
      (map_same at (cells_of w.rows) (held_cells ws) cell_to p, map_same at (held_cells ws) (cells_of w.rows) cell_from p)
    where
      at : Cell → Point
      at k = point k -ᵖ point (held_anchor ws)

  anchored : SomeHeld ws → Anchored w
  anchored k =
      let a = anchor_small (get_or ws 0 0) in
      record {
        in_x = omega (arith, a.0);
        in_y = omega (arith, a.1);
        some = record { x = k.0.0; y = k.0.1; cell = (cells_at w.rows W k.0.0 k.0.1).0 (cell_from k.0 k.1) };
      }

  some_held : Anchored w → SomeHeld ws
  some_held a = let s = a.some in ((s.x, s.y), S.to s.x s.y s.cell)

  pub held_made : (r : Shape) → Made (Anchored w) (window_points w.rows (w.ax, w.ay)) r → Made (SomeHeld ws) (held_points ws) r
  held_made r M = record {
    made = λ g t. let m = M.made (anchored g) (subst (λ b. T (not b)) (sym range) t) in (m.0, ≐_trans m.1 points_are);
    far = λ t. M.far (subst T (sym range) t);
    none = λ f. M.none (λ a. f (some_held a));
  }
    where
      range : out_of_range (window_points w.rows (w.ax, w.ay)) ≡ out_of_range (held_points ws)
      range = range_same (window_points w.rows (w.ax, w.ay)) (held_points ws) points_are

-- ---- an accepted list: it holds the shape's points, of which there is one, and which are in range

pub shape_read : (ws : List ℕ) → first_of (shape_tests ws) ≡ 0 → (r : Shape) → Made (SomeHeld ws) (held_points ws) r → StandsFor (shape_points ws) r
unfolding shape_tests shape_points shape_cells
shape_read ws e r M =
    let long = ((not_or (ltb (length ws) 2) (ltb 17 (length ws))).0 c.0).0 in
    let full = ((not_or (any empty_row (rows ws)) (any_next not_rising (rows ws))).0 c.1.1.1.0).0 in
    let some = some_cell ws (nltb→le (length ws) 2 long) full in
    let m = M.made (some.0, subst (λ l. In l some.0) (sym cells) some.1)
    (subst (λ l. T (not (out_of_range l))) (sym points) (in_range_lem ws (shape_points ws) (λ p h. h))) in
    record { sound = m.0; points = subst (λ l. In (points_of r) ≐ In l) points m.1 }
  where
    c : Clear (shape_tests ws)
    c = clear (shape_tests ws) tt e

    cells : held_cells ws ≡ shape_cells ws
    cells = held_list ws c.1.0

    points : held_points ws ≡ shape_points ws
    points = ap₂ (λ a l. map (λ k. point k -ᵖ point a) l) (held_anchor_lem ws c.1.0) cells
