-- The cut reads the last grid where document 01 says: so what is cut is what the single stages give in turn.
use mathlib.Core.Path.{◌≡◌, refl, sym, ◌∙◌, ap, ap₂, fun_ext}
use mathlib.Core.Logic.{⊎_elim}
use mathlib.Core.Bool.{Bool}
use mathlib.Core.List.{List}
use Prim.Native.Nat.{ℕ, suc, ◌+◌, ◌-◌, ◌*◌, ◌%◌, ◌≤◌, ◌<◌}
use native.Mathlib.Omega.{arith}
use borrow.Author.Tests.{eq-eqb, ne_eqb}
use lib.IntN.{ℤ, pos, negsuc, neg_ℤ, ◌-ℤ◌}
use Rattle.plane.specs.Point.{Point, ◌+ᵖ◌, negᵖ}
use Rattle.plane.proofs.Algebra.{+ᵖ_assoc, +ᵖ_origin, subᵖ_cancel}
use Rattle.plane.proofs.Integer.{diff_ge, diff_lt}
use Rattle.plane.proofs.Tests.{lt_or_le}
use Rattle.words.specs.Word.{place_x, place_y}
use Rattle.shapes.specs.Plan.{placed, plan_masks, plan_offset}
use Rattle.grids.specs.Grid.{outside_of, corner, grid_bytes, grid, put}
use Rattle.grids.specs.Image.{cells}
use Rattle.cuts.specs.Cuts.{cut_out}
use Rattle.ranges.specs.Ranges.{over_front}
use Rattle.planes.specs.Planes.{second_at, plane_cells}
use Rattle.cleaning.specs.declared.Operation.{Operation}
use Rattle.cleaning.specs.declared.Operation.TheVariants.{Dilation, Erosion, Opening, Closing}
use Rattle.cleaning.specs.Operation.{around, last_grid, read_at, in_turn}
use Rattle.result_steps.specs.Cutting.{distance, CutAway}

-- as far the other way
back : (f : ℕ) → f ≤ 30 → neg_ℤ (pos f -ℤ pos 15) ≡ pos (30 - f) -ℤ pos 15
back f h = ⊎_elim
    (λ (l : f < 15).
    let e : suc (15 - suc f) ≡ 30 - f - 15 = omega arith in
    ap neg_ℤ (diff_lt f 15 l) ∙ ap pos e ∙ sym (diff_ge (30 - f) 15 (omega arith)))
    (λ (l : 15 ≤ f). ⊎_elim
    (λ (k : 15 < f).
    let e : f - 15 ≡ suc (f - 16) = omega arith in
    let e' : f - 16 ≡ 15 - suc (30 - f) = omega arith in
    ap neg_ℤ (diff_ge f 15 l ∙ ap pos e) ∙ ap negsuc e' ∙ sym (diff_lt (30 - f) 15 (omega arith)))
    (λ (k : f ≤ 15).
    let e : f - 15 ≡ 0 = omega arith in
    let e' : 0 ≡ 30 - f - 15 = omega arith in
    ap neg_ℤ (diff_ge f 15 l ∙ ap pos e) ∙ ap pos e' ∙ sym (diff_ge (30 - f) 15 (omega arith)))
    (lt_or_le 15 f))
    (lt_or_le f 15)

-- 15 farther, where the grid starts 15 before
farther : (x y : ℕ) → (pos (x + 15) -ℤ pos 15, pos (y + 15) -ℤ pos 15) ≡ (pos x -ℤ pos 15, pos y -ℤ pos 15) +ᵖ (pos 15, pos 15)
unfolding ◌+ᵖ◌ negᵖ
farther x y = ap₂ (λ (a b : ℤ). (a, b)) (one x) (one y) ∙ sym (subᵖ_cancel (pos x, pos y) (pos 15, pos 15))
  where
    one : (n : ℕ) → pos (n + 15) -ℤ pos 15 ≡ pos n
    one n = let e : n + 15 - 15 ≡ n = omega arith in diff_ge (n + 15) 15 (omega arith) ∙ ap pos e

pub read_ahead : (op : Operation) (w : ℕ) (p : Point) → place_x w ≤ 30 → place_y w ≤ 30
    → p +ᵖ (pos (distance op (place_x w)) -ℤ pos 15, pos (distance op (place_y w)) -ℤ pos 15) ≡ read_at op (placed w) p +ᵖ corner (around op)
unfolding negᵖ
read_ahead Dilation w p h k =
    ap (λ q. p +ᵖ q) (ap₂ (λ (x y : ℤ). (x, y)) (sym (back (place_x w) h)) (sym (back (place_y w) k))) ∙ sym (+ᵖ_origin (read_at Dilation (placed w) p))
read_ahead Erosion w p h k = ap (λ q. p +ᵖ q) (farther (place_x w) (place_y w)) ∙ sym (+ᵖ_assoc p (placed w) (pos 15, pos 15))
read_ahead Opening w p h k = refl
read_ahead Closing w p h k = refl

-- what is cut out of the last grid
pub cut_turn : (op : Operation) (plan : List ℕ) (W H : ℕ) (f g : List ℕ) (w : ℕ) → plan_offset plan ≡ placed w → place_x w ≤ 30 → place_y w ≤ 30
    → g ≡ last_grid op W H (plan_masks plan) (put (around op) W H f)
    → cut_out (outside_of (around op)) W H (W + 15) (H + 15) (distance op (place_x w)) (distance op (place_y w)) g
    ≡ in_turn op W H f (plan_offset plan) (plan_masks plan)
unfolding cut_out in_turn put
cut_turn op plan W H f g w d h k e =
    ap (cells W H) (fun_ext (λ p.
    ap (grid_bytes (around op) W H g) (read_ahead op w p h k ∙ ap (λ q. read_at op q p +ᵖ corner (around op)) (sym d))
    ∙ ap (λ z. grid (around op) W H z (read_at op (plan_offset plan) p)) e))

-- the cut of the planes in p, the second from byte o on, at the distances a and b, with v outside
abbrev cut_at : ℕ → ℕ → ℕ → ℕ → ℕ → ℕ → List ℕ → List ℕ
cut_at o v W H a b p = cut_out v W H (W + 15) (H + 15) a b (plane_cells o (W + 15) (H + 15) p)

-- the cut from one image into the other, at the distances and with the value outside that were worked out
module _ {two : Bool} {op : Operation} (place : ℕ) {o v W H t a b : ℕ} {i j : List ℕ} where
  pub away_first : {j' : List ℕ} → a ≡ distance op (place_x place) → b ≡ distance op (place_y place) → v ≡ outside_of (around op)
      → o ≡ second_at two (W + 15) (H + 15)
      → t % 2 ≡ 0
      → j' ≡ over_front (W * H) (cut_at o v W H a b i) j
      → CutAway two op place W H t i j i j'
  away_first p q r l e c = let z = eq-eqb (t % 2) 0 e in record { from = rw z; to = rw (z, sym p, sym q, sym r, sym l) c }

  pub away_second : {i' : List ℕ} → a ≡ distance op (place_x place) → b ≡ distance op (place_y place) → v ≡ outside_of (around op)
      → o ≡ second_at two (W + 15) (H + 15)
      → (t % 2 ≡ 0 → ⊥)
      → i' ≡ over_front (W * H) (cut_at o v W H a b j) i → CutAway two op place W H t i j i' j
  away_second p q r l e c = let z = ne_eqb (t % 2) 0 e in record { from = rw z; to = rw (z, sym p, sym q, sym r, sym l) c }

-- the distances are small
pub ahead_small : (op : Operation) (f : ℕ) → f ≤ 30 → distance op f ≤ 45
ahead_small Dilation f h = omega arith
ahead_small Erosion f h = omega arith
ahead_small Opening f h = omega arith
ahead_small Closing f h = omega arith
