-- Putting is the cut of W + 15 columns and H + 15 rows out of a frame of W and H, at no distance for the first kind of grid, and from 15 before it for the
-- second.
use mathlib.Core.Path.{◌≡◌, refl, sym, ap, ◌∙◌, fun_ext}
use mathlib.Core.List.{List, ◌++◌, append-nil}
use Prim.Native.Nat.{ℕ, ◌+◌, ◌-◌, ◌*◌}
use native.Mathlib.Omega.{arith}
use lib.ListN.{length, get_or, drop_of_length-le}
use Rattle.plane.specs.Point.{negᵖ}
use Rattle.plane.proofs.Algebra.{+ᵖ_origin}
use Rattle.grids.specs.Image.{view, cells}
use Rattle.grids.specs.Grid.{outside_of, start_of, put}
use Rattle.grids.specs.declared.Around.{Around}
use Rattle.grids.specs.declared.Around.TheVariants.{Free, Occupied}
use Rattle.ranges.proofs.Values.{value_in}
use Rattle.ranges.proofs.Whole.{laid_is}
use Rattle.cuts.specs.Cuts.{cut_out}

pub put_is_cut : (k : Around) (W H : ℕ) (f : List ℕ) → put k W H f ≡ cut_out (outside_of k) (W + 15) (H + 15) W H (15 - start_of k) (15 - start_of k) f
unfolding put cut_out negᵖ
put_is_cut Free W H f = refl
put_is_cut Occupied W H f = refl

-- and the cut of all columns and rows at no distance is what it is cut out of
pub cut_whole : (v C R : ℕ) (l : List ℕ) → length l ≡ C * R → cut_out v C R C R 15 15 l ≡ l
unfolding cut_out
cut_whole v C R l e =
    ap (cells C R) (fun_ext (λ p. ap (view v C R l) (+ᵖ_origin p)))
    ∙ sym (append-nil (cells C R (view v C R l)))
    ∙ ap (λ r. cells C R (view v C R l) ++ r) (sym (drop_of_length-le l {i = C * R} (omega (arith, e))))
    ∙ sym
    (laid_is C R (view v C R l) {F = λ x y. get_or l (y * C + x) 0} {d = l} {d' = l} (λ x y lx ly. sym (value_in v l C R (omega (arith, e)) x y lx ly))
    (omega (arith, e))
    (record { len = refl; at = λ x y lx ly. refl; past = λ k u. refl }))
