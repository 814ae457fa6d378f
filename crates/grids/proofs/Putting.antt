-- Putting loses nothing: the grid that a frame is put into, read on the plane, is the frame. So it is for either kind of grid.
use mathlib.Core.Path.{◌≡◌, sym, ◌∙◌, ap, subst, fun_ext}
use mathlib.Core.Bool.{not}
use mathlib.Core.List.{List, [], ◌∷◌}
use Prim.Native.Nat.{ℕ, zero, suc, ◌+◌, ◌≤◌}
use native.Mathlib.Omega.{arith}
use lib.Dec.{T, not_T}
use lib.ListN.{get_or}
use Rattle.plane.specs.Point.{Point, ◌+ᵖ◌, ◌-ᵖ◌}
use Rattle.plane.proofs.Algebra.{+ᵖ_origin, +ᵖ_cancel, subᵖ_cancel}
use Rattle.plane.proofs.Tests.{clash}
use Rattle.grids.specs.Frame.{frame}
use Rattle.grids.specs.Grid.{outside_of, start_of, corner, grid_bytes, grid, laid, put}
use Rattle.grids.specs.declared.Around.{Around}
use Rattle.grids.specs.declared.Around.TheVariants.{Free, Occupied}
use Rattle.grids.proofs.Pictures.{inside, Within, inside_add, view_outside, view_within}
use Rattle.grids.proofs.Stage.{view_upto, outside_low}
use Rattle.grids.proofs.Values.{Upto}

-- a picture that is free outside a window is free outside a larger one
pub within_more : (f : Point → ℕ) (W H a b : ℕ) → Within 0 W H f → Within 0 (W + a) (H + b) f
within_more f W H a b w p t = w p (not_T (inside W H p) (λ u. clash (inside (W + a) (H + b) p) t (more u)))
  where
    more : T (inside W H p) → T (inside (W + a) (H + b) p)
    more u = subst (λ z. T (inside (W + a) (H + b) z)) (+ᵖ_origin p) (inside_add W H (W + a) (H + b) 0 0 (omega arith) (omega arith) p u)

-- ---- pictures that lie in a grid

-- outside the grid the picture is as the plane is there
abbrev pub InGrid : Around → ℕ → ℕ → (Point → ℕ) → Type 0
InGrid k W H f = (p : Point) → T (not (inside (W + 15) (H + 15) (p +ᵖ corner k))) → f p ≡ outside_of k

-- such a picture loses nothing in the grid: byte by byte, and on the plane
pub laid_bytes : (k : Around) (W H : ℕ) (f : Point → ℕ) → InGrid k W H f → grid_bytes k W H (laid k W H f) ≡ (λ q. f (q -ᵖ corner k))
laid_bytes k W H f w = fun_ext (view_within (outside_of k) (W + 15) (H + 15) (λ q. f (q -ᵖ corner k)) within)
  where
    within : Within (outside_of k) (W + 15) (H + 15) (λ q. f (q -ᵖ corner k))
    within q t = w (q -ᵖ corner k) (subst (λ z. T (not (inside (W + 15) (H + 15) z))) (sym (subᵖ_cancel q (corner k))) t)

pub laid_whole : (k : Around) (W H : ℕ) (f : Point → ℕ) → InGrid k W H f → grid k W H (laid k W H f) ≡ f
laid_whole k W H f w = fun_ext (λ p. ap (λ g. g (p +ᵖ corner k)) (laid_bytes k W H f w) ∙ ap f (+ᵖ_cancel p (corner k)))

start_low : (k : Around) → start_of k ≤ 15
start_low Free = omega arith
start_low Occupied = omega arith

-- a picture of the frame's columns and rows lies in it
pub within_grid : (k : Around) (W H : ℕ) (f : Point → ℕ) → Within (outside_of k) W H f → InGrid k W H f
within_grid k W H f w p t =
    w p (not_T (inside W H p) (λ u. clash (inside (W + 15) (H + 15) (p +ᵖ corner k)) t
    (inside_add W H (W + 15) (H + 15) (start_of k) (start_of k) (let l = start_low k in omega arith) (let l = start_low k in omega arith) p u)))

-- ---- frames

-- bytes that are at most n, whatever is read past them
low_past : (n v : ℕ) → v ≤ n → (f : List ℕ) → ((i : ℕ) → get_or f i 0 ≤ n) → (i : ℕ) → get_or f i v ≤ n
low_past n v l [] b i = l
low_past n v l (a ∷ f) b zero = b 0
low_past n v l (a ∷ f) b (suc i) = low_past n v l f (λ j. b (suc j)) i

pub frame_upto : (n : ℕ) → 1 ≤ n → (k : Around) (W H : ℕ) (f : List ℕ) → ((i : ℕ) → get_or f i 0 ≤ n) → Upto n (frame (outside_of k) W H f)
frame_upto n one k W H f b = view_upto n (outside_of k) W H f low (λ i h. low_past n (outside_of k) low f b i)
  where
    low : outside_of k ≤ n
    low = let l = outside_low k in omega arith

pub frame_within : (k : Around) (W H : ℕ) (f : List ℕ) → Within (outside_of k) W H (frame (outside_of k) W H f)
frame_within k W H f = view_outside (outside_of k) W H f

pub put_whole : (k : Around) (W H : ℕ) (f : List ℕ) → grid k W H (put k W H f) ≡ frame (outside_of k) W H f
unfolding put
put_whole k W H f = laid_whole k W H (frame (outside_of k) W H f) (within_grid k W H (frame (outside_of k) W H f) (frame_within k W H f))

pub put_bytes : (k : Around) (W H : ℕ) (f : List ℕ) → grid_bytes k W H (put k W H f) ≡ (λ q. frame (outside_of k) W H f (q -ᵖ corner k))
unfolding put
put_bytes k W H f = laid_bytes k W H (frame (outside_of k) W H f) (within_grid k W H (frame (outside_of k) W H f) (frame_within k W H f))

-- the grid that a frame is put into has no byte above its cells
pub put_upto : (n : ℕ) → 1 ≤ n → (k : Around) (W H : ℕ) (f : List ℕ) → ((i : ℕ) → get_or f i 0 ≤ n) → Upto n (grid_bytes k W H (put k W H f))
put_upto n l k W H f b p =
    subst (λ (g : Point → ℕ). g p ≤ n) (sym (put_bytes k W H f)) (frame_upto n l k W H f b (p -ᵖ corner k))
