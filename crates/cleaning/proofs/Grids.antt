-- After each stage the grid is the frame taken through the sum of the stages so far, on the whole plane: nothing is lost in it. So it is in the second pass of
-- opening and closing, which starts from the frame taken through all the stages.
use mathlib.Core.Path.{◌≡◌}
use mathlib.Core.Bool.{Bool, true, false, not}
use mathlib.Core.List.{List}
use Prim.Native.Nat.{ℕ}
use lib.Dec.{T}
use lib.ListN.{take}
use Rattle.plane.specs.Lists.{all}
use Rattle.plane.specs.Point.{Point}
use Rattle.masks.specs.Chain.{sum_of}
use Rattle.masks.specs.Mask.{stage}
use Rattle.grids.specs.Frame.{free, frame, over}
use Rattle.grids.specs.Grid.{grid, put, once}
use Rattle.grids.specs.declared.Around.TheVariants.{Free}
use Rattle.grids.proofs.Putting.{frame_within}
use Rattle.cleaning.specs.declared.Operation.{Operation}
use Rattle.cleaning.specs.declared.Operation.TheVariants.{Opening, Closing}
use Rattle.cleaning.specs.Operation.{around, as_read, through}
use Rattle.cleaning.proofs.Turn.{turn, first_kind, passed}
use Rattle.cleaning.proofs.Within.{Small, Kept, kept, dilation_within, erosion_within, erosion_kept, first_stages, small_part}

pub after_stages : (op : Operation) (W H : ℕ) (f ms : List ℕ) (k : ℕ) → T (all stage ms) → Small ms
    → grid (around op) W H (through (once (first_kind op) (around op) W H) (take k ms) (put (around op) W H f))
    ≡ over (first_kind op) (sum_of (take k ms)) (as_read op W H f)
after_stages op W H f ms k t s = passed op W H f (take k ms) (first_stages k ms t) (small_part k ms t s)

-- opening and closing: all stages by one kind, and then the first k by the other
pub after_second : (erode : Bool) (W H : ℕ) (f ms : List ℕ) (k : ℕ) → T (all stage ms) → Small ms
    → grid Free W H (through (once erode Free W H) (take k ms) (through (once (not erode) Free W H) ms (put Free W H f)))
    ≡ over erode (sum_of (take k ms)) (over (not erode) (sum_of ms) (frame free W H f))
after_second erode W H f ms k t s =
    turn erode Free W H (take k ms) (over (not erode) (sum_of ms) F) (through (once (not erode) Free W H) ms (put Free W H f))
    (stays erode) (before erode)
  where
    F : Point → ℕ
    F = frame free W H f

    stays : (e : Bool) → Kept e Free W H (take k ms) (over (not e) (sum_of ms) F)
    stays true = erosion_kept W H (take k ms) (over false (sum_of ms) F) (first_stages k ms t) (dilation_within W H ms F s (frame_within Free W H f))
    stays false =
        kept false W H (take k ms) (over true (sum_of ms) F) (first_stages k ms t) (small_part k ms t s) (erosion_within W H ms F t (frame_within Free W H f))

    before : (e : Bool) → grid Free W H (through (once (not e) Free W H) ms (put Free W H f)) ≡ over (not e) (sum_of ms) F
    before true = passed Closing W H f ms t s
    before false = passed Opening W H f ms t s
