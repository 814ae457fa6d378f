-- Where no ground refuses a frame and its image, they fit what is written: so putting does its work.
use mathlib.Core.Path.{◌≡◌, sym, ◌∙◌, ap, ap₂}
use mathlib.Core.Bool.{Bool, false, not}
use mathlib.Core.List.{List, ◌++◌}
use Prim.Native.Nat.{ℕ, ◌+◌, ◌-◌, ◌*◌, ◌≤◌}
use native.Mathlib.Omega.{arith}
use lib.Dec.{T, nltb→le, eqb, eqb→eq}
use lib.ListN.{length, drop}
use borrow.Author.Tests.{le-leb}
use Rattle.plane.proofs.Tests.{T_false, un_not}
use Rattle.words.specs.Ground.{Answer}
use Rattle.words.specs.Ground.{first_of, stated, result}
use Rattle.words.proofs.Refusals.{clear, promised_done}
use Rattle.grids.specs.Frame.{bad_size, grid_size, frame_tests}
use Rattle.grids.specs.Grid.{outside_of, start_of, put, put_tests, FramePut}
use Rattle.grids.specs.declared.Around.{Around}
use Rattle.frame_grounds.proofs.Sides.{sides}
use Rattle.cuts.specs.Cuts.{cut_out, cut_fits, Cut}
use Rattle.cuts.proofs.OnGrids.{put_is_cut}

-- ---- what fits

module _ (W H : ℕ) (s : bad_size W H ≡ false) where
  put_fits : (a n k : ℕ) → a ≤ 15 → W * H ≤ n → grid_size W H ≤ k → T (cut_fits (W + 15) (H + 15) W H a a n k)
  put_fits a n k ha h l =
      let b = sides W H s in
      rw (
        le-leb a 65535 (omega arith),
        le-leb (W + 15) 65535 (omega arith),
        le-leb (H + 15) 65535 (omega arith),
        le-leb W 65535 (omega arith),
        le-leb H 65535 (omega arith),
        le-leb (W * H) n h,
        le-leb (grid_size W H) k l,
      ) tt

-- ---- putting

module _ (W H : ℕ) (f i : List ℕ) (z : first_of (put_tests W H f i) ≡ 0) where
  passed : T (not (bad_size W H)) × (length f ≡ W * H) × (grid_size W H ≤ length i)
  unfolding put_tests frame_tests
  passed =
      let c = clear (put_tests W H f i) tt z in
      (c.0, eqb→eq (length f) (W * H) (un_not (eqb (length f) (W * H)) c.1.0), nltb→le (length i) (grid_size W H) c.1.1.1.0)

  pub put_sides : bad_size W H ≡ false
  put_sides = T_false (bad_size W H) passed.0

  pub put_done : (k : Around) (d v : ℕ) → d ≡ 15 - start_of k → v ≡ outside_of k → (b : Bool) (i' : List ℕ) (r : Answer) → stated r ≡ result 0
      → Cut v (W + 15) (H + 15) W H d d f i b i' → FramePut k W H f i r i'
  put_done k d v e o b i' r a F =
      let t = put_fits W H put_sides d (length f) (length i) (omega arith) (omega (arith, passed.1)) passed.2 in
      let c : cut_out v (W + 15) (H + 15) W H d d f ≡ put k W H f = ap₂ (λ n m. cut_out n (W + 15) (H + 15) W H m m f) o e ∙ sym (put_is_cut k W H f) in
      promised_done (put_tests W H f i) z (record { answer = a; image = F.done t ∙ ap (λ g. g ++ drop (grid_size W H) i) c })
