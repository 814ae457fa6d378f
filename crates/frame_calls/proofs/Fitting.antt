-- Where no ground refuses a single stage, its images fit what is written: so the call does its work.
use mathlib.Core.Path.{◌≡◌, subst}
use mathlib.Core.Bool.{Bool}
use mathlib.Core.List.{List}
use Prim.Native.Nat.{ℕ, ◌≤◌}
use native.Mathlib.Omega.{arith}
use lib.Dec.{nltb→le}
use lib.ListN.{length}
use lib.Seq.{get_or-take}
use Rattle.plane.proofs.Tests.{T_false, not_or}
use Rattle.words.specs.Ground.{Answer}
use Rattle.words.specs.Ground.{first_of, stated, result}
use Rattle.words.specs.Word.{stage_mask}
use Rattle.words.proofs.Refusals.{clear, promised_done}
use Rattle.grids.specs.Frame.{bad_size, grid_size, short_image}
use Rattle.grids.specs.Grid.{once, written, stage_tests, Staged}
use Rattle.grids.specs.declared.Around.{Around}
use Rattle.frame_grounds.specs.Looking.{greatest_byte}
use Rattle.frame_grounds.proofs.Looked.{byte_below}
use Rattle.frame_calls.specs.Staging.{StageReady, GridMeasured}

module _ (w W H : ℕ) (g i : List ℕ) (z : first_of (stage_tests w W H g i) ≡ 0) where
  pub ready : StageReady W H g i
  unfolding stage_tests
  ready =
      let c = clear (stage_tests w W H g i) tt z in
      let l = (not_or (short_image W H g) (short_image W H i)).0 c.1.1.1.1.1.0 in
      record {
        sides = T_false (bad_size W H) c.1.1.1.0;
        cells = c.1.1.1.1.0;
        read = nltb→le (length g) (grid_size W H) l.0;
        room = nltb→le (length i) (grid_size W H) l.1;
      }

  -- no byte is above the greatest that was found
  pub measured : greatest_byte W H g ≤ 1 → GridMeasured W H g
  measured l n h =
      subst (λ x. x ≤ 1) (get_or-take (grid_size W H) g n 0 h)
      (let b = byte_below W H g ready.sides n in omega arith)

  pub stage_done : (erode : Bool) (k : Around) (i' : List ℕ) (r : Answer) → stated r ≡ result 0 → i' ≡ written W H (once erode k W H (stage_mask w) g) i
      → Staged erode k w W H g i r i'
  stage_done erode k i' r a e = promised_done (stage_tests w W H g i) z (record { answer = a; image = e })
