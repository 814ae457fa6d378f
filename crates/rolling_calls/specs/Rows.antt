-- Document 02, W1, as the call does it: what rows near an end are worked out from, and both ends.
use Rattle.std.specs.Prelude.{◌≡◌, false, not, List, ℕ, ◌+◌, ◌-◌, ◌*◌, ◌≤◌, T, length}
use Rattle.words.specs.Ground.{first_of}
use Rattle.shapes.specs.Plan.{plan_tests}
use Rattle.grids.specs.Frame.{bad_size, bad_cell}
use Rattle.rolling.specs.Ends.{near_rows, part_rows, EndPut}

-- rows b to b + t lie in the e rows from row a on, of which there are at most 31, and both frames have these rows; the live one is clean
pub record EndReady (plan : List ℕ) (W a e : ℕ) (live : List ℕ) (b t : ℕ) (kept : List ℕ) : Type 0 where
  pub accepted : first_of (plan_tests plan) ≡ 0
  pub sides : bad_size W e ≡ false
  pub rows : e ≤ 31
  pub within : (a ≤ b) × (b + t ≤ a + e)
  pub most : a + e ≤ 240
  pub few : (a + e) * W ≤ 57600
  pub live_room : (a + e) * W ≤ length live
  pub kept_room : (a + e) * W ≤ length kept
  pub clean : T (not (bad_cell live))

-- a plan that passes, sides that do, a clean live frame and a kept one of the same size, and how far the points reach
pub record Reworked (plan : List ℕ) (W H Y : ℕ) (live kept : List ℕ) : Type 0 where
  pub accepted : first_of (plan_tests plan) ≡ 0
  pub columns : (1 ≤ W) × (W ≤ 240)
  pub rows : (1 ≤ H) × (H ≤ 240)
  pub reach : Y ≤ 15
  pub live_size : length live ≡ W * H
  pub kept_size : length kept ≡ W * H
  pub clean : T (not (bad_cell live))

-- the rows near row 0 were worked out, and then those near the last row
pub record BothPut (plan : List ℕ) (W H Y : ℕ) (live kept kept' : List ℕ) : Type 0 where
  pub between : List ℕ
  pub first : EndPut plan W 0 (part_rows H Y) live 0 (near_rows H Y) kept between
  pub last : EndPut plan W (H - part_rows H Y) (part_rows H Y) live (H - near_rows H Y) (near_rows H Y) between kept'
