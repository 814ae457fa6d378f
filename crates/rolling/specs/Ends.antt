-- Document 02, W1, as the call does it: rows near an end of the kept frame are worked out from the rows of the live frame that they depend on.
use Rattle.std.specs.Prelude.{◌≡◌, ◌⊎◌, List, ℕ, ◌+◌, ◌-◌, ◌*◌, ◌<◌, ◌≤◌, min, length, get_or, take, drop}
use Rattle.shapes.specs.Plan.{plan_masks, plan_offset}
use Rattle.cleaning.specs.Operation.{in_turn}
use Rattle.cleaning.specs.declared.Operation.TheVariants.{Dilation}

-- e rows of the frame f, from row a on
abbrev pub rows_of : ℕ → ℕ → ℕ → List ℕ → List ℕ
rows_of W a e f = take (e * W) (drop (a * W) f)

-- how many rows of H are worked out at either end, and how many these depend on
abbrev pub near_rows : ℕ → ℕ → ℕ
near_rows H Y = min H (Y + 1)

abbrev pub part_rows : ℕ → ℕ → ℕ
part_rows H Y = min H (2 * Y + 1)

-- rows b to b + t of the kept frame, which then is kept', are those of the dilation of e rows of the live one, from row a on, as the plan's stages give it in
-- turn; the others stay
pub record EndPut (plan : List ℕ) (W a e : ℕ) (live : List ℕ) (b t : ℕ) (kept kept' : List ℕ) : Type 0 where
  pub size : length kept' ≡ length kept
  pub near : (x r : ℕ) → x < W → b ≤ r → r < b + t
      → get_or kept' (r * W + x) 0 ≡ get_or (in_turn Dilation W e (rows_of W a e live) (plan_offset plan) (plan_masks plan)) ((r - a) * W + x) 0
  pub far : (x r : ℕ) → x < W → (r < b) ⊎ (b + t ≤ r) → get_or kept' (r * W + x) 0 ≡ get_or kept (r * W + x) 0
