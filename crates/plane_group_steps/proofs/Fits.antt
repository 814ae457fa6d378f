-- What the test on rows and the bytes that they go into says.
use mathlib.Core.Path.{◌≡◌}
use mathlib.Core.Bool.{Bool, true}
use mathlib.Core.List.{List}
use Prim.Native.Nat.{ℕ, ◌*◌, ◌≤◌}
use lib.ListN.{length}
use borrow.Author.Tests.{le-leb}
use Rattle.ranges.proofs.Sizing.{holds}
use Rattle.planes.specs.Bytes.{Bitted}
use Rattle.plane_group_steps.specs.Groups.{group_bit, group_fits, RowsGrouped}

-- rows that fit were put
pub group_done : (some : Bool) (w r v : ℕ) (s d : List ℕ) {b : Bool} {d' : List ℕ} → length d ≤ w → r ≤ 8 → w ≤ 65535 → r * w ≤ length s
    → RowsGrouped some w r v s d b d'
    → Bitted 0 (length d) (group_bit some s w r v) d d'
group_done some w r v s d l₁ l₂ l₃ l₄ g =
    let e : group_fits (length d) (length s) w r ≡ true
    = rw (le-leb (length d) w l₁, le-leb r 8 l₂, le-leb w 65535 l₃, le-leb (r * w) (length s) l₄) in g.done (holds e)
