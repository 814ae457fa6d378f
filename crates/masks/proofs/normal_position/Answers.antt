-- By rows and then by columns is the whole shift, of which the rule is proved.
use native.Mathlib.Omega.{arith}
use mathlib.Core.Path.{sym, ap, subst, ◌∙◌}
use Prim.Native.Nat.{◌%◌, ◌<◌}
use Rattle.masks.specs.Mask.{NormalPosition}
use Rattle.masks.proofs.Normal.{normal_position}
use Rattle.masks.proofs.Shifts.{columns_down, both_down}
use Rattle.masks.proofs.normal_position.Goals as goal

pub returns : goal.returns
returns c =
    let r = c.by_rows in
    let m = c.args.mask % 512 in
    let h : m < 512 = omega arith in
    subst (NormalPosition m) (sym (c.by_columns.ensures ∙ ap columns_down r.ensures.0 ∙ both_down m h)) (normal_position m h)
