-- The byte is put where the first zero stood.
use mathlib.Core.Path.{refl}
use Rattle.text.proofs.Pages.{added_byte, added_full}
use native.Mathlib.Omega.{arith}
use Rattle.page_steps.proofs.with_byte.Goals as goal

pub returns-then-p-lt288 : goal.returns-then-p-lt288
returns-then-p-lt288 c = added_byte _ _ _ refl refl

pub returns-else-p-lt288 : goal.returns-else-p-lt288
returns-else-p-lt288 c = added_full _ _ (omega arith)
