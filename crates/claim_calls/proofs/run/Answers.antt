-- What was done call by call keeps the claim.
use mathlib.Core.Path.{refl}
use Rattle.claim.proofs.Claimed.{claimed, lent}
use Rattle.claim_calls.proofs.run.Goals as goal

pub returns : goal.returns
returns c = let s = c.steps.ensures in (claimed _ _ _ _ _ _ _ _ refl _ _ _ s, lent _ _ _ _ _ _ _ _ refl _ _ _ s)
