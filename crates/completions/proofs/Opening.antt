-- What the plain search is answered: the state below, or why k masks of the list or fewer do not complete the sum with the mask.
use mathlib.Core.List.{List}
use Prim.Native.Nat.{ℕ}
use Rattle.completions.specs.declared.Here.{Here}
use Rattle.completions.specs.Completing.{Below, NoneHere}
use Rattle.completions.specs.Opening.{Shut}
use Rattle.completions.proofs.Stepping.{below_fills}

module _ (nums cand : List ℕ) (here : Here) (m k : ℕ) where
  -- nothing completes the sum below
  pub shut_none : (c : Here) → Below nums here m c → NoneHere nums c cand k → Shut nums cand here m k
  shut_none c b h = record {
    no = λ room permitted r a t L f g q. (h.no permitted (b.ready permitted r t) a).no L (below_fills nums here m c b permitted L f) g q;
  }
