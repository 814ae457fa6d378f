-- The operation that was called is the one that was asked for.
use mathlib.Core.Path.{◌≡◌, sym, subst}
use mathlib.Core.List.{List}
use Prim.Native.Nat.{ℕ}
use Rattle.words.specs.Ground.{Answer}
use Rattle.cleaning.specs.Cleaning.{Cleaned}
use Rattle.cleaning.specs.declared.Operation.{Operation}

-- the operation that was called is the one that was asked for
pub called_as : {o op : Operation} {plan : List ℕ} {W H : ℕ} {f i j : List ℕ} {r : Answer} {i' j' : List ℕ} → op ≡ o → Cleaned o plan W H f i j r i' j'
    → Cleaned op plan W H f i j r i' j'
called_as {plan = plan} {W = W} {H = H} {f = f} {i = i} {j = j} {r = r} {i' = i'} {j' = j'} e c = subst (λ o. Cleaned o plan W H f i j r i' j') (sym e) c
