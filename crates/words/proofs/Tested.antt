-- What a refusal by tests says of a call that tries them.
use mathlib.Core.Path.{◌≡◌, sym, ◌∙◌, subst}
use mathlib.Core.Logic.{◌≢◌, ◌⊎◌, inl, inr}
use mathlib.Core.Bool.{not}
use mathlib.Core.List.{List, ◌++◌}
use Prim.Native.Nat.{ℕ}
use native.Mathlib.Omega.{arith}
use lib.Dec.{T, eqb, eqb→eq}
use Rattle.plane.proofs.Tests.{T_dec, clash, eq-eqb}
use Rattle.words.specs.declared.Ground.{Ground}
use Rattle.words.specs.Ground.{Test, first_of, number_of, Promised}
use Rattle.words.proofs.Refusals.{first_append, ground_small, promised_refusal, promised_first}

-- the tests refuse by the ground g
module _ (ts : List Test) (g : Ground) (e : number_of g ≡ first_of ts) where
  some : first_of ts ≢ 0
  some z = let s = (ground_small g).0 in absurd (omega arith)

  -- a refusal by the first tests is that of all
  pub refused_more : (us : List Test) → number_of g ≡ first_of (ts ++ us)
  refused_more us = e ∙ sym (first_append ts us some)

  -- so does a call whose answer, of whatever type, is the refusal by g
  module _ {Refuses : ℕ → Type 0} {Unchanged Work : Type 0} where
    pub refused_call : Refuses (number_of g) → Unchanged → Promised ts Refuses Unchanged Work
    refused_call s u = promised_refusal ts some (subst Refuses e s) u

    -- and one that tries more tests after them
    pub refused_first : (us : List Test) → Refuses (number_of g) → Unchanged → Promised (ts ++ us) Refuses Unchanged Work
    refused_first us s u = promised_first ts us some (subst Refuses e s) u

-- a promise in one: the number that is answered is that of the first test that holds, 0 where none does, and a refusal leaves all that is lent as it is
pub promised_number : {Refuses : ℕ → Type 0} {Unchanged Work : Type 0} (ts : List Test) (n : ℕ) → ((k : ℕ) → Refuses k → n ≡ k) → (Work → n ≡ 0)
    → Promised ts Refuses Unchanged Work → (n ≡ first_of ts) × (n ≢ 0 → Unchanged)
promised_number {Refuses} {Unchanged} ts n says w a = go (T_dec (eqb (first_of ts) 0))
  where
    go : T (eqb (first_of ts) 0) ⊎ T (not (eqb (first_of ts) 0)) → (n ≡ first_of ts) × (n ≢ 0 → Unchanged)
    go (inl t) = let e = eqb→eq (first_of ts) 0 t in let z = w (a.done e) in (z ∙ sym e, λ k. absurd (k z))
    go (inr t) = let q = a.refused (λ e. clash (eqb (first_of ts) 0) t (eq-eqb e)) in (says (first_of ts) q.0, λ _. q.1)
