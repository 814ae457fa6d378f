-- Tests that come behind others: they decide where none of the first holds.
use mathlib.Core.Path.{◌≡◌, sym, ◌∙◌, ap}
use mathlib.Core.Logic.{◌⊎◌, inl, inr}
use mathlib.Core.Bool.{not, cond}
use mathlib.Core.List.{List, ◌++◌}
use lib.Dec.{T, eqb, eqb→eq}
use Rattle.plane.proofs.Tests.{T_dec, T_true, T_false, clash, eq-eqb}
use Rattle.words.specs.Ground.{Test, first_of}
use Rattle.words.proofs.Refusals.{numbered, clear, first_append, rest_append}

pub first_behind : (ts us : List Test) → T (numbered ts) → first_of (ts ++ us) ≡ cond (eqb (first_of ts) 0) (first_of us) (first_of ts)
first_behind ts us n = go (T_dec (eqb (first_of ts) 0))
  where
    go : T (eqb (first_of ts) 0) ⊎ T (not (eqb (first_of ts) 0)) → first_of (ts ++ us) ≡ cond (eqb (first_of ts) 0) (first_of us) (first_of ts)
    go (inl t) =
        rest_append ts us (clear ts n (eqb→eq (first_of ts) 0 t)) ∙ sym (ap (λ b. cond b (first_of us) (first_of ts)) (T_true (eqb (first_of ts) 0) t))
    go (inr t) =
        first_append ts us (λ e. clash (eqb (first_of ts) 0) t (eq-eqb e))
        ∙ sym (ap (λ b. cond b (first_of us) (first_of ts)) (T_false (eqb (first_of ts) 0) t))
