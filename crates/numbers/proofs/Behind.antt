-- One ground more behind those that an answer is for: what the answer says then, of which a number hands back the ground.
use mathlib.Core.Path.{◌≡◌, refl, sym, ◌∙◌, ap}
use mathlib.Core.Bool.{Bool, true, false}
use mathlib.Core.List.{List, [], ◌∷◌, ◌++◌}
use Prim.Native.Nat.{ℕ}
use native.Mathlib.Omega.{arith}
use lib.Dec.{T}
use Rattle.std.specs.Prelude.{Ok, Err}
use Rattle.words.specs.declared.Ground.{Ground}
use Rattle.words.specs.Ground.{Answer, Test, first_of, number_of, stated, refusal, refused_by, TriedAfter}
use Rattle.words.proofs.Refusals.{numbered, ground_small, tried_more}

tried_result : {a : Answer} {holds : Bool} {g : Ground} (r : Answer) (k n : ℕ) → TriedAfter a holds g r → stated a ≡ refusal k → refused_by r ≡ n → stated r ≡ refusal n
tried_result {a} {holds} {g} (Err f) k n t e z = ap refusal z
tried_result {a} {holds} {g} (Ok x) k n t e z = ap (λ m. (m, x)) z ∙ ap (λ y. (n, y)) (go a refl holds refl)
  where
    passed : ℕ → Answer
    passed y = Ok y

    apart : (y : ℕ) (f : Ground) → passed y ≡ Err f → ⊥
    apart y f q = let z : 0 ≡ number_of f = ap (λ r. (stated r).0) q in let s = (ground_small f).0 in omega arith

    go : (b : Answer) → a ≡ b → (h : Bool) → holds ≡ h → x ≡ 0
    go (Err f) q h i = absurd (apart x f (t.stays f q))
    go (Ok y) q true i = absurd (apart x g (t.refuses y q i))
    go (Ok y) q false i = ap (λ r. (stated r).1) (t.passes y q i) ∙ ap (λ s. s.1) (ap stated (sym q) ∙ e)

-- the answer for some tests becomes the answer for one more behind them, as a refusal without a result
pub tried_stated : {a : Answer} {holds : Bool} {g : Ground} {r : Answer} → TriedAfter a holds g r → (ts : List Test) (b : Bool) → T (numbered ts)
    → stated a ≡ refusal (first_of ts)
    → (first_of ts ≡ 0 → holds ≡ b) → stated r ≡ refusal (first_of (ts ++ (number_of g, b) ∷ []))
tried_stated {a} {holds} {g} {r} t ts b n e f =
    tried_result r (first_of ts) _ t e (tried_more t ts b n (told a ∙ ap (λ s. s.0) e) f)
  where
    told : (a : Answer) → refused_by a ≡ (stated a).0
    told (Ok x) = refl
    told (Err g) = refl
