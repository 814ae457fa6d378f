-- A promise made of numbered tests can be kept on every input, where the numbers are those of grounds and the work can be done where no test holds.
use mathlib.Core.Path.{◌≡◌, refl, subst}
use mathlib.Core.Logic.{◌⊎◌, inl, inr}
use mathlib.Core.Bool.{Bool, not, ◌||◌}
use mathlib.Core.List.{List, [], ◌∷◌}
use Prim.Native.Nat.{ℕ, ◌<◌}
use native.Mathlib.Omega.{arith}
use lib.Dec.{T, leb, eqb, eqb→eq, leb→le}
use Rattle.std.specs.Prelude.{Err}
use Rattle.words.specs.declared.Ground.{Ground}
use Rattle.plane.specs.Lists.{all, up_to}
use Rattle.plane.proofs.Member.{each_below}
use Rattle.plane.proofs.Tests.{T_and, T_or, T_dec, clash, cond_ind, eq-eqb}
use Rattle.words.specs.Ground.{Answer, Test, first_of, number_of, stated, refusal, Promised, Answered}
use Rattle.words.proofs.Refusals.{ground_of, is_ground, promised_done, promised_refusal}

-- every test has the number of a ground
abbrev pub known : List Test → Bool
known ts = all (λ t. is_ground t.0) ts

-- each such number is that of its ground: computed
back : ℕ → Bool
unfolding ground_of
back n = not (is_ground n) || eqb (number_of (ground_of n)) n

back_table : T (all back (up_to 17))
unfolding back
back_table = tt

number_back : (n : ℕ) → T (is_ground n) → number_of (ground_of n) ≡ n
unfolding back
number_back n t = go ((T_or (not (is_ground n)) (eqb (number_of (ground_of n)) n)).0 (each_below back 17 back_table n below))
  where
    below : n < 17
    below = let h = leb→le n 16 ((T_and (leb 1 n) (leb n 16)).0 t).1 in omega arith

    go : T (not (is_ground n)) ⊎ T (eqb (number_of (ground_of n)) n) → number_of (ground_of n) ≡ n
    go (inl u) = absurd (clash (is_ground n) u t)
    go (inr u) = eqb→eq (number_of (ground_of n)) n u

-- the first that holds is one of them, or none does
first_known : (ts : List Test) → T (known ts) → (first_of ts ≡ 0) ⊎ T (is_ground (first_of ts))
first_known [] t = inl refl
first_known (x ∷ ts) t =
    let u = (T_and (is_ground x.0) (known ts)).0 t in
    cond_ind x.1 x.0 (first_of ts) (λ n. (n ≡ 0) ⊎ T (is_ground n)) (λ _. inr u.0) (λ _. first_known ts u.1)

-- a state that is left as it is with a refusal, and one that the work leaves otherwise; of whatever type the answer is, where it can refuse by each ground
pub can_promise : {A S : Type 0} (Refuses : A → ℕ → Type 0) (refuse : Ground → A) → ((g : Ground) → Refuses (refuse g) (number_of g)) → (ts : List Test)
    → T (known ts)
    → (same : S) (U : S → Type 0) (W : A → S → Type 0) → U same → (first_of ts ≡ 0 → (r : A) × (s : S) × W r s)
    → (r : A) × (s : S) × Promised ts (Refuses r) (U s) (W r s)
can_promise {A} {S} Refuses refuse says ts t same U W u w = go (T_dec (eqb (first_of ts) 0)) (first_known ts t)
  where
    Kept : Type 0
    Kept = (r : A) × (s : S) × Promised ts (Refuses r) (U s) (W r s)

    done : first_of ts ≡ 0 → Kept
    done e = let q = w e in (q.0, q.1, promised_done ts e q.2)

    go : T (eqb (first_of ts) 0) ⊎ T (not (eqb (first_of ts) 0)) → (first_of ts ≡ 0) ⊎ T (is_ground (first_of ts)) → Kept
    go (inl e) k = done (eqb→eq (first_of ts) 0 e)
    go (inr n) (inl e) = done e
    go (inr n) (inr k) =
        let g = ground_of (first_of ts) in (
          refuse g,
          same,
          promised_refusal ts (λ e. clash (eqb (first_of ts) 0) n (eq-eqb e)) (subst (Refuses (refuse g)) (number_back (first_of ts) k) (says g)) u,
        )

pub can_keep : {S : Type 0} (ts : List Test) → T (known ts) → (same : S) (U : S → Type 0) (W : Answer → S → Type 0) → U same
    → (first_of ts ≡ 0 → (r : Answer) × (s : S) × W r s) → (r : Answer) × (s : S) × Answered ts r (U s) (W r s)
can_keep ts t same U W u w = can_promise (λ r k. stated r ≡ refusal k) Err (λ _. refl) ts t same U W u w
