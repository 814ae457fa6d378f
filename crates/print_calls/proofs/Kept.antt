-- Of a list of more than 17 words ground 1 holds, so that 18 words of it are enough to be refused by.
use mathlib.Core.Path.{◌≡◌, refl, sym, ap, subst, ◌∙◌}
use mathlib.Core.Logic.{⊎_elim}
use mathlib.Core.Bool.{Bool, true, false, not, cond, ◌||◌}
use mathlib.Core.List.{List}
use Prim.Native.Nat.{ℕ, ◌<◌}
use native.Mathlib.Omega.{arith}
use borrow.Author.Tests.{lt-ltb}
use lib.Dec.{T, ltb, ltb→lt, nltb→le}
use lib.ListN.{length, take}
use lib.Seq.{take_all, length-take-le}
use Rattle.plane.proofs.Tests.{T_dec}
use Rattle.words.specs.Ground.{first_of, refusal}
use Rattle.words.specs.Ground.{Answer}
use Rattle.shapes.specs.Shape.{shape_tests}
use Rattle.planning.specs.Planning.{planning_tests, Planned}
use Rattle.planning.specs.Printer.{PrintedFor}

or_true : (a b : Bool) → b ≡ true → (a || b) ≡ true
or_true true b e = refl
or_true false b e = e

-- ground 1 is tried first
too_long : (ws out : List ℕ) → 17 < length ws → first_of (planning_tests ws out) ≡ 1
unfolding shape_tests
too_long ws out h = first _ _ (or_true (ltb (length ws) 2) (ltb 17 (length ws)) (lt-ltb 17 (length ws) h))
  where
    first : (b : Bool) (n : ℕ) → b ≡ true → cond b 1 n ≡ 1
    first b n e = ap (λ c. cond c 1 n) e

-- the refusal of one list of more than 17 words is that of any other
long_alike : (ws vs out : List ℕ) (r : Answer) (out' : List ℕ) → 17 < length ws → 17 < length vs → Planned ws out r out' → Planned vs out r out'
long_alike ws vs out r out' h k P =
    let e = too_long ws out h in
    let f = too_long vs out k in
    record {
      refused = λ _. let q = P.refused (λ z. let n : ◌≡◌ {A = ℕ} 1 0 = sym e ∙ z in omega arith) in (q.0 ∙ ap refusal (e ∙ sym f), q.1);
      done = λ z. absurd (let n : ◌≡◌ {A = ℕ} 1 0 = sym f ∙ z in omega arith);
    }

pub kept_planned : (ws out : List ℕ) (r : Answer) (out' : List ℕ) → Planned (take 18 ws) out r out' → Planned ws out r out'
kept_planned ws out r out' P = ⊎_elim long short (T_dec (ltb 18 (length ws)))
  where
    long : T (ltb 18 (length ws)) → Planned ws out r out'
    long t =
        let h = ltb→lt 18 (length ws) t in
        let n = length-take-le 18 ws (omega arith) in
        long_alike (take 18 ws) ws out r out' (omega arith) (omega arith) P

    short : T (not (ltb 18 (length ws))) → Planned ws out r out'
    short t = subst (λ l. Planned l out r out') (take_all 18 ws (nltb→le 18 (length ws) t)) P

-- what is printed for the first 18 words is printed for all
pub kept_printed : (ws output : List ℕ) → PrintedFor (take 18 ws) output → PrintedFor ws output
kept_printed ws output P =
    record {
      out = P.out;
      room = P.room;
      answer = P.answer;
      out' = P.out';
      plans = kept_planned ws P.out P.answer P.out' P.plans;
      prints = P.prints;
    }
