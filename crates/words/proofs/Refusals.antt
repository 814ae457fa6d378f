-- Numbered tests of which none holds; and that what an answer says is the whole answer.
use mathlib.Core.Path.{◌≡◌, refl, sym, ◌∙◌, ap, subst}
use mathlib.Core.Logic.{◌≢◌, ◌⊎◌, inl, inr}
use mathlib.Core.Bool.{Bool, true, false, not, cond, ◌&&◌}
use mathlib.Core.List.{List, [], ◌∷◌, ◌++◌}
use Prim.Native.Nat.{ℕ, zero, suc, ◌≤◌}
use native.Mathlib.Omega.{arith}
use lib.Dec.{T, ltb, leb, eqb, ltb→lt, leb→le, eqb→eq}
use lib.ListN.{get_or, drop}
use Rattle.plane.specs.Lists.{all}
use Rattle.plane.proofs.Tests.{T_and, T_dec, T_false, not_or, eq-eqb}
use Rattle.words.specs.Ground.{Answer, Test, first_of, number_of, stated, result, refusal, refused_by, both, Tried, TriedAfter, Promised}
use Rattle.words.specs.declared.Ground.{Ground}
use Rattle.words.specs.declared.Ground.TheVariants.{ListLength, WordKind, ExtraBit, RowOrder, StageCount, PlaceField, StageMask, OutOfRange}
use Rattle.words.specs.declared.Ground.TheVariants.{OutputLength, NoChain, FrameSize, FrameLength, CellValue, ImageLength, RowLength, NoneMeasured}
use Rattle.std.specs.Prelude.{Result, Ok, Err}

-- ---- tests in turn

-- the test at place k, or one that holds where there is none
abbrev pub test_at : List Test → ℕ → Test
test_at ts k = get_or ts k (0, true)

-- of the tests from place k on the first holds, or it fails
pub first_holds : (ts : List Test) (k : ℕ) → (test_at ts k).1 ≡ true → first_of (drop k ts) ≡ (test_at ts k).0
first_holds [] zero e = refl
first_holds [] (suc k) e = refl
first_holds (t ∷ ts) zero e = ap (λ b. cond b t.0 (first_of ts)) e
first_holds (t ∷ ts) (suc k) e = first_holds ts k e

pub first_fails : (ts : List Test) (k : ℕ) → (test_at ts k).1 ≡ false → first_of (drop k ts) ≡ first_of (drop (suc k) ts)
first_fails [] zero e = refl
first_fails [] (suc k) e = refl
first_fails (t ∷ ts) zero e = ap (λ b. cond b t.0 (first_of ts)) e
first_fails (t ∷ ts) (suc k) e = first_fails ts k e

-- ---- tests that fail

-- every test of a list fails
abbrev pub Clear : List Test → Type 0
Clear [] = Unit {0}
Clear (t ∷ ts) = T (not t.1) × Clear ts

-- no test has the number 0
abbrev pub numbered : List Test → Bool
numbered ts = all (λ t. ltb 0 t.0) ts

pub clear : (ts : List Test) → T (numbered ts) → first_of ts ≡ 0 → Clear ts
clear [] n e = tt
clear (t ∷ ts) n e = go t.1 ((T_and (ltb 0 t.0) (numbered ts)).0 n) (clear ts) e
  where
    go : (b : Bool) → T (ltb 0 t.0) × T (numbered ts) → (T (numbered ts) → first_of ts ≡ 0 → Clear ts) → cond b t.0 (first_of ts) ≡ 0 → T (not b) × Clear ts
    go true u ih e = absurd (let l = ltb→lt 0 t.0 u.0 in omega arith)
    go false u ih e = (tt, ih u.1 e)

pub unclear : (ts : List Test) → Clear ts → first_of ts ≡ 0
unclear [] c = refl
unclear (t ∷ ts) c = go t.1 c.0 (unclear ts c.1)
  where
    go : (b : Bool) → T (not b) → first_of ts ≡ 0 → cond b t.0 (first_of ts) ≡ 0
    go true n e = absurd n
    go false n e = e

pub clear_append : (ts us : List Test) → Clear ts → Clear us → Clear (ts ++ us)
clear_append [] us c d = d
clear_append (t ∷ ts) us c d = (c.0, clear_append ts us c.1 d)

pub clear_first : (ts us : List Test) → Clear (ts ++ us) → Clear ts
clear_first [] us c = tt
clear_first (t ∷ ts) us c = (c.0, clear_first ts us c.1)

pub clear_last : (ts us : List Test) → Clear (ts ++ us) → Clear us
clear_last [] us c = c
clear_last (t ∷ ts) us c = clear_last ts us c.1

-- tests that come after others
pub first_append : (ts us : List Test) → first_of ts ≢ 0 → first_of (ts ++ us) ≡ first_of ts
first_append [] us n = absurd (n refl)
first_append (t ∷ ts) us n = go t.1 n (first_append ts us)
  where
    go : (b : Bool) → cond b t.0 (first_of ts) ≢ 0 → (first_of ts ≢ 0 → first_of (ts ++ us) ≡ first_of ts)
        → cond b t.0 (first_of (ts ++ us)) ≡ cond b t.0 (first_of ts)
    go true n ih = refl
    go false n ih = ih n

pub rest_append : (ts us : List Test) → Clear ts → first_of (ts ++ us) ≡ first_of us
rest_append [] us c = refl
rest_append (t ∷ ts) us c = go t.1 c.0 (rest_append ts us c.1)
  where
    go : (b : Bool) → T (not b) → first_of (ts ++ us) ≡ first_of us → cond b t.0 (first_of (ts ++ us)) ≡ first_of us
    go true n e = absurd n
    go false n e = e

-- two lists of tests, each ground tried over both: none holds where none of either does
pub both_clear : (ts us : List Test) → Clear (both ts us) → Clear ts × Clear us
both_clear [] us c = (tt, c)
both_clear (t ∷ ts) [] c = (c, tt)
both_clear (t ∷ ts) (u ∷ us) c =
    let n = (not_or t.1 u.1).0 c.0 in
    let r = both_clear ts us c.1 in
    ((n.0, r.0), (n.1, r.1))

-- ---- calls

-- the answer may be of any type
module _ {Refuses : ℕ → Type 0} {Unchanged Work : Type 0} (ts : List Test) where
  -- where no test holds, the work is all that is promised
  pub promised_done : first_of ts ≡ 0 → Work → Promised ts Refuses Unchanged Work
  promised_done z w = record { refused = λ n. absurd (n z); done = λ _. w }

  -- where one holds, the refusal is
  pub promised_refusal : first_of ts ≢ 0 → Refuses (first_of ts) → Unchanged → Promised ts Refuses Unchanged Work
  promised_refusal n e u = record { refused = λ _. (e, u); done = λ z. absurd (n z) }

  -- where one of the first tests holds, a call with more tests refuses with it
  pub promised_first : (us : List Test) → first_of ts ≢ 0 → Refuses (first_of ts) → Unchanged → Promised (ts ++ us) Refuses Unchanged Work
  promised_first us n e u = record {
    refused = λ _. (subst Refuses (sym (first_append ts us n)) e, u);
    done = λ z. absurd (n (sym (first_append ts us n) ∙ z));
  }

  -- where none of them holds, the rest decide
  pub promised_rest : (us : List Test) → Clear ts → Promised us Refuses Unchanged Work → Promised (ts ++ us) Refuses Unchanged Work
  promised_rest us c a = record {
    refused = λ n. let q = a.refused (λ z. n (rest_append ts us c ∙ z)) in (subst Refuses (sym (rest_append ts us c)) q.0, q.1);
    done = λ z. a.done (sym (rest_append ts us c) ∙ z);
  }

-- ---- answers

-- a number's ground
unfoldable pub ground_of : ℕ → Ground
ground_of n =
    cond (eqb n 1) ListLength (cond (eqb n 2) WordKind (cond (eqb n 3) ExtraBit (cond (eqb n 4) RowOrder (cond (eqb n 5) StageCount
    (cond (eqb n 6) PlaceField (cond (eqb n 7) StageMask (cond (eqb n 8) OutOfRange (cond (eqb n 9) OutputLength (cond (eqb n 10) NoChain
    (cond (eqb n 11) FrameSize (cond (eqb n 12) FrameLength (cond (eqb n 13) CellValue
    (cond (eqb n 14) ImageLength (cond (eqb n 15) RowLength NoneMeasured))))))))))))))

ground_back : (g : Ground) → ground_of (number_of g) ≡ g
unfolding ground_of
ground_back ListLength = refl
ground_back WordKind = refl
ground_back ExtraBit = refl
ground_back RowOrder = refl
ground_back StageCount = refl
ground_back PlaceField = refl
ground_back StageMask = refl
ground_back OutOfRange = refl
ground_back OutputLength = refl
ground_back NoChain = refl
ground_back FrameSize = refl
ground_back FrameLength = refl
ground_back CellValue = refl
ground_back ImageLength = refl
ground_back RowLength = refl
ground_back NoneMeasured = refl

-- no two grounds share a number
pub ground_once : (g h : Ground) → number_of g ≡ number_of h → g ≡ h
ground_once g h e = sym (ground_back g) ∙ ap ground_of e ∙ ground_back h

-- a number that a ground may have
abbrev pub is_ground : ℕ → Bool
is_ground n = leb 1 n && leb n 16

pub ground_known : (g : Ground) → T (is_ground (number_of g))
ground_known ListLength = tt
ground_known WordKind = tt
ground_known ExtraBit = tt
ground_known RowOrder = tt
ground_known StageCount = tt
ground_known PlaceField = tt
ground_known StageMask = tt
ground_known OutOfRange = tt
ground_known OutputLength = tt
ground_known NoChain = tt
ground_known FrameSize = tt
ground_known FrameLength = tt
ground_known CellValue = tt
ground_known ImageLength = tt
ground_known RowLength = tt
ground_known NoneMeasured = tt

-- so it is not 0, and has two digits at most
pub ground_small : (g : Ground) → (1 ≤ number_of g) × (number_of g ≤ 99)
ground_small g =
    let n = number_of g in
    let u = (T_and (leb 1 n) (leb n 16)).0 (ground_known g) in
    let l = leb→le n 16 u.1 in
    (leb→le 1 n u.0, omega arith)

ground_some : (g : Ground) → eqb (number_of g) 0 ≡ false
ground_some g = go (number_of g) (ground_small g).0 (T_dec (eqb (number_of g) 0))
  where
    go : (n : ℕ) → 1 ≤ n → T (eqb n 0) ⊎ T (not (eqb n 0)) → eqb n 0 ≡ false
    go n h (inl t) = let e = eqb→eq n 0 t in absurd (omega arith)
    go n h (inr t) = T_false (eqb n 0) t

answer_of : ℕ × ℕ → Answer
answer_of s = cond (eqb s.0 0) (Ok s.1) (Err (ground_of s.0))

answer_back : (r : Answer) → answer_of (stated r) ≡ r
unfolding answer_of
answer_back (Ok n) = refl
answer_back (Err g) = ap (λ b. cond b (Ok 0) (Err (ground_of (number_of g)))) (ground_some g) ∙ ap Err (ground_back g)

-- two answers that say the same are the same: no two grounds share a number, and none has the number 0
pub stated_once : (r s : Answer) → stated r ≡ stated s → r ≡ s
stated_once r s e = sym (answer_back r) ∙ ap answer_of e ∙ answer_back s

-- no answer is both a result and a refusal
pub result_no_refusal : (r : Answer) (n k : ℕ) → stated r ≡ result n → stated r ≡ refusal k → k ≡ 0
result_no_refusal r n k p q = ap (λ s. s.0) (sym q ∙ p)

-- an answer that says which test holds: a refusal says that one does, any other that none does
pub refused_some : (g : Ground) (k : ℕ) → stated (Err g) ≡ refusal k → k ≢ 0
refused_some g k e z = absurd (subst T (ground_some g) (eq-eqb (ap (λ s. s.0) e ∙ z)))

pub done_none : (n k : ℕ) → stated (Ok n) ≡ refusal k → k ≡ 0
done_none n k e = sym (ap (λ s. s.0) e)

-- ---- one ground more

-- the answer for some tests becomes the answer for one more behind them. What was tried has to be the test's value b only where no test before it holds,
-- so that what is tested may lean on them
pub tried_more : {A : Type 0} {a : Result A Ground} {holds : Bool} {g : Ground} {r : Result A Ground} → TriedAfter a holds g r → (ts : List Test) (b : Bool)
    → T (numbered ts) → refused_by a ≡ first_of ts
    → (first_of ts ≡ 0 → holds ≡ b) → refused_by r ≡ first_of (ts ++ (number_of g, b) ∷ [])
tried_more {A} {a} {holds} {g} {r} t ts b n e f = go a refl
  where
    -- where no test before it holds, it decides
    decides : first_of ts ≡ 0 → first_of (ts ++ (number_of g, b) ∷ []) ≡ cond holds (number_of g) 0
    decides z = rest_append ts ((number_of g, b) ∷ []) (clear ts n z) ∙ ap (λ h. cond h (number_of g) 0) (sym (f z))

    go : (a' : Result A Ground) → a ≡ a' → refused_by r ≡ first_of (ts ++ (number_of g, b) ∷ [])
    go (Err h) q =
        let said : number_of h ≡ first_of ts = ap refused_by (sym q) ∙ e in
        let some : first_of ts ≢ 0 = λ z. let s = (ground_small h).0 in absurd (omega arith) in
        ap refused_by (t.stays h q) ∙ said ∙ sym (first_append ts ((number_of g, b) ∷ []) some)
    go (Ok x) q = by holds refl
      where
        none : first_of ts ≡ 0
        none = sym (ap refused_by (sym q) ∙ e)

        by : (h : Bool) → holds ≡ h → refused_by r ≡ first_of (ts ++ (number_of g, b) ∷ [])
        by true h = ap refused_by (t.refuses x q h) ∙ sym (decides none ∙ ap (λ h. cond h (number_of g) 0) h)
        by false h = ap refused_by (t.passes x q h) ∙ sym (decides none ∙ ap (λ h. cond h (number_of g) 0) h)

-- what a ground that is tried by itself answers, where those before it passed
pub tried_after : (holds : Bool) (g : Ground) (r : Result (Unit {0}) Ground) → Tried holds g r → TriedAfter (Ok tt) holds g r
tried_after holds g (Ok u) t = record {
  stays = λ f e. absurd (apart f e);
  refuses = λ x e h. absurd (subst T (sym h ∙ t) tt);
  passes = λ x e h. refl;
}
  where
    passed : Result (Unit {0}) Ground
    passed = Ok tt

    apart : (f : Ground) → passed ≡ Err f → ⊥
    apart f e = let z : 0 ≡ number_of f = ap refused_by e in let s = (ground_small f).0 in omega arith
tried_after holds g (Err f) t = record {
  stays = λ h e. absurd (apart h e);
  refuses = λ x e h. ap Err t.1;
  passes = λ x e h. absurd (subst T (sym t.0 ∙ h) tt);
}
  where
    passed : Result (Unit {0}) Ground
    passed = Ok tt

    apart : (f : Ground) → passed ≡ Err f → ⊥
    apart f e = let z : 0 ≡ number_of f = ap refused_by e in let s = (ground_small f).0 in omega arith

-- so where none of the tests before it holds, it is the answer for them and it
pub tried_next : (holds : Bool) (g : Ground) (r : Result (Unit {0}) Ground) → Tried holds g r → (ts : List Test) (b : Bool) → T (numbered ts)
    → first_of ts ≡ 0 → holds ≡ b → refused_by r ≡ first_of (ts ++ (number_of g, b) ∷ [])
tried_next holds g r t ts b n z h = tried_more (tried_after holds g r t) ts b n (sym z) (λ _. h)
