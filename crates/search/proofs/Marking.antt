-- Which masks are tried at all: a stage of a list that sums to A leaves A equal to (A ⊖ m) ⊕ m, so a stage that does not is in no such list.
use mathlib.Core.Path.{◌≡◌, refl, sym, ◌∙◌, subst}
use mathlib.Core.Bool.{Bool, true, false, not}
use mathlib.Core.Logic.{◌⊎◌, inl, inr, ⊎_elim}
use mathlib.Core.List.{List, [], ◌∷◌}
use Prim.Native.Nat.{ℕ, zero, suc, ◌+◌, ◌≤◌, ◌<◌}
use native.Mathlib.Nat.{eq-or-lt_of_le}
use native.Mathlib.Omega.{arith}
use lib.Dec.{T}
use lib.ListN.{get_or, set, length-set, replicate}
use lib.Seq.{get_or-set_same, get_or-set_other}
use Rattle.plane.specs.Lists.{all, In}
use Rattle.plane.proofs.Member.{all_In, In-all}
use Rattle.plane.proofs.Tests.{T_dec, T_true, T_false, lt_or_le}
use Rattle.masks.specs.Mask.{stage}
use Rattle.masks.proofs.Cells.{stage_below}
use Rattle.rows.specs.Cells.{Cells, Same, Sum, Residue, At, AtMask, AtSum, CutTo}
use Rattle.rows.proofs.Sums.{Rows16, in_x, in_y}
use Rattle.search.specs.Plans.{SumsTo}
use Rattle.search.specs.Tree.{tries, Marks, Candidate, Candidates}
use Rattle.rows.proofs.Addition.{same_refl, same_sym, same_trans, to_cell, add_cells, sum_both, sum_comm, sum_assoc}

-- a sum is the sum of one of its masks and of the others
split : (m : ℕ) (ns : List ℕ) → In ns m → (rs : List ℕ) × Same (AtSum ns) (Sum (AtSum rs) (AtMask m))
split m [] h = elim h [ ]
split m (n ∷ ns) (inl e) = (ns, subst (λ k. Same (Sum (AtMask k) (AtSum ns)) (Sum (AtSum ns) (AtMask m))) e sum_comm)
split m (n ∷ ns) (inr h) =
    let r = split m ns h in
    (n ∷ r.0, same_trans (sum_both same_refl r.1) (same_sym sum_assoc))

-- ---- one mask

module _ (A : List ℕ) (wA : Rows16 A) (m : ℕ) (t : List ℕ) (ht : CutTo (Residue (At A) (AtMask m)) t) (c : List ℕ) (hc : CutTo (Sum (At t) (AtMask m)) c) where
  -- what the residue and the mask sum to is in A
  whole_in : (x z : ℕ) → At c x z → At A x z
  whole_in x z h = let s = hc.to x z h in to_cell (At A) s.at_x s.at_y ((ht.to s.x1 s.y1 s.left).all s.x2 s.y2 s.right)

  -- where A is a sum with the mask, it is all of A
  pub opens : (permitted : ℕ → Bool) (ns : List ℕ) → SumsTo permitted (At A) ns → In ns m → Same (At A) (At c)
  opens permitted ns S h = record {
    to = λ x z a. let s = e.to x z a in
        hc.from x z (record {
          x1 = s.x1;
          y1 = s.y1;
          x2 = s.x2;
          y2 = s.y2;
          left = in_t s.x1 s.y1 s.left x z (omega (arith, s.at_x))
              (omega (arith, s.at_y)) a;
          right = s.right;
          at_x = s.at_x;
          at_y = s.at_y;
        })
        (in_x A wA x z a) (in_y A wA x z a);
    from = whole_in;
  }
    where
      rs : List ℕ
      rs = (split m ns h).0

      e : Same (At A) (Sum (AtSum rs) (AtMask m))
      e = same_trans S.sum (split m ns h).1

      -- a cell of the others moves each cell of the mask into A
      in_t : (u v : ℕ) → AtSum rs u v → (x z : ℕ) → u ≤ x → v ≤ z → At A x z → At t u v
      in_t u v k x z p q a =
          ht.from u v (record { all = λ i j f. e.from (u + i) (v + j) (add_cells u v i j k f) })
          (omega (arith, in_x A wA x z a)) (omega (arith, in_y A wA x z a))

-- no mark is set at first
false_at : (n m : ℕ) → get_or (replicate n false) m false ≡ false
false_at zero m = refl
false_at (suc n) zero = refl
false_at (suc n) (suc m) = false_at n m

module _ (permitted : ℕ → Bool) (A : Cells) where
  -- a mask that is not permitted, or that leaves something else than A
  pub mark_none : (m : ℕ) (mark : Bool) → mark ≡ false → (T (permitted m) → (ns : List ℕ) → SumsTo permitted A ns → In ns m → ⊥) → Candidate permitted A m mark
  mark_none m mark z f = record { tried = λ e. absurd (subst T (sym e ∙ z) tt); passed = λ g st ns S h. f st ns S h }

  pub mark_one : (m : ℕ) (mark : Bool) → mark ≡ true → T (permitted m) → Candidate permitted A m mark
  mark_one m mark e st = record { tried = λ _. st; passed = λ g. absurd (subst T (sym e ∙ g) tt) }

  -- a permitted mask has its mark, unless no sum that is A has it
  pub mark_by : (m : ℕ) (mark : Bool) → T (permitted m) → (mark ≡ false → T (permitted m) → (ns : List ℕ) → SumsTo permitted A ns → In ns m → ⊥)
      → Candidate permitted A m mark
  mark_by m true st f = mark_one m true refl st
  mark_by m false st f = mark_none m false refl (f refl)

  -- ---- all masks

  pub marked_none : Candidates permitted A 0 (replicate 512 false)
  marked_none = record { room = refl; at = λ m l. absurd (omega arith); rest = λ m l. false_at 512 m }

  pub marked_more : (n : ℕ) (marks : List Bool) (v : Bool) → n < 512 → Candidates permitted A n marks → Candidate permitted A n v → Candidates permitted A
      (n + 1) (set marks n v)
  marked_more n marks v l M k = record {
    room = length-set marks n v ∙ M.room;
    at = λ m q. ⊎_elim
        (λ e. subst (λ (j : ℕ). Candidate permitted A j (get_or (set marks n v) j false)) (sym e)
        (subst (Candidate permitted A n) (sym (get_or-set_same marks n v false (omega (arith, M.room)))) k))
        (λ w. subst (Candidate permitted A m) (sym (get_or-set_other marks n m v false (λ e. omega arith))) (M.at m w))
        (eq-or-lt_of_le {n = m} {m = n} (omega arith));
    rest = λ m q. get_or-set_other marks n m v false (λ e. omega arith) ∙ M.rest m (omega arith);
  }

  module _ (sub : (m : ℕ) → T (permitted m) → T (stage m)) (marks : List Bool) (M : Candidates permitted A 512 marks) where
    -- what is tried is permitted
    pub tried_permitted : (m : ℕ) → T (tries marks m) → T (permitted m)
    tried_permitted m t =
        ⊎_elim (λ w. (M.at m w).tried (T_true (tries marks m) t)) (λ w. absurd (subst T (M.rest m w) t)) (lt_or_le m 512)

    pub marks_of : Marks marks
    marks_of = record { room = M.room; stages = λ m t. sub m (tried_permitted m t) }

    -- every mask of a list that sums to A is tried
    pub all_tried : (ns : List ℕ) → SumsTo permitted A ns → T (all (tries marks) ns)
    all_tried ns S = all_In (tries marks) ns (λ m h. go m h (T_dec (tries marks m)))
      where
        go : (m : ℕ) → In ns m → T (tries marks m) ⊎ T (not (tries marks m)) → T (tries marks m)
        go m h (inl t) = t
        go m h (inr f) =
            let st = In-all permitted ns S.masks m h in
            let k = M.at m (stage_below m (sub m st)) in
            absurd (k.passed (T_false (tries marks m) f) st ns S h)
