-- A chain of any masks gives a plan with no more stages: each mask is put in normal position, single cells are left out, and the stages are sorted.
use mathlib.Core.Path.{◌≡◌, refl, sym, ◌∙◌, ap, subst}
use mathlib.Core.Logic.{◌≢◌, ◌⊎◌, inl, inr}
use mathlib.Core.Bool.{Bool, true, false, not, cond}
use mathlib.Core.List.{List, [], ◌∷◌}
use Prim.Native.Nat.{ℕ, suc, ◌≤◌, ◌<◌, suc-le-suc}
use native.Mathlib.Omega.{arith}
use native.Mathlib.Nat.{le_refl, le_trans, le-suc}
use lib.Dec.{leb→le, nleb→lt, T, leb, ltb, ltb→lt}
use lib.IntN.{pos}
use lib.ListN.{length}
use Rattle.plane.specs.Lists.{In, all}
use Rattle.plane.specs.Point.{Point, ◌+ᵖ◌, ◌-ᵖ◌, origin, PointSet, ◌≐◌, moved, only}
use Rattle.plane.proofs.Algebra.{≐_refl, ≐_sym, ≐_trans, ⊕_cong, ⊕_comm, ⊕_only, moved_cong, Empty, moved_moved, moved_both, moved_origin}
use Rattle.plane.proofs.Tests.{T_and, not_ltb, cond_ind, not_or}
use Rattle.masks.specs.Chain.{sum_of, falling, Chain, subset, PlanOf}
use Rattle.masks.specs.Mask.{mask_cells, stage, Mask, normal_of, column_shift, row_shift, normal}
use Rattle.masks.proofs.Normal.{normal_or_zero, normal_move}
use Rattle.masks.proofs.Sum.{sum_cons, sum_swap, sum_tail}

-- ---- each member in normal position, those with one cell left out

-- the sum of any masks is empty, or a sum of no more stages, moved
pub record Reduced (ms : List ℕ) : Type 0 where
  pub stages : List ℕ
  pub offset : Point
  pub all_stages : T (all stage stages)
  pub count : length stages ≤ length ms
  pub sum : In (sum_of ms) ≐ moved offset (In (sum_of stages))

mask_zero : Empty (Mask 0)
unfolding mask_cells
mask_zero p h = h

-- the single cell adds nothing
one_more : (ms : List ℕ) → In (sum_of (1 ∷ ms)) ≐ In (sum_of ms)
unfolding mask_cells
one_more ms = ≐_trans (sum_cons 1 ms) (≐_trans (⊕_comm (Mask 1) S) (≐_trans (⊕_cong (≐_refl S) single) (≐_trans (⊕_only S origin) (moved_origin S))))
  where
    S : PointSet
    S = In (sum_of ms)

    pick : (p : Point) → (p ≡ origin) ⊎ ⊥ → p ≡ origin
    pick p (inl e) = e
    pick p (inr f) = absurd f

    single : Mask 1 ≐ only origin
    single p = (pick p, inl)

pub reduce : (ms : List ℕ) → T (all subset ms) → Empty (In (sum_of ms)) ⊎ Reduced ms
reduce [] h = inr (record { stages = []; offset = origin; all_stages = tt; count = le_refl 0; sum = ≐_sym (moved_origin (In (sum_of []))) })
reduce (m ∷ ms) h =
    let u = (T_and (subset m) (all subset ms)).0 h in
    let l = ltb→lt m 512 u.0 in
    go (normal_or_zero m l) (normal_move m l) (reduce ms u.1)
  where
    n : ℕ
    n = normal_of m

    shift : Point
    shift = (pos (column_shift m), pos (row_shift m))

    -- the mask is replaced by its normal position, and the offset grows by the shift
    keep_one : Mask m ≐ moved shift (Mask n) → (r : Reduced ms) → In (sum_of (m ∷ ms)) ≐ moved (shift +ᵖ r.offset) (In (sum_of (n ∷ r.stages)))
    keep_one q r =
        ≐_trans (sum_cons m ms) (≐_trans (⊕_cong q r.sum)
        (≐_trans (moved_both shift r.offset (Mask n) (In (sum_of r.stages))) (moved_cong (shift +ᵖ r.offset) (≐_sym (sum_cons n r.stages)))))

    add : Mask m ≐ moved shift (Mask n) → (n ≡ 1) ⊎ T (stage n) → (r : Reduced ms) → Reduced (m ∷ ms)
    add q (inl e) r = record {
      stages = r.stages;
      offset = shift +ᵖ r.offset;
      all_stages = r.all_stages;
      count = le_trans r.count (le-suc (length ms));
      sum = let same = subst (λ k. In (sum_of (k ∷ r.stages)) ≐ In (sum_of r.stages)) (sym e) (one_more r.stages) in
          ≐_trans (keep_one q r) (moved_cong (shift +ᵖ r.offset) same);
    }
    add q (inr t) r = record {
      stages = n ∷ r.stages;
      offset = shift +ᵖ r.offset;
      all_stages = (T_and (stage n) (all stage r.stages)).1 (t, r.all_stages);
      count = suc-le-suc r.count;
      sum = keep_one q r;
    }

    go : ((m ≡ 0) × (n ≡ 0)) ⊎ ((m ≢ 0) × T (normal n) × ((n ≡ 1) ⊎ T (stage n))) → Mask m ≐ moved shift (Mask n) → Empty (In (sum_of ms)) ⊎ Reduced ms
        → Empty (In (sum_of (m ∷ ms))) ⊎ Reduced (m ∷ ms)
    go (inl z) q r = inl (λ p k. let s = (sum_cons m ms p).0 k in mask_zero s.0 (subst (λ x. Mask x s.0) z.0 s.2))
    go (inr z) q (inl f) = inl (λ p k. let s = (sum_cons m ms p).0 k in f s.1 s.3)
    go (inr z) q (inr r) = inr (add q z.2 r)

-- ---- in order

insert : ℕ → List ℕ → List ℕ
insert m [] = m ∷ []
insert m (n ∷ ns) = cond (leb m n) (m ∷ n ∷ ns) (n ∷ insert m ns)

sort : List ℕ → List ℕ
sort [] = []
sort (m ∷ ms) = insert m (sort ms)

-- what holds of both outcomes holds of the list with m put in
insert_ind : (m k : ℕ) (ks : List ℕ) (P : List ℕ → Type 0) → (m ≤ k → P (m ∷ k ∷ ks)) → (k < m → P (k ∷ insert m ks)) → P (insert m (k ∷ ks))
unfolding insert
insert_ind m k ks P low high = cond_ind (leb m k) (m ∷ k ∷ ks) (k ∷ insert m ks) P (λ b. low (leb→le m k b)) (λ b. high (nleb→lt m k b))

-- m put into a list that does not fall, after n, which is not above it
insert_sorted : (n m : ℕ) (ns : List ℕ) → n ≤ m → T (not (falling (n ∷ ns))) → T (not (falling (n ∷ insert m ns)))
unfolding insert
insert_sorted n m [] h t = (not_or (ltb m n) false).1 (not_ltb m n h, tt)
insert_sorted n m (k ∷ ks) h t =
    let u = (not_or (ltb k n) (falling (k ∷ ks))).0 t in
    insert_ind m k ks (λ l. T (not (falling (n ∷ l))))
    (λ b. (not_or (ltb m n) (falling (m ∷ k ∷ ks))).1 (not_ltb m n h, (not_or (ltb k m) (falling (k ∷ ks))).1 (not_ltb k m b, u.1)))
    (λ b. (not_or (ltb k n) (falling (k ∷ insert m ks))).1 (u.0, insert_sorted k m ks (omega arith) u.1))

insert_sorted₀ : (m : ℕ) (ns : List ℕ) → T (not (falling ns)) → T (not (falling (insert m ns)))
unfolding insert
insert_sorted₀ m [] t = tt
insert_sorted₀ m (k ∷ ks) t = insert_ind m k ks (λ l. T (not (falling l)))
    (λ b. (not_or (ltb k m) (falling (k ∷ ks))).1 (not_ltb k m b, t))
    (λ b. insert_sorted k m ks (omega arith) t)

sort_sorted : (ms : List ℕ) → T (not (falling (sort ms)))
unfolding sort
sort_sorted [] = tt
sort_sorted (m ∷ ms) = insert_sorted₀ m (sort ms) (sort_sorted ms)

insert_sum : (m : ℕ) (ns : List ℕ) → In (sum_of (m ∷ ns)) ≐ In (sum_of (insert m ns))
unfolding insert
insert_sum m [] = ≐_refl (In (sum_of (m ∷ [])))
insert_sum m (k ∷ ks) = insert_ind m k ks (λ l. In (sum_of (m ∷ k ∷ ks)) ≐ In (sum_of l))
    (λ _. ≐_refl (In (sum_of (m ∷ k ∷ ks))))
    (λ _. ≐_trans (sum_swap m k ks) (sum_tail k (m ∷ ks) (insert m ks) (insert_sum m ks)))

sort_sum : (ms : List ℕ) → In (sum_of ms) ≐ In (sum_of (sort ms))
unfolding sort
sort_sum [] = ≐_refl (In (sum_of []))
sort_sum (m ∷ ms) = ≐_trans (sum_tail m ms (sort ms) (sort_sum ms)) (insert_sum m (sort ms))

insert_all : (f : ℕ → Bool) (m : ℕ) (ns : List ℕ) → T (f m) → T (all f ns) → T (all f (insert m ns))
unfolding insert
insert_all f m [] t u = (T_and (f m) true).1 (t, tt)
insert_all f m (k ∷ ks) t u =
    let v = (T_and (f k) (all f ks)).0 u in
    insert_ind m k ks (λ l. T (all f l))
    (λ _. (T_and (f m) (all f (k ∷ ks))).1 (t, u))
    (λ _. (T_and (f k) (all f (insert m ks))).1 (v.0, insert_all f m ks t v.1))

sort_all : (f : ℕ → Bool) (ms : List ℕ) → T (all f ms) → T (all f (sort ms))
unfolding sort
sort_all f [] t = tt
sort_all f (m ∷ ms) t = let v = (T_and (f m) (all f ms)).0 t in insert_all f m (sort ms) v.0 (sort_all f ms v.1)

insert_length : (m : ℕ) (ns : List ℕ) → length (insert m ns) ≡ suc (length ns)
unfolding insert
insert_length m [] = refl
insert_length m (k ∷ ks) = insert_ind m k ks (λ l. length l ≡ suc (suc (length ks))) (λ _. refl) (λ _. ap suc (insert_length m ks))

sort_length : (ms : List ℕ) → length (sort ms) ≡ length ms
unfolding sort
sort_length [] = refl
sort_length (m ∷ ms) = insert_length m (sort ms) ∙ ap suc (sort_length ms)

-- any list of masks put in order: the same permitted ones, as many, with the same sum
pub record Ordered (permitted : ℕ → Bool) (ms : List ℕ) : Type 0 where
  pub masks : List ℕ
  pub allowed : T (all permitted masks)
  pub sorted : T (not (falling masks))
  pub count : length masks ≡ length ms
  pub sum : In (sum_of ms) ≐ In (sum_of masks)

pub in_order : (permitted : ℕ → Bool) (ms : List ℕ) → T (all permitted ms) → Ordered permitted ms
in_order permitted ms t = record { masks = sort ms; allowed = sort_all permitted ms t; sorted = sort_sorted ms; count = sort_length ms; sum = sort_sum ms }

-- ---- a chain of a set that has a point gives a plan of it, with no more stages

pub record Short (S : PointSet) (k : ℕ) : Type 0 where
  pub offset : Point
  pub stages : List ℕ
  pub plan : PlanOf stage S offset stages
  pub count : length stages ≤ k

pub shorten : (S : PointSet) (p : Point) → S p → (c : Chain subset S) → Short S (length c.members)
shorten S p s c = go (reduce c.members c.masks)
  where
    go : Empty (In (sum_of c.members)) ⊎ Reduced c.members → Short S (length c.members)
    go (inl f) = absurd (f (p -ᵖ c.offset) ((c.sum p).0 s))
    go (inr r) = record {
      offset = c.offset +ᵖ r.offset;
      stages = o.masks;
      plan = record {
        stages = o.allowed;
        sorted = o.sorted;
        sum = let inner = ≐_trans r.sum (moved_cong r.offset o.sum) in
            ≐_trans c.sum (≐_trans (moved_cong c.offset inner) (moved_moved c.offset r.offset (In (sum_of o.masks))));
      };
      count = subst (λ n. n ≤ length c.members) (sym o.count) r.count;
    }
      where
        o : Ordered stage r.stages
        o = in_order stage r.stages r.all_stages
