-- What a node and a stage show, in the words of their contracts.
use mathlib.Core.Path.{◌≡◌, refl, sym, subst, ◌∙◌}
use mathlib.Core.Bool.{Bool}
use mathlib.Core.List.{List}
use Prim.Native.Nat.{ℕ, suc, ◌+◌, ◌-◌, ◌*◌, ◌≤◌, ◌<◌}
use native.Mathlib.Omega.{arith}
use lib.Dec.{T}
use lib.ListN.{length, get_or, take, length-take}
use lib.Seq.{get_or-take}
use Rattle.rows.specs.Cells.{Cells, Sum, At, AtMask, chosen}
use Rattle.completions.specs.declared.Here.{Here}
use Rattle.completions.specs.declared.Branch.{Branch}
use Rattle.completions.specs.Completing.{Among, None, NoneThrough, Spent, Replaces, number_in, aim_of, partial_sum, Ready, Below, Passed, Allowed}
use Rattle.completions.specs.Completing.{NoneHere, NoneBefore, NoSum}
use Rattle.completions.specs.Pools.{Parts}
use Rattle.completions.proofs.Loops.{among_more}
use Rattle.completions.proofs.Stepping.{below_fills}
use Rattle.completions.proofs.Branches.{spent_more, none_below, passed_over, replaced_gone, branch_end, drawn, too_few}

-- ---- a part of a list

-- the first n of a list are all of its part
pub to_part : (xs : List ℕ) (n m : ℕ) → n ≤ length xs → Among xs n m → Among (take n xs) (length (take n xs)) m
to_part xs n m l a = let b = a.before in record { at = a.at; before = omega (arith, length-take n xs); is = get_or-take n xs a.at 0 b ∙ a.is }

pub of_part : (xs : List ℕ) (n r m : ℕ) → r ≤ n → Among (take n xs) r m → Among xs r m
of_part xs n r m l a = let b = a.before in record { at = a.at; before = b; is = sym (get_or-take n xs a.at 0 (omega arith)) ∙ a.is }

-- ---- a node

module _ (nums : List ℕ) (here : Here) (cand : List ℕ) (k : ℕ) where
  abbrev Y : Cells
  Y = partial_sum here

  -- k masks do not reach the width, or the height, that is needed
  pub too_wide : 2 * k < get_or here.need 16 0 → NoneHere nums here cand k
  too_wide h = record {
    no = λ permitted r a. too_few permitted (aim_of here) Y cand (length cand) k (number_in nums) (At here.rest) here.need
        r.state 16 (omega arith) (λ m t. let c = (r.known.spans m t).right.1.column in omega arith) h;
  }

  pub too_high : 2 * k < get_or here.need 17 0 → NoneHere nums here cand k
  too_high h = record {
    no = λ permitted r a. too_few permitted (aim_of here) Y cand (length cand) k (number_in nums) (At here.rest) here.need
        r.state 17 (omega arith) (λ m t. let c = (r.known.spans m t).high.1.row in omega arith) h;
  }

  -- of the masks of a list those from r on were tried, whichever masks are permitted
  pub record Turned (xs : List ℕ) (r : ℕ) : Type 0 where
    pub spent : (permitted : ℕ → Bool) → Ready permitted nums here → Allowed permitted xs → Spent permitted (aim_of here) Y xs (length xs) r k

  pub turned_more : (xs : List ℕ) (j : ℕ) → j < length xs → Turned xs (j + 1) → NoneBefore nums here xs (j + 1) k → Turned xs j
  turned_more xs j l t h = record {
    spent = λ permitted s a.
        let e : suc j ≡ j + 1 = omega arith in
        let was = t.spent permitted s a in
        spent_more permitted (aim_of here) Y xs (length xs) k j l
        (subst (λ (i : ℕ). Spent permitted (aim_of here) Y xs (length xs) i k) (sym e) was)
        (subst (λ (i : ℕ). NoneThrough permitted (aim_of here) Y xs i k (get_or xs j 0)) (sym e) (h.no permitted s a was j e));
  }

  -- the loop's end: a number is needed that none of those left has
  module _ (list : List ℕ) (b : Branch) (d : Parts nums here.need cand list b) where
    abbrev n : ℕ
    n = b.count

    allowed : (permitted : ℕ → Bool) → Allowed permitted cand → Allowed permitted (take n list)
    allowed permitted a m h = a m (d.only m
        (among_more list _ n m (omega (arith, length-take n list)) (of_part list n (length (take n list)) m (omega (arith, length-take n list)) h)))

    pub node_none : (r : ℕ) → b.number < 18 → r ≤ b.without → Turned (take n list) r → NoneHere nums here cand k
    node_none r l q t = record {
      no = λ permitted s a.
          let order = d.order in
          let long = d.long in
          let few = d.few in
          let room = d.room in
          drawn permitted (aim_of here) Y (take n list) (length (take n list)) k (number_in nums) (At here.rest) here.need s.state cand (length cand)
          (λ m g c f. to_part list n m (omega arith) (d.all m (s.known.below m g) c f))
          (branch_end permitted (aim_of here) Y (take n list) (length (take n list)) k (number_in nums) (At here.rest) here.need s.state
          b.number r l d.needed
          (λ m g c. d.without m (s.known.below m g) (among_more list r b.without m q (of_part list n r m (omega arith) c)))
          (t.spent permitted s (allowed permitted a)));
    }

-- ---- a stage

module _ (nums : List ℕ) (here : Here) (list : List ℕ) (j k : ℕ) (l : j < length list) where
  abbrev Z : Cells
  Z = partial_sum here

  abbrev m : ℕ
  m = get_or list j 0

  abbrev r : ℕ
  r = j + 1

  r-to : r ≤ length list
  r-to = omega arith

  before_is : (i : ℕ) → suc i ≡ r → i ≡ j
  before_is i e = omega arith

  permitted_m : (permitted : ℕ → Bool) → Allowed permitted list → T (permitted m)
  permitted_m permitted a = a m (record { at = j; before = l; is = refl })

  -- what is shown of the mask at j
  none_of : ((permitted : ℕ → Bool) → Ready permitted nums here → Allowed permitted list → Spent permitted (aim_of here) Z list (length list) r k
      → NoneThrough permitted (aim_of here) Z list r k m) → NoneBefore nums here list r k
  none_of f = record {
    no = λ permitted s a t i e. subst (λ (i : ℕ). NoneThrough permitted (aim_of here) Z list r k (get_or list i 0)) (sym (before_is i e))
        (f permitted s a t);
  }

  -- rule S: a mask that was tried replaces it
  pub stage_replaced : (p : ℕ) → p < length list → r ≤ p → ((x y : ℕ) → AtMask m x y → Replaces (At here.rest) m (get_or list p 0))
      → NoneBefore nums here list r k
  stage_replaced p b q f = none_of (λ permitted s a t.
      let c = (s.known.spans m (permitted_m permitted a)).left in
      replaced_gone permitted (aim_of here) Z list (length list) k (number_in nums) (At here.rest) here.need s.state r m p q b t
      (a (get_or list p 0) (record { at = p; before = b; is = refl })) (f 0 c.0 c.1))

  -- it is passed over
  pub stage_passed : Passed nums here m → here.len < 32 → NoneBefore nums here list r k
  stage_passed st l = none_of (λ permitted s a t. passed_over permitted (aim_of here) Z list r k m (st.no l permitted s))

  -- nothing completes the sum below it
  pub stage_none : (c : Here) → Below nums here m c → 0 < k → NoneHere nums c (take r list) (k - 1) → NoneBefore nums here list r k
  stage_none c st p h = none_of (λ permitted s a t. none_below permitted (aim_of here) Z list r k m p (below permitted s a))
    where
      part : (permitted : ℕ → Bool) → Allowed permitted list → Allowed permitted (take r list)
      part permitted a q b = a q (among_more list r (length list) q r-to
          (among_more list _ r q (omega (arith, length-take r list)) (of_part list r (length (take r list)) q (omega (arith, length-take r list)) b)))

      below : (permitted : ℕ → Bool) → Ready permitted nums here → Allowed permitted list → None permitted (aim_of here) (Sum Z (AtMask m)) list r (k - 1)
      below permitted s a = record {
        no = λ L f b q. (h.no permitted (st.ready permitted s (permitted_m permitted a)) (part permitted a)).no L
            (below_fills nums here m c st permitted L f) (λ v g. to_part list r v r-to (b v g)) q;
      }

-- ---- from the start

pub no_sum : (cells need nums cand path : List ℕ) (k : ℕ) → NoneHere nums
    (record { target = cells; rest = cells; path = path; len = 0; need = need }) cand k → NoSum cells need nums cand k
unfolding chosen
no_sum cells need nums cand path k h = record { no = λ permitted m o. h.no permitted (record { known = m; state = o }) }
