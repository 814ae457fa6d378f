-- From the origin: the partial sum that the search starts from, and what the answers for each number of stages say together.
use mathlib.Core.Path.{◌≡◌, sym, subst, ◌∙◌}
use mathlib.Core.Bool.{Bool, true, false, not}
use mathlib.Core.Logic.{⊎_elim}
use mathlib.Core.List.{List, [], ◌∷◌}
use Prim.Native.Nat.{ℕ, ◌+◌, ◌*◌, ◌/◌, ◌≤◌, ◌<◌, max, zero-le}
use native.Mathlib.Nat.{eq-or-lt_of_le}
use native.Mathlib.Omega.{arith}
use lib.Dec.{T, ltb}
use lib.ListN.{length}
use Rattle.std.specs.Prelude.{None}
use Rattle.plane.specs.Lists.{all}
use Rattle.plane.proofs.Member.{all_In, In-all}
use Rattle.plane.proofs.Tests.{not_or, not_ltb, lt_or_le}
use Rattle.masks.specs.Chain.{falling}
use Rattle.masks.specs.Mask.{stage}
use Rattle.masks.proofs.Bounds.{total}
use Rattle.masks.proofs.Order.{not_before_tied}
use Rattle.masks.proofs.Reduce.{in_order}
use Rattle.stage_steps.specs.Reach.{reach}
use Rattle.rows.specs.Cells.{Cells, Same, Sum, At, AtOrigin, chosen}
use Rattle.rows.proofs.Sums.{Rows16, in_x, in_y}
use Rattle.extents.specs.Extents.{Greatest, NoCell, row, column}
use Rattle.search.specs.Plans.{SumsTo, Plan, Shortest}
use Rattle.search.specs.Tree.{Completes, Line, FirstLine, tries, Candidates}
use Rattle.rows.proofs.Addition.{same_sym, same_trans, sum_comm, sum_origin, sum_cells_same}
use Rattle.rows.proofs.Chosen.{length_chosen}
use Rattle.search.proofs.Marking.{tried_permitted, all_tried}
use Rattle.search.proofs.Reaches.{greatest_same, greatest_once, sum_reach, total_reach}

-- adding to the one cell (0, 0) changes nothing
pub from_origin : {X : Cells} → Same (Sum AtOrigin X) X
from_origin = same_trans sum_comm sum_origin

-- ---- extents in the window
pub wide_in : (A : List ℕ) → Rows16 A → (w : ℕ) → Greatest column (At A) w → w ≤ 15
wide_in A r w g = omega (arith, in_x A r g.x g.y g.cell, g.at)

pub high_in : (A : List ℕ) → Rows16 A → (h : ℕ) → Greatest row (At A) h → h ≤ 15
high_in A r h g = omega (arith, in_y A r g.x g.y g.cell, g.at)

-- ---- over any permitted stages

module _ (permitted : ℕ → Bool) (sub : (m : ℕ) → T (permitted m) → T (stage m)) where
  stages_of : {A : Cells} (ns : List ℕ) → SumsTo permitted A ns → T (all stage ns)
  stages_of ns S = all_In stage ns (λ m h. sub m (In-all permitted ns S.masks m h))

  -- how many stages a list has that sums to cells of given extents
  pub counts : (A : Cells) (w h : ℕ) → Greatest column A w → Greatest row A h → (ns : List ℕ) → SumsTo permitted A ns → ((max w h + 1) / 2 ≤ length ns) ×
      (length ns ≤ w + h)
  counts A w h e f ns S =
      let t = stages_of ns S in
      let r = total_reach ns t in
      let p : w ≡ total (reach false) ns = greatest_once column e (greatest_same column (same_sym S.sum) (sum_reach false ns t)) in
      let q : h ≡ total (reach true) ns = greatest_once row f (greatest_same row (same_sym S.sum) (sum_reach true ns t)) in
      step w h (total (reach false) ns) (total (reach true) ns) (length ns) p q r.0 r.1 r.2
    where
      step : (w h a b n : ℕ) → w ≡ a → h ≡ b → a ≤ 2 * n → b ≤ 2 * n → n ≤ a + b → ((max w h + 1) / 2 ≤ n) × (n ≤ w + h)
      step w h a b n p q r s t = (omega arith, omega arith)

  -- no list of fewer than k stages that never falls sums to A
  abbrev pub NoneBelow : Cells → ℕ → Type 0
  NoneBelow A k = (ns : List ℕ) → SumsTo permitted A ns → T (not (falling ns)) → length ns < k → ⊥

  pub none_short : (A : Cells) (w h k : ℕ) → Greatest column A w → Greatest row A h → k ≡ (max w h + 1) / 2 → NoneBelow A k
  none_short A w h k e f q ns S t l = let b = (counts A w h e f ns S).0 in omega arith

  -- the answers for each number of stages together
  module _ (A : Cells) (marks : List Bool) (M : Candidates permitted A 512 marks) (k : ℕ) (below : NoneBelow A k) where
    -- what sums to A completes the cell (0, 0) to A, with stages that are tried
    completes : (ns : List ℕ) → SumsTo permitted A ns → T (not (falling ns)) → Completes (tries marks) A AtOrigin 0 ns
    completes ns S t = record { stages = all_tried permitted A sub marks M ns S; rising = zero_first ns t; sum = same_trans S.sum (same_sym from_origin) }
      where
        zero_first : (ns : List ℕ) → T (not (falling ns)) → T (not (falling (0 ∷ ns)))
        zero_first [] t = tt
        zero_first (n ∷ ns) t = (not_or (ltb n 0) (falling (n ∷ ns))).1 (not_ltb n 0 zero-le, t)

    pub none_more : FirstLine (tries marks) A AtOrigin k 0 None → NoneBelow A (k + 1)
    none_more a ns S t l = ⊎_elim (λ w. a ns w (completes ns S t)) (λ w. below ns S t w) (eq-or-lt_of_le {n = length ns} {m = k} (omega arith))

    pub found_first : (masks : List ℕ) → Line (tries marks) A AtOrigin k 0 masks → Plan permitted A (record { n = k; masks = masks })
    found_first masks a = record {
      found = record {
        sums = record {
          masks = all_In permitted L (λ m h. tried_permitted permitted A sub marks M m (In-all (tries marks) L c.stages m h));
          sum = same_trans c.sum from_origin;
        };
        sorted = sorted_of L c.rising;
        first = λ ns S t. ⊎_elim
            (λ w. absurd (below ns S t w))
            (λ w. not_before_tied L ns (subst (λ (n : ℕ). n ≤ length ns) (sym (length_chosen masks k)) w)
            (λ q. a.first ns (q ∙ length_chosen masks k) (completes ns S t)))
            (lt_or_le (length ns) k);
      };
      past = a.past;
    }
      where
        L : List ℕ
        L = chosen masks k

        c : Completes (tries marks) A AtOrigin 0 L
        c = a.sound

        sorted_of : (ns : List ℕ) → T (not (falling (0 ∷ ns))) → T (not (falling ns))
        sorted_of [] t = tt
        sorted_of (n ∷ ns) t = ((not_or (ltb n 0) (falling (n ∷ ns))).0 t).1

  -- ---- no list of any length and order

  pub none_found : (A : Cells) (w h k : ℕ) → Greatest column A w → Greatest row A h → NoneBelow A k → w + h < k → Shortest permitted A None
  none_found A w h k e f below l ns S =
      let o = in_order permitted ns S.masks in
      let R : SumsTo permitted A o.masks = record { masks = o.allowed; sum = same_trans S.sum (sum_cells_same ns o.masks o.sum) } in
      below o.masks R o.sorted (omega (arith, (counts A w h e f o.masks R).1))

  -- a sum of stages has a cell
  pub none_empty : (A : Cells) → NoCell A → Shortest permitted A None
  none_empty A N ns S = let g = sum_reach false ns (stages_of ns S) in N.no g.x g.y (S.sum.from g.x g.y g.cell)

  -- each stage adds at least 1 to the extents together, and neither is above 15: no plan of cells of the window has more than 30 stages
  pub at_most_30 : (A : List ℕ) → Rows16 A → (ms : List ℕ) → SumsTo permitted (At A) ms → length ms ≤ 30
  at_most_30 A r ms S =
      let t = stages_of ms S in
      let b = total_reach ms t in
      let w = wide_in A r (total (reach false) ms) (greatest_same column (same_sym S.sum) (sum_reach false ms t)) in
      let h = high_in A r (total (reach true) ms) (greatest_same row (same_sym S.sum) (sum_reach true ms t)) in
      let n = b.2 in
      omega arith
