-- The quick search is asked with the numbers of the marked masks and of the cells; where it says no, no stages sum to the cells.
use mathlib.Core.Bool.{Bool}
use mathlib.Core.Path.{◌≡◌, refl, subst}
use mathlib.Core.Bool.{true, false}
use Rattle.std.specs.Prelude.{None}
use mathlib.Core.List.{List}
use Prim.Native.Nat.{ℕ, ◌+◌, ◌≤◌, ◌<◌}
use native.Mathlib.Omega.{arith}
use lib.Dec.{T}
use lib.ListN.{length, take, length-take}
use Rattle.plane.specs.Lists.{all}
use Rattle.plane.proofs.Member.{In-all}
use Rattle.masks.specs.Mask.{mask_cells, stage}
use Rattle.masks.proofs.Cells.{Low, normal_low, stage_normal, stage_below}
use Rattle.stage_steps.specs.Reach.{reach}
use Rattle.stage_steps.proofs.Stages.{reach_some}
use Rattle.rows.proofs.Bridge.{mask_cells_lem}
use Rattle.rows.specs.Cells.{Same, At, AtMask, AtOrigin, AtSum, chosen}
use Rattle.rows.proofs.Addition.{same_sym, same_trans, to_cell}
use Rattle.rows.proofs.Sums.{Rows16, in_y}
use Rattle.extents.specs.Extents.{Greatest, row, column}
use Rattle.edges.specs.Edges.{plus_x, plus_y, minus_x, minus_y, first_direction, second_direction, times_of, Number}
use Rattle.edges.specs.Numbers.{Front, Numbered}
use Rattle.edges.proofs.Adding.{number_once, number_same, number_sums}
use Rattle.edges.proofs.Greatest.{front_all}
use Rattle.completions.specs.Completing.{Among, number_in, Spans, Masks, Open, NoSum}
use Rattle.completions.proofs.Loops.{among_more}
use Rattle.completions.proofs.Nodes.{to_part, of_part}
use Rattle.search.specs.Plans.{Shortest}
use Rattle.search.specs.Tree.{FirstLine, Candidates, tries}
use Rattle.search.specs.Asking.{Drawn, Tabled, Questioned, Underway}
use Rattle.search.proofs.Lengths.{from_origin, counts}
use Rattle.search.proofs.Marking.{tried_permitted, marks_of, all_tried}
use Rattle.search.proofs.Reaches.{mask_reach}

-- ---- the extents of a stage by its numbers

-- what is greatest in a direction along an axis is the number, and what is least is 0
module _ (m : ℕ) (t : T (stage m)) where
  low : Low (mask_cells m)
  low = normal_low m (stage_normal m t)

  column_0 : AtMask m 0 low.x.1
  column_0 = subst (λ (k : ℕ). AtMask m k low.x.1) low.x_zero ((mask_cells_lem m low.x.0 low.x.1).1 low.x_in)

  row_0 : AtMask m low.y.0 0
  row_0 = subst (λ (k : ℕ). AtMask m low.y.0 k) low.y_zero ((mask_cells_lem m low.y.0 low.y.1).1 low.y_in)

  width_at : (v : ℕ) → Number 16 (AtMask m) v → (y : ℕ) × AtMask m v y
  unfolding plus_x plus_y minus_x minus_y first_direction second_direction times_of
  width_at v n =
      let l = n.second.above 0 low.x.1 column_0 in
      let e : n.x1 ≡ v = omega (arith, n.value) in
      (n.y1, subst (λ (k : ℕ). AtMask m k n.y1) e n.first.cell)

  height_at : (v : ℕ) → Number 17 (AtMask m) v → (x : ℕ) × AtMask m x v
  unfolding plus_x plus_y minus_x minus_y first_direction second_direction times_of
  height_at v n =
      let l = n.second.above low.y.0 0 row_0 in
      let e : n.y1 ≡ v = omega (arith, n.value) in
      (n.x1, subst (λ (k : ℕ). AtMask m n.x1 k) e n.first.cell)

  -- the number is not below the reach
  wide_least : (v : ℕ) → Number 16 (AtMask m) v → reach false m ≤ v
  unfolding plus_x plus_y minus_x minus_y first_direction second_direction times_of
  wide_least v n = let g = mask_reach false m t in let l = n.second.above 0 low.x.1 column_0 in omega
      (arith, n.value, n.first.above g.x g.y g.cell, g.at)

  high_least : (v : ℕ) → Number 17 (AtMask m) v → reach true m ≤ v
  unfolding plus_x plus_y minus_x minus_y first_direction second_direction times_of
  high_least v n = let g = mask_reach true m t in let l = n.second.above low.y.0 0 row_0 in omega
      (arith, n.value, n.first.above g.x g.y g.cell, g.at)

  pub sizes_some : (v u : ℕ) → Number 16 (AtMask m) v → Number 17 (AtMask m) u → 1 ≤ v + u
  sizes_some v u n k = let a = wide_least v n in let b = high_least u k in let c = reach_some m t in omega arith

  pub sizes_span : (v u : ℕ) → Number 16 (AtMask m) v → Number 17 (AtMask m) u → Spans (AtMask m) v u
  sizes_span v u n k = record { left = (low.x.1, column_0); right = width_at v n; low = (low.y.0, row_0); high = height_at u k }

-- ---- what the quick search is asked with

module _ (marks : List Bool) (cells : List ℕ) (M : Candidates stage (At cells) 512 marks) where
  is_stage : (m : ℕ) → T (tries marks m) → T (stage m)
  is_stage = tried_permitted stage (At cells) (λ m t. t) marks M

  masks_of : (nums : List ℕ) → Tabled marks 512 nums → Masks (tries marks) nums
  masks_of nums h = record {
    below = λ m t. stage_below m (is_stage m t);
    spans = λ m t. sizes_span m (is_stage m t) _ _ (number m t 16 (omega arith)) (number m t 17 (omega arith));
    some = λ m t. sizes_some m (is_stage m t) _ _ (number m t 16 (omega arith)) (number m t 17 (omega arith));
  }
    where
      number : (m : ℕ) → T (tries marks m) → (i : ℕ) → i < 18 → Number i (AtMask m) (number_in nums i m)
      number m t i l = h.at m (stage_below m (is_stage m t)) t i l

  state_of : (nums need : List ℕ) (w : ℕ) → Rows16 cells → Greatest column (At cells) w → Tabled marks 512 nums → Numbered cells 16 need → Open
      (tries marks) (number_in nums) (At cells) AtOrigin (At cells) need
  state_of nums need w known g h n = record {
    left = record {
      to = λ x y c. record { all = λ i j o. to_cell (At cells) {x = x} {y = y} (omega (arith, o.at_x)) (omega (arith, o.at_y)) c };
      from = λ x y r. to_cell (At cells) {x = x + 0} {y = y + 0} (omega arith) (omega arith) (r.all 0 0 (record { at_x = refl; at_y = refl }));
    };
    counts = λ L f i l. number_once (same_sym (same_trans f.whole from_origin))
        (number_sums (number_in nums i) L (λ m k. let t = f.masks m k in h.at m (stage_below m (is_stage m t)) t i l))
        (number_same all (n.number g.x g.y (all.from g.x g.y g.cell) i l));
  }
    where
      -- the window has no row past row 15
      all : Same (Front cells 16) (At cells)
      all = front_all cells 16 (in_y cells known)

  pub questioned : (need nums list : List ℕ) (n w : ℕ) → Rows16 cells → Greatest column (At cells) w → Tabled marks 512 nums → Numbered cells 16 need
      → Drawn marks 512 list n → Questioned marks cells need nums (take n list)
  questioned need nums list n w known g h u d =
      let few = d.few in
      let long = d.long in
      record {
        pool = record {
          marked = marks_of stage (At cells) (λ m t. t) marks M;
          few = omega (arith, length-take n list);
          allowed = λ m a. d.only m (whole m a);
          all = λ m t. to_part list n m (omega arith) (d.all m (stage_below m (is_stage m t)) t);
        };
        masks = masks_of nums h;
        state = state_of nums need w known g h u;
      }
    where
      whole : (m : ℕ) → Among (take n list) (length (take n list)) m → Among list n m
      whole m a = among_more list (length (take n list)) n m (omega (arith, length-take n list))
          (of_part list n (length (take n list)) m (omega (arith, length-take n list)) a)

module _ (marks : List Bool) (cells need nums cand : List ℕ) (q : Questioned marks cells need nums cand) (k : ℕ) (none : NoSum cells need nums cand k) where
  -- no marked masks, k or fewer, sum to the cells
  pub no_marked : (ns : List ℕ) → T (all (tries marks) ns) → Same (At cells) (AtSum ns) → length ns ≤ k → ⊥
  no_marked ns t e l = (none.no (tries marks) q.masks q.state q.pool.allowed).no ns
      (record { masks = In-all (tries marks) ns t; whole = same_trans e (same_sym from_origin) })
      (λ m h. q.pool.all m (In-all (tries marks) ns t m h)) l

  -- so for k stages the answer is that there is none
  pub no_answer : FirstLine (tries marks) (At cells) AtOrigin k 0 None
  no_answer ns l c = no_marked ns c.stages (same_trans c.sum from_origin) (omega arith)

-- what the search starts from
pub start_kept : (marks : List Bool) (cells need nums cand : List ℕ) → Questioned marks cells need nums cand → (k : ℕ) (path : List ℕ) → k ≤ 30
    → Underway marks nums cand (record { target = cells; rest = cells; path = path; len = 0; need = need }) k
unfolding chosen
start_kept marks cells need nums cand q k path l = record { pool = q.pool; room = omega arith; state = record { known = q.masks; state = q.state } }

-- where w + h or fewer do not, none do
pub no_plan : (marks : List Bool) (cells need nums cand : List ℕ) → Candidates stage (At cells) 512 marks → Questioned marks cells need nums cand → (w h : ℕ)
    → Greatest column (At cells) w → Greatest row (At cells) h
    → NoSum cells need nums cand (w + h) → Shortest stage (At cells) None
no_plan marks cells need nums cand M q w h e f none ns S =
    no_marked marks cells need nums cand q (w + h) none ns (all_tried stage (At cells) (λ m t. t) marks M ns S) S.sum
    (counts stage (λ m t. t) (At cells) w h e f ns S).1
