-- From the search's answer on cells to what planning promises on points: a shape's points are its cells moved by its place, so lists of stages that sum to
-- the cells are the plans of the shape, all of them with that one offset.
use mathlib.Core.Path.{◌≡◌, refl, sym, ◌∙◌, ap, ap₂, subst}
use mathlib.Core.Bool.{not}
use mathlib.Core.List.{List, ◌∷◌, ◌++◌, map}
use Prim.Native.Nat.{ℕ, ◌+◌, ◌≤◌}
use native.Mathlib.Omega.{arith}
use lib.Dec.{T}
use lib.IntN.{pos, nat_abs, -ℤ-+ℤ_cancel}
use lib.ListN.{length, drop}
use Rattle.plane.specs.Lists.{In}
use Rattle.plane.specs.Point.{Point, point, ◌+ᵖ◌, ◌-ᵖ◌, origin, ◌≐◌, moved}
use Rattle.plane.proofs.Algebra.{≐_sym, ≐_trans, moved_cong, +ᵖ_origin, +ᵖ_cancel, subᵖ_cancel}
use Rattle.words.specs.Ground.{stated, result, refusal}
use Rattle.words.specs.Word.{head_word, place_word, stage_word}
use Rattle.words.specs.Ground.{Answer}
use Rattle.masks.specs.Chain.{Chain, PlanOf, Picked, sum_of, falling, subset}
use Rattle.masks.specs.Mask.{stage}
use Rattle.masks.proofs.Bounds.{forced}
use Rattle.masks.proofs.Reduce.{shorten}
use Rattle.rows.specs.Cells.{Cells, At, AtSum, Points, chosen}
use Rattle.rows.proofs.Bridge.{points_same, same_points, sum_points}
use Rattle.rows.proofs.Sums.{Rows16}
use Rattle.shapes.specs.Plan.{plan_words}
use Rattle.shapes.specs.Shape.{shape_points}
use Rattle.shapes.proofs.Range.{corner_same}
use Rattle.elements.specs.declared.Shape.{Shape}
use Rattle.elements.specs.Standing.{place, points_of}
use Rattle.elements.proofs.Stands.{points_of_lem, sound_cell}
use Rattle.elements.proofs.Windows.{corner_is}
use Rattle.shape_calls.specs.Steps.{StandsFor}
use Rattle.rows.proofs.Chosen.{length_chosen}
use Rattle.search.proofs.Lengths.{at_most_30}
use Rattle.std.specs.Option.{ok_or}
use Rattle.std.specs.Prelude.{Option, None, Some, Ok, Err}
use Rattle.words.specs.declared.Ground.{Ground}
use Rattle.search.specs.Plans.{SumsTo, Found, Plan, Shortest}
use Rattle.search.specs.declared.Chosen.{Chosen}
use Rattle.planning.specs.Planning.{PlanWritten, Unplannable}
use Rattle.planning.proofs.Decided.{picked_fewest}
use Rattle.plan_calls.specs.Written.{words_of, WrittenPlan}

-- the points of cells that stand at d are those that stand at the origin, moved by d
moved_points_lem : (X : Cells) (d : Point) → Points X d ≐ moved d (Points X origin)
moved_points_lem X d p = (
  λ h. let c = point (h.x, h.y) in record { x = h.x; y = h.y; cell = h.cell; at = +ᵖ_origin c ∙ sym (+ᵖ_cancel c d) ∙ ap (λ q. q -ᵖ d) h.at },
  λ h. let c = point (h.x, h.y) in record { x = h.x; y = h.y; cell = h.cell; at = ap (λ q. q +ᵖ d) (sym (+ᵖ_origin c) ∙ h.at) ∙ subᵖ_cancel p d },
)

-- the points of a sum of masks that stands at d
sum_at : (ms : List ℕ) (d : Point) → Points (AtSum ms) d ≐ moved d (In (sum_of ms))
sum_at ms d = ≐_trans (moved_points_lem (AtSum ms) d) (moved_cong d (sum_points ms))

module _ (A : List Point) (s : Shape) (W : Rows16 s.rows) (F : StandsFor A s) where
  -- the points are the cells, moved by the place
  placed : In A ≐ Points (At s.rows) (place s)
  placed = ≐_trans (≐_sym F.points) (points_of_lem s W)

  some : (p : Point) × In A p
  some =
      let c = F.sound.left in
      let p = point (c.x, c.y) +ᵖ place s in
      (p, (placed p).1 (record { x = c.x; y = c.y; cell = c.cell; at = refl }))

  -- a sum of stages that is the cells is a plan with the place as its offset
  plan_of : (ms : List ℕ) → SumsTo stage (At s.rows) ms → T (not (falling ms)) → PlanOf stage (In A) (place s) ms
  plan_of ms S t = record {
    stages = S.masks;
    sorted = t;
    sum = ≐_trans placed (≐_trans (points_same (At s.rows) (AtSum ms) (place s) S.sum) (sum_at ms (place s)));
  }

  -- any plan has the place as its offset, and its stages sum to the cells
  sums_of : (e : Point) (ns : List ℕ) → PlanOf stage (In A) e ns → SumsTo stage (At s.rows) ns
  sums_of e ns P =
      record {
        masks = P.stages;
        sum = same_points (At s.rows) (AtSum ns) (place s) (≐_trans (≐_sym placed) (≐_trans whole (≐_sym (sum_at ns (place s)))));
      }
    where
      at : e ≡ place s
      at = forced A e ns P ∙ sym (corner_same (points_of s) A F.points) ∙ corner_is s W F.sound

      whole : In A ≐ moved (place s) (In (sum_of ns))
      whole = subst (λ d. In A ≐ moved d (In (sum_of ns))) at P.sum

  pub picked : (ms : List ℕ) → Found stage (At s.rows) ms → Picked stage (In A) (place s) ms
  picked ms S = record { plan = plan_of ms S.sums S.sorted; first = λ e ns P. S.first ns (sums_of e ns P) P.sorted }

  pub fewest : (ms : List ℕ) → Found stage (At s.rows) ms → (c : Chain subset (In A)) → length ms ≤ length c.members
  fewest ms S = let p = some in picked_fewest (In A) p.0 p.1 (place s) ms (picked ms S)

  -- no sum of stages is the cells: there is no chain of any subsets of the square, with any offset
  pub no_chain : ((ns : List ℕ) → SumsTo stage (At s.rows) ns → ⊥) → ¬ Chain subset (In A)
  no_chain none c = let p = some in let q = shorten (In A) p.0 p.1 c in none q.stages (sums_of q.offset q.stages q.plan)

  -- the place fields
  pub fields : (s.x ≤ 30) × (s.y ≤ 30)
  fields =
      let c = F.sound.left in
      let b = sound_cell s W F.sound c.x c.y c.cell in
      (omega (arith, b.2), omega (arith, b.3))

  words_are : (ms : List ℕ) → words_of s.x s.y ms ≡ plan_words (place s) ms
  words_are ms =
      ap₂ (λ a b. head_word (length ms) ∷ place_word (nat_abs a) (nat_abs b) ∷ map stage_word ms) (sym (-ℤ-+ℤ_cancel (pos s.x) (pos 15)))
      (sym (-ℤ-+ℤ_cancel (pos s.y) (pos 15)))

-- ---- what planning answers

module _ (ws out : List ℕ) (s : Shape) (W : Rows16 s.rows) (F : StandsFor (shape_points ws) s) where
  pub unplannable : ((ms : List ℕ) → SumsTo stage (At s.rows) ms → ⊥) → (r : Answer) → stated r ≡ refusal 10 → Unplannable ws out r out
  unplannable none r a = record { none = no_chain (shape_points ws) s W F none; answer = a; kept = refl }

  module _ (c : Chosen) (P : Plan stage (At s.rows) c) where
    pub few : c.n ≤ 30
    few = subst (λ k. k ≤ 30) (length_chosen c.masks c.n) (at_most_30 stage (λ m t. t) s.rows W (chosen c.masks c.n) P.found.sums)

    pub written : (k : ℕ) (out' : List ℕ) (r : Answer) → stated r ≡ result k → WrittenPlan s.x s.y (chosen c.masks c.n) out k out' → PlanWritten ws out r out'
    written k out' r a w = record {
      offset = place s;
      stages = chosen c.masks c.n;
      picked = picked (shape_points ws) s W F (chosen c.masks c.n) P.found;
      fewest = fewest (shape_points ws) s W F (chosen c.masks c.n) P.found;
      answer = a ∙ ap result w.count;
      words = w.words ∙ ap (λ l. l ++ drop (length (chosen c.masks c.n) + 2) out) (words_are (shape_points ws) s W F (chosen c.masks c.n));
    }

-- ---- the search's answer, where none is a refusal

pub answer_found : (A : Cells) (o : Option Chosen) (g : Ground) (c : Chosen) → ok_or o g ≡ Ok c → Shortest stage A o → Plan stage A c
answer_found A None g c e m = cc
answer_found A (Some d) g c e m = let same : d ≡ c = cc in subst (Plan stage A) same m

pub answer_none : (A : Cells) (o : Option Chosen) (g h : Ground) → ok_or o g ≡ Err h → Shortest stage A o → ((ms : List ℕ) → SumsTo stage A ms → ⊥) × (h ≡ g)
answer_none A None g h e m = (m, cc)
answer_none A (Some d) g h e m = cc
