-- The words of a plan read back as that plan, field by field; so the words of an accepted shape's plan stand for the shape's points and pass every ground
-- of a plan list.
use mathlib.Core.Path.{◌≡◌, refl, sym, ◌∙◌, ap, ap₂, subst}
use mathlib.Core.Logic.{inl, inr}
use mathlib.Core.Bool.{Bool, not, ◌||◌}
use mathlib.Core.List.{List, [], ◌∷◌, map}
use Prim.Native.Nat.{ℕ, ◌+◌, ◌-◌, ◌≤◌, ◌<◌}
use native.Mathlib.Omega.{arith}
use lib.Dec.{T, ltb, eqb}
use lib.IntN.{ℤ, pos, ◌+ℤ◌, ◌-ℤ◌, nat_abs, +ℤ-neg_ℤ_cancel}
use lib.ListN.{length, get_or, length-map}
use Rattle.plane.specs.Lists.{In, any, all}
use Rattle.plane.specs.Point.{Point, Cell, point, ◌+ᵖ◌, negᵖ, ◌-ᵖ◌, ◌≐◌, moved}
use Rattle.plane.proofs.Algebra.{+ᵖ_cancel, subᵖ_cancel, +ᵖ_comm, ≐_trans, ≐_sym}
use Rattle.plane.proofs.Member.{any_no, In-map, In-all}
use Rattle.plane.proofs.Tests.{not_or, not_ltb, not_not, eq-eqb, un_not}
use Rattle.words.specs.Word.{wrong_kind, extra_bit, head_kind, place_kind, stage_kind, head_count, place_x, place_y, stage_mask, place_word, stage_word}
use Rattle.words.proofs.Refusals.{Clear}
use Rattle.words.proofs.Words.{Fine, head_fine, place_fine, stage_fine, head_count_lem, place_x_lem, place_y_lem, stage_mask_lem}
use Rattle.masks.specs.Chain.{sum_of, falling, PlanOf}
use Rattle.masks.specs.Mask.{stage}
use Rattle.masks.proofs.Bounds.{forced}
use Rattle.masks.proofs.Cells.{stage_below, sum_cells, sum_far}
use Rattle.masks.proofs.Placed.{plan_cells}
use Rattle.shapes.specs.Listed.{least_anchor, below, listed}
use Rattle.shapes.specs.Plan.{plan_words, plan_offset, plan_masks, plan_points, plan_tests, stage_words, wrong_masks}
use Rattle.shapes.specs.Shape.{out_of_range, anchor, shape_points}
use Rattle.shapes.proofs.Accepted.{Shaped, in_range_lem, biased}
use Rattle.shapes.proofs.Listed.{listed_same}

-- ---- any plan list

-- a plan's points are the sum of its stages, moved
pub plan_points_lem : (ws : List ℕ) → In (plan_points ws) ≐ moved (plan_offset ws) (In (sum_of (plan_masks ws)))
unfolding plan_points
plan_points_lem ws p =
    let d = plan_offset ws in
    let S = sum_of (plan_masks ws) in (
      λ h. let r = (In-map (λ q. d +ᵖ q) S p).0 h in subst (In S) (sym (ap (λ q. q -ᵖ d) (r.2 ∙ +ᵖ_comm d r.0) ∙ +ᵖ_cancel r.0 d)) r.1,
      λ h. (In-map (λ q. d +ᵖ q) S p).1 (p -ᵖ d, h, sym (+ᵖ_comm d (p -ᵖ d) ∙ subᵖ_cancel p d)),
    )

-- a plan list whose masks are stages, never falling, is a plan of its points; its offset is their least x and least y, so the least anchor of the list
-- that it is turned back into is 0 or −dx, the greater
pub plan_itself : (ws : List ℕ) → T (not (wrong_masks (plan_masks ws))) → PlanOf stage (In (plan_points ws)) (plan_offset ws) (plan_masks ws)
plan_itself ws t =
    let ms = plan_masks ws in
    let u = (not_or (not (all stage ms)) (falling ms)).0 t in
    record { stages = un_not (all stage ms) u.0; sorted = u.1; sum = plan_points_lem ws }

pub plan_anchor : (ws : List ℕ) → T (not (wrong_masks (plan_masks ws))) → least_anchor (plan_points ws) ≡ (below (plan_offset ws).0, below (plan_offset ws).1)
unfolding least_anchor
plan_anchor ws t = ap (λ c. (below c.0, below c.1)) (sym (forced (plan_points ws) (plan_offset ws) (plan_masks ws) (plan_itself ws t)))

-- ---- any plan whose numbers fit their fields

module _ (d : Point) (ms : List ℕ) (px py : ℕ) (ex : d.0 +ℤ pos 15 ≡ pos px) (ey : d.1 +ℤ pos 15 ≡ pos py) (hx : px ≤ 30) (hy : py ≤ 30)
    (t : T (all stage ms)) (few : length ms ≤ 30) where
  abbrev plan : List ℕ
  plan = plan_words d ms

  -- the place word, and its fields
  word₁ : get_or plan 1 0 ≡ place_word px py
  word₁ = ap₂ (λ a b. place_word (nat_abs a) (nat_abs b)) ex ey

  field_x : place_x (get_or plan 1 0) ≡ px
  field_x = ap place_x word₁ ∙ place_x_lem px py (omega arith)

  field_y : place_y (get_or plan 1 0) ≡ py
  field_y = ap place_y word₁ ∙ place_y_lem px py (omega arith) (omega arith)

  pub offset_back : plan_offset plan ≡ d
  offset_back = λ i. (back (place_x (get_or plan 1 0)) px d.0 field_x ex i, back (place_y (get_or plan 1 0)) py d.1 field_y ey i)
    where
      back : (n k : ℕ) (z : ℤ) → n ≡ k → z +ℤ pos 15 ≡ pos k → pos n -ℤ pos 15 ≡ z
      back n k z p q = ap (λ j. pos j -ℤ pos 15) p ∙ ap (λ w. w -ℤ pos 15) (sym q) ∙ +ℤ-neg_ℤ_cancel z (pos 15)

  -- a stage's mask fits its field
  mask_fits : (m : ℕ) → In ms m → m < 512
  mask_fits m h = stage_below m (In-all stage ms t m h)

  pub masks_back : plan_masks plan ≡ ms
  masks_back = go ms mask_fits
    where
      go : (ns : List ℕ) → ((m : ℕ) → In ns m → m < 512) → map stage_mask (map stage_word ns) ≡ ns
      go [] h = refl
      go (n ∷ ns) h = ap₂ (λ x xs. x ∷ xs) (stage_mask_lem n (h n (inl refl))) (go ns (λ m k. h m (inr k)))

  pub words_length : length plan ≡ length ms + 2
  words_length = let e = length-map ms stage_word in omega arith

  pub points_back : In (plan_points plan) ≐ moved d (In (sum_of ms))
  points_back =
      let s = subst (λ l. In (plan_points plan) ≐ moved (plan_offset plan) (In (sum_of l))) masks_back (plan_points_lem plan) in
      subst (λ e. In (plan_points plan) ≐ moved e (In (sum_of ms))) offset_back s

  -- the words, one by one
  head_is : Fine head_kind (get_or plan 0 0)
  head_is = head_fine (length ms) (omega arith)

  place_is : Fine place_kind (get_or plan 1 0)
  place_is = subst (Fine place_kind) (sym word₁) (place_fine px py (omega arith) (omega arith))

  stage_is : (w : ℕ) → In (stage_words plan) w → Fine stage_kind w
  stage_is w h = let r = (In-map stage_word ms w).0 h in subst (Fine stage_kind) (sym r.2) (stage_fine r.0 (mask_fits r.0 r.1))

  -- a test of the head word, the place word and each stage word
  each : (bad : ℕ → ℕ → Bool) → T (not (bad head_kind (get_or plan 0 0))) → T (not (bad place_kind (get_or plan 1 0)))
      → ((w : ℕ) → In (stage_words plan) w → T (not (bad stage_kind w)))
      → T (not (bad head_kind (get_or plan 0 0) || bad place_kind (get_or plan 1 0) || any (bad stage_kind) (stage_words plan)))
  each bad h p s =
      let a = bad head_kind (get_or plan 0 0) in
      let b = bad place_kind (get_or plan 1 0) in
      (not_or (a || b) (any (bad stage_kind) (stage_words plan))).1 ((not_or a b).1 (h, p), any_no (bad stage_kind) (stage_words plan) s)

  -- the list passes every ground, where its points are in range
  pub words_clear : T (not (falling ms)) → T (not (out_of_range (plan_points plan))) → Clear (plan_tests plan)
  unfolding plan_tests
  words_clear s fit =
      let n = length plan in
      let e = words_length in
      let long = (not_or (ltb n 2) (ltb 32 n)).1 (not_ltb n 2 (omega arith), not_ltb 32 n (omega arith)) in
      let kinds = each wrong_kind head_is.kind_is place_is.kind_is (λ w h. (stage_is w h).kind_is) in
      let bits = each extra_bit head_is.bits_named place_is.bits_named (λ w h. (stage_is w h).bits_named) in
      let count = not_not (eqb (head_count (get_or plan 0 0)) (n - 2)) (eq-eqb (head_count_lem (length ms) (omega arith) ∙ omega arith)) in
      let x = place_x (get_or plan 1 0) in
      let y = place_y (get_or plan 1 0) in
      let ex' = field_x in
      let ey' = field_y in
      let place = (not_or (ltb 30 x) (ltb 30 y)).1 (not_ltb 30 x (omega arith), not_ltb 30 y (omega arith)) in
      let masks = (not_or (not (all stage ms)) (falling ms)).1 (not_not (all stage ms) t, s) in
      (long, (kinds, (bits, (count, (place, (subst (λ l. T (not (wrong_masks l))) (sym masks_back) masks, (fit, tt)))))))

-- ---- the plan of an accepted shape

module _ (ws : List ℕ) (S : Shaped ws) (d : Point) (ms : List ℕ) (P : PlanOf stage (In (shape_points ws)) d ms) where
  abbrev base : Cell
  base = anchor ws

  low_anchor : (base.0 ≤ 15) × (base.1 ≤ 15)
  low_anchor = (omega arith, omega arith)

  abbrev start : Point
  start = point S.corner -ᵖ point base

  -- dx = least x − ax and dy = least y − ay
  pub at_corner : d ≡ start
  at_corner = (plan_cells (In (shape_points ws)) S.cells start d ms S.placed P).0

  pub sum_small : (c : Cell) → In (sum_cells ms) c → (c.0 ≤ 15) × (c.1 ≤ 15)
  sum_small c h = S.small c (((plan_cells (In (shape_points ws)) S.cells start d ms S.placed P).1 c).1 h)

  -- each stage adds at least 1 to w + h, so there are at most 30
  pub few : length ms ≤ 30
  few =
      let f = sum_far ms P.stages in
      let s = sum_small f.0 f.1 in
      omega arith

  -- the place fields, both at most 30
  pub record Fields : Type 0 where
    pub px : ℕ
    pub py : ℕ
    pub ex : d.0 +ℤ pos 15 ≡ pos px
    pub ey : d.1 +ℤ pos 15 ≡ pos py
    pub hx : px ≤ 30
    pub hy : py ≤ 30

  pub fields : Fields
  unfolding ◌+ᵖ◌ negᵖ
  fields = record {
    px = S.corner.0 + (15 - base.0);
    py = S.corner.1 + (15 - base.1);
    ex = ap (λ q. q.0 +ℤ pos 15) at_corner ∙ biased S.corner.0 base.0 low_anchor.0;
    ey = ap (λ q. q.1 +ℤ pos 15) at_corner ∙ biased S.corner.1 base.1 low_anchor.1;
    hx = let a = S.near.0 in omega arith;
    hy = let a = S.near.1 in omega arith;
  }

  pub offset_is : plan_offset (plan_words d ms) ≡ d
  offset_is = let F = fields in offset_back d ms F.px F.py F.ex F.ey F.hx F.hy P.stages few

  pub masks_are : plan_masks (plan_words d ms) ≡ ms
  masks_are = let F = fields in masks_back d ms F.px F.py F.ex F.ey F.hx F.hy P.stages few

  pub plan_length : length (plan_words d ms) ≡ length ms + 2
  plan_length = let F = fields in words_length d ms F.px F.py F.ex F.ey F.hx F.hy P.stages few

  -- the words stand for the shape's points
  pub plan_stands : In (plan_points (plan_words d ms)) ≐ In (shape_points ws)
  plan_stands = let F = fields in ≐_trans (points_back d ms F.px F.py F.ex F.ey F.hx F.hy P.stages few) (≐_sym P.sum)

  -- none of grounds 1 to 3 and 5 to 8 holds of them
  pub plan_clear : Clear (plan_tests (plan_words d ms))
  plan_clear =
      let F = fields in
      words_clear d ms F.px F.py F.ex F.ey F.hx F.hy P.stages few P.sorted
      (in_range_lem ws (plan_points (plan_words d ms)) (λ p. (plan_stands p).0))

  -- turned back, they are listed as the shape's points are
  pub plan_listed : listed (plan_points (plan_words d ms)) ≡ listed (shape_points ws)
  plan_listed = listed_same (plan_points (plan_words d ms)) (shape_points ws) plan_stands
