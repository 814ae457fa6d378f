-- Demand 2, from what each call promises: a list that is written stands for its points, and what the stages of an accepted plan give in turn is what its
-- points give directly.
use mathlib.Core.Path.{◌≡◌, sym, ◌∙◌, ap, ap₂, subst}
use mathlib.Core.Bool.{not}
use mathlib.Core.List.{List, [], ◌∷◌}
use Prim.Native.Nat.{ℕ}
use lib.Dec.{T}
use lib.ListN.{length, take, drop}
use lib.Seq.{take-append_seam, drop-append_seam}
use Rattle.words.specs.Ground.{Answer}
use Rattle.cleaning.specs.declared.Operation.{Operation}
use Rattle.plane.specs.Lists.{In}
use Rattle.plane.specs.Point.{Point, PointSet, ◌+ᵖ◌, ◌-ᵖ◌, ◌≐◌, moved}
use Rattle.plane.proofs.Algebra.{≐_trans, +ᵖ_cancel, subᵖ_cancel}
use Rattle.plane.proofs.Member.{In-map, In-append}
use Rattle.words.specs.Ground.{first_of, stated, both}
use Rattle.words.proofs.Refusals.{clear, clear_first, clear_last}
use Rattle.masks.proofs.Sum.{sums_is}
use Rattle.shapes.specs.Calls.{ListWritten, new_tests, short_output, moved_points, moving_tests, joined_points, joining_tests, summed_points, summing_tests}
use Rattle.shapes.specs.Calls.{turning_tests}
use Rattle.shapes.specs.Listed.{listed}
use Rattle.shapes.specs.Plan.{plan_tests, plan_points}
use Rattle.shapes.specs.Shape.{shape_tests, shape_points, out_of_range}
use Rattle.shapes.proofs.Listed.{listed_points, listed_same}
use Rattle.shapes.proofs.Written.{plan_points_lem}
use Rattle.planning.specs.Planning.{ShapeSet}
use Rattle.cleaning.specs.Cleaning.{Cleaned, operation_tests, part}
use Rattle.cleaning.specs.Operation.{Made, Direct, as_read}
use Rattle.cleaning.specs.declared.Operation.TheVariants.{Dilation, Erosion, Opening, Closing}
use Rattle.cleaning.proofs.Fixed.{direct_size, direct_cell}
use Rattle.claim.proofs.Arriving.{row_shows}
use Rattle.claim.proofs.Positions.{position_shown}
use Rattle.claim.specs.Demand2.{Demand2}
use Rattle.claim.specs.Frames.{OperationGives, PartIs}
use Rattle.claim.specs.Shows.{ListShows}
use Rattle.claim.proofs.Cells.{put_shown, stage_shown, load_counted, share_shown}

-- a list that is written stands for its points, and so for any set that has these
shown : (A : List Point) {S : PointSet} (out out' : List ℕ) (r : Answer) → T (not (out_of_range A)) → In A ≐ S → ListWritten A out r out' → ListShows S out r out'
shown A out out' r fit same w =
    let rest = drop (length (listed A)) out in
    let head : take (stated r).1 out' ≡ listed A = ap₂ (λ s o. take s.1 o) w.answer w.words ∙ take-append_seam (listed A) rest in
    record {
      stands = ≐_trans (subst (λ l. In (shape_points l) ≐ In A) (sym head) (listed_points A fit)) same;
      laid = head ∙ sym (ap (λ l. listed (shape_points l)) head ∙ listed_same (shape_points (listed A)) A (listed_points A fit));
      past = ap₂ (λ s o. drop s.1 o) w.answer w.words ∙ drop-append_seam (listed A) rest ∙ sym (ap (λ s. drop s.1 out) w.answer);
    }

pub moved_is : (ws : List ℕ) (d : Point) → In (moved_points ws d) ≐ moved d (ShapeSet ws)
moved_is ws d p = (
  λ h. let r = (In-map (λ q. q +ᵖ d) (shape_points ws) p).0 h in subst (In (shape_points ws)) (sym (ap (λ q. q -ᵖ d) r.2 ∙ +ᵖ_cancel r.0 d)) r.1,
  λ h. (In-map (λ q. q +ᵖ d) (shape_points ws) p).1 (p -ᵖ d, h, sym (subᵖ_cancel p d)),
)

moved_fits : (ws : List ℕ) (d : Point) (out : List ℕ) → first_of (moving_tests ws d out) ≡ 0 → T (not (out_of_range (moved_points ws d)))
unfolding shape_tests
moved_fits ws d out e = (clear_last (shape_tests ws) (new_tests (moved_points ws d) out) (clear (moving_tests ws d out) tt e)).0

joined_fits : (ws vs out : List ℕ) → first_of (joining_tests ws vs out) ≡ 0 → T (not (out_of_range (joined_points ws vs)))
unfolding shape_tests
joined_fits ws vs out e = (clear_last (both (shape_tests ws) (shape_tests vs)) (new_tests (joined_points ws vs) out) (clear (joining_tests ws vs out) tt e)).0

summed_fits : (ws vs out : List ℕ) → first_of (summing_tests ws vs out) ≡ 0 → T (not (out_of_range (summed_points ws vs)))
unfolding shape_tests
summed_fits ws vs out e = (clear_last (both (shape_tests ws) (shape_tests vs)) (new_tests (summed_points ws vs) out) (clear (summing_tests ws vs out) tt e)).0

turned_fits : (ws out : List ℕ) → first_of (turning_tests ws out) ≡ 0 → T (not (out_of_range (plan_points ws)))
unfolding plan_tests
turned_fits ws out e = (clear_first (plan_tests ws) ((9, short_output 17 out) ∷ []) (clear (turning_tests ws out) tt e)).1.1.1.1.1.1.0

-- the part that is handed back
pub part_direct : (op : Operation) (plan : List ℕ) (W H : ℕ) (f i j : List ℕ) (s : Answer) (i' j' : List ℕ) → Cleaned op plan W H f i j s i' j'
    → first_of (operation_tests plan W H f i j) ≡ 0 → Direct op W H f (In (plan_points plan)) (part (stated s).1 W H i' j')
part_direct op plan W H f i j s i' j' c e =
    let ran = c.done e in
    subst (λ a. Direct op W H f (In (plan_points plan)) (part a.1 W H i' j')) (sym ran.answer) ran.direct

-- what the operation makes of the frame, as the demand has it
given : (op : Operation) (W H : ℕ) (f : List ℕ) (A : PointSet) (g : Point → ℕ) → Made op A (as_read op W H f) g → OperationGives op W H f A g
given Dilation W H f A g m = m
given Erosion W H f A g m = m
given Opening W H f A g m = m
given Closing W H f A g m = m

part_is : (op : Operation) (W H : ℕ) (f : List ℕ) (A : PointSet) (r : List ℕ) → Direct op W H f A r → PartIs op W H f A r
part_is op W H f A r D = record {
  picture = D.picture;
  gives = given op W H f A D.picture D.made;
  size = direct_size op W H f A r D;
  cell = direct_cell op W H f A r D;
}

pub demand2 : Demand2
demand2 = record {
  moving = λ ws d out r out' a e. shown (moved_points ws d) out out' r (moved_fits ws d out e) (moved_is ws d) (a.done e);
  joining = λ ws vs out r out' a e. shown (joined_points ws vs) out out' r (joined_fits ws vs out e) (In-append (shape_points ws) (shape_points vs)) (a.done e);
  summing = λ ws vs out r out' a e. shown (summed_points ws vs) out out' r (summed_fits ws vs out e) (sums_is (shape_points ws) (shape_points vs)) (a.done e);
  turning = λ ws out r out' a e. shown (plan_points ws) out out' r (turned_fits ws out e) (plan_points_lem ws) (a.done e);
  positioning = position_shown;
  cleaning = λ op plan W H f i j s i' j' a e.
      part_is op W H f (In (plan_points plan)) (part (stated s).1 W H i' j') (part_direct op plan W H f i j s i' j' a e);
  putting = put_shown;
  staging = stage_shown;
  counting = load_counted;
  sharing = share_shown;
  arriving = λ plan W H row live kept s live' kept' a e. row_shows plan W H row live kept e s live' kept' a;
}
