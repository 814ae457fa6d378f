-- What the single stages give in turn is what the shape gives directly: stage after stage the grid is the whole picture, since nothing is lost in it,
-- and taking a picture through all stages is taking it through their sum.
use mathlib.Core.Path.{◌≡◌, refl, sym, ◌∙◌, ap, subst, fun_ext}
use mathlib.Core.Logic.{◌↔◌}
use mathlib.Core.Bool.{Bool, true, false}
use mathlib.Core.List.{List, [], ◌∷◌}
use Prim.Native.Nat.{ℕ, suc, ◌≤◌}
use native.Mathlib.Omega.{arith}
use lib.Dec.{T}
use lib.ListN.{get_or, take}
use Rattle.cleaning.specs.declared.Operation.{Operation}
use Rattle.cleaning.specs.declared.Operation.TheVariants.{Dilation, Erosion, Opening, Closing}
use Rattle.plane.specs.Lists.{In, all}
use Rattle.plane.specs.Point.{Point, ◌+ᵖ◌, ◌-ᵖ◌, origin, PointSet, ◌≐◌, moved}
use Rattle.plane.proofs.Algebra.{+ᵖ_assoc, +ᵖ_comm, +ᵖ_origin, +ᵖ_cancel, subᵖ_cancel, ≐_sym, ≐_trans, ⊕_comm}
use Rattle.masks.specs.Chain.{sums, sum_of}
use Rattle.masks.specs.Mask.{mask_points, stage}
use Rattle.masks.proofs.Sum.{sums_is}
use Rattle.grids.specs.Frame.{free, full, highest, greater, lesser, frame, over}
use Rattle.grids.specs.Grid.{grid, laid, put, once}
use Rattle.grids.specs.declared.Around.{Around}
use Rattle.grids.specs.declared.Around.TheVariants.{Free, Occupied}
use Rattle.grids.specs.Image.{cells}
use Rattle.grids.specs.Rules.{covered, SomeCovered, Gives, Makes}
use Rattle.grids.proofs.Fold.{sub_sum, dilated_same, dilated_sums, eroded_same, eroded_sums}
use Rattle.grids.proofs.Pictures.{Within}
use Rattle.grids.proofs.Putting.{within_more, InGrid, laid_whole, frame_upto, frame_within, put_whole}
use Rattle.grids.proofs.Rules.{gives_same, over_makes}
use Rattle.grids.proofs.Stage.{over_upto, once_is}
use Rattle.grids.proofs.Values.{Upto, greater_laws, lesser_laws, greater_unit, lesser_unit}
use Rattle.cleaning.specs.Operation.{Made, Direct, around, as_read, through, last_grid, read_at, in_turn}
use Rattle.cleaning.proofs.Within.{Small, Kept, kept, dilation_within, erosion_within, erosion_kept}

-- ---- a picture taken through a sum

-- through a sum is through one set and then the other
over_sums : (erode : Bool) (P Q : List Point) (f : Point → ℕ) → over erode (sums P Q) f ≡ over erode P (over erode Q f)
over_sums true P Q f = fun_ext (eroded_sums lesser full lesser_laws P Q f)
over_sums false P Q f = fun_ext (dilated_sums greater free greater_laws P Q f)

over_same : (erode : Bool) (P Q : List Point) (f : Point → ℕ) → In P ≐ In Q → over erode P f ≡ over erode Q f
over_same true P Q f s = fun_ext (λ p. eroded_same lesser full lesser_laws P Q f p s)
over_same false P Q f s = fun_ext (λ p. dilated_same greater free greater_laws P Q f p s)

-- through no stage, a picture stays as it is
over_none : (erode : Bool) (f : Point → ℕ) → over erode (sum_of []) f ≡ f
unfolding sum_of
over_none true f = fun_ext (λ p. lesser_unit (f (p +ᵖ origin)) ∙ ap f (+ᵖ_origin p))
over_none false f = fun_ext (λ p. greater_unit (f (p -ᵖ origin)) ∙ ap f (sym (+ᵖ_origin (p -ᵖ origin)) ∙ subᵖ_cancel p origin))

-- the first stage and then the others is all of them
over_cons : (erode : Bool) (m : ℕ) (ms : List ℕ) (f : Point → ℕ) → over erode (sum_of ms) (over erode (mask_points m) f) ≡ over erode (sum_of (m ∷ ms)) f
unfolding sum_of
over_cons erode m ms f =
    let P = mask_points m in
    let Q = sum_of ms in
    sym (over_sums erode Q P f) ∙ over_same erode (sums Q P) (sums P Q) f (≐_trans (sums_is Q P) (≐_trans (⊕_comm (In Q) (In P)) (≐_sym (sums_is P Q))))

-- ---- stage after stage

pub turn : (erode : Bool) (k : Around) (W H : ℕ) (ms : List ℕ) (f : Point → ℕ) (g : List ℕ) → Kept erode k W H ms f → grid k W H g ≡ f
    → grid k W H (through (once erode k W H) ms g) ≡ over erode (sum_of ms) f
turn erode k W H [] f g q e = e ∙ sym (over_none erode f)
turn erode k W H (m ∷ ms) f g q e = turn erode k W H ms F (once erode k W H m g) rest here ∙ over_cons erode m ms f
  where
    -- the picture after the first stage
    F : Point → ℕ
    F = over erode (mask_points m) f

    first : InGrid k W H F
    first = subst (InGrid k W H) (sym (over_cons erode m [] f) ∙ over_none erode F) (q 1)

    rest : Kept erode k W H ms F
    rest j = subst (InGrid k W H) (sym (over_cons erode m (take j ms) f)) (q (suc j))

    here : grid k W H (once erode k W H m g) ≡ F
    here =
        ap (grid k W H) (once_is erode k W H m g) ∙ ap (λ z. grid k W H (laid k W H (over erode (mask_points m) z))) e ∙ laid_whole k W H F first

-- ---- the four operations

-- the picture that each operation makes of a picture and a list of points
abbrev pub whole : Operation → List Point → (Point → ℕ) → Point → ℕ
whole Dilation P f = over false P f
whole Erosion P f = over true P f
whole Opening P f = over false P (over true P f)
whole Closing P f = over true P (over false P f)

-- the kind of stage of the first pass
abbrev pub first_kind : Operation → Bool
first_kind Dilation = false
first_kind Erosion = true
first_kind Opening = true
first_kind Closing = false

-- in the first pass nothing of the frame is lost
pub first_kept : (op : Operation) (W H : ℕ) (f ms : List ℕ) → T (all stage ms) → Small ms → Kept (first_kind op) (around op) W H ms (as_read op W H f)
first_kept Dilation W H f ms t s = kept false W H ms (frame free W H f) t s (frame_within Free W H f)
first_kept Erosion W H f ms t s = kept true W H ms (frame full W H f) t s (frame_within Occupied W H f)
first_kept Opening W H f ms t s = erosion_kept W H ms (frame free W H f) t (within_more (frame free W H f) W H 15 15 (frame_within Free W H f))
first_kept Closing W H f ms t s = kept false W H ms (frame free W H f) t s (frame_within Free W H f)

-- one pass: the frame through all the stages, by one kind
pub passed : (op : Operation) (W H : ℕ) (f ms : List ℕ) → T (all stage ms) → Small ms
    → grid (around op) W H (through (once (first_kind op) (around op) W H) ms (put (around op) W H f)) ≡ over (first_kind op) (sum_of ms) (as_read op W H f)
passed op W H f ms t s =
    turn (first_kind op) (around op) W H ms (as_read op W H f) (put (around op) W H f) (first_kept op W H f ms t s)
    (put_whole (around op) W H f)

pub last_whole : (op : Operation) (W H : ℕ) (f ms : List ℕ) → T (all stage ms) → Small ms
    → grid (around op) W H (last_grid op W H ms (put (around op) W H f)) ≡ whole op (sum_of ms) (as_read op W H f)
unfolding last_grid
last_whole op W H f ms t s = go op
  where
    F : Point → ℕ
    F = frame free W H f

    w : Within 0 W H F
    w = frame_within Free W H f

    go : (op : Operation) → grid (around op) W H (last_grid op W H ms (put (around op) W H f)) ≡ whole op (sum_of ms) (as_read op W H f)
    go Dilation = passed Dilation W H f ms t s
    go Erosion = passed Erosion W H f ms t s
    go Opening =
        turn false Free W H ms (over true (sum_of ms) F) (through (once true Free W H) ms (put Free W H f))
        (kept false W H ms (over true (sum_of ms) F) t s (erosion_within W H ms F t w)) (passed Opening W H f ms t s)
    go Closing =
        turn true Free W H ms (over false (sum_of ms) F) (through (once false Free W H) ms (put Free W H f))
        (erosion_kept W H ms (over false (sum_of ms) F) t (dilation_within W H ms F s w)) (passed Closing W H f ms t s)

-- ---- directly

-- the picture that each operation makes by the rules
whole_made : (op : Operation) (P : List Point) (f : Point → ℕ) → Upto highest f → Made op (In P) f (whole op P f)
whole_made Dilation P f b = over_makes false P f b
whole_made Erosion P f b = over_makes true P f b
whole_made Opening P f b = (over true P f, over_makes true P f b, over_makes false P (over true P f) (over_upto highest (omega arith) true P f b))
whole_made Closing P f b = (over false P f, over_makes false P f b, over_makes true P (over false P f) (over_upto highest (omega arith) false P f b))

-- what is covered by the points S at p in one picture, and by S moved by d at q in another
moved_covered : (erode : Bool) (S A : PointSet) (d : Point) (f g : Point → ℕ) (p q : Point) → A ≐ moved d S
    → ((a : Point) → f (covered erode p a) ≡ g (covered erode q (a +ᵖ d)))
    → (v : ℕ) → SomeCovered erode S f p v ↔ SomeCovered erode A g q v
moved_covered erode S A d f g p q e h v = (
  λ c. (c.0 +ᵖ d, (e (c.0 +ᵖ d)).1 (subst S (sym (+ᵖ_cancel c.0 d)) c.1), sym (h c.0) ∙ c.2),
  λ c. (c.0 -ᵖ d, (e c.0).0 c.1, h (c.0 -ᵖ d) ∙ ap (λ z. g (covered erode q z)) (subᵖ_cancel c.0 d) ∙ c.2),
)

-- of the sum moved by the offset, the picture is that of the sum, read where the operation reads it
module _ (S A : PointSet) (d : Point) (e : A ≐ moved d S) where
  by_moved : (erode : Bool) (f h g k : Point → ℕ) (at : Point → Point) → ((p a : Point) → f (covered erode (at p) a) ≡ h (covered erode p (a +ᵖ d)))
      → ((p : Point) → k p ≡ g (at p)) → Makes erode S f g → Makes erode A h k
  by_moved erode f h g k at same shown m p =
      subst (Gives erode A h p) (sym (shown p)) (gives_same erode S A f h (at p) p (moved_covered erode S A d f h (at p) p e (same p)) (g (at p)) (m (at p)))

  dilation_moved : (f g : Point → ℕ) → Makes false S f g → Makes false A f (λ p. g (p -ᵖ d))
  dilation_moved f g m = by_moved false f f g (λ p. g (p -ᵖ d)) (λ p. p -ᵖ d) (λ p a. ap f (back p a)) (λ p. refl) m
    where
      back : (p a : Point) → p -ᵖ d -ᵖ a ≡ p -ᵖ (a +ᵖ d)
      back p a = sym (sub_sum p d a) ∙ ap (λ z. p -ᵖ z) (+ᵖ_comm d a)

  erosion_moved : (f g : Point → ℕ) → Makes true S f g → Makes true A f (λ p. g (p +ᵖ d))
  erosion_moved f g m = by_moved true f f g (λ p. g (p +ᵖ d)) (λ p. p +ᵖ d) (λ p a. ap f (on p a)) (λ p. refl) m
    where
      on : (p a : Point) → p +ᵖ d +ᵖ a ≡ p +ᵖ (a +ᵖ d)
      on p a = +ᵖ_assoc p d a ∙ ap (λ z. p +ᵖ z) (+ᵖ_comm d a)

  pub made_moved : (op : Operation) (f g : Point → ℕ) → Made op S f g → Made op A f (λ p. g (read_at op d p))
  made_moved Dilation f g m = dilation_moved f g m
  made_moved Erosion f g m = erosion_moved f g m
  made_moved Opening f g m = (
    λ q. m.0 (q +ᵖ d),
    erosion_moved f m.0 m.1,
    by_moved false m.0 (λ q. m.0 (q +ᵖ d)) g g (λ p. p) (λ p a. ap m.0 (there p a)) (λ p. refl) m.2,
  )
    where
      there : (p a : Point) → p -ᵖ a ≡ p -ᵖ (a +ᵖ d) +ᵖ d
      there p a = sym (subᵖ_cancel (p -ᵖ a) d) ∙ ap (λ z. z +ᵖ d) (sym (sub_sum p a d))
  made_moved Closing f g m = (
    λ q. m.0 (q -ᵖ d),
    dilation_moved f m.0 m.1,
    by_moved true m.0 (λ q. m.0 (q -ᵖ d)) g g (λ p. p) (λ p a. ap m.0 (here p a)) (λ p. refl) m.2,
  )
    where
      here : (p a : Point) → p +ᵖ a ≡ p +ᵖ (a +ᵖ d) -ᵖ d
      here p a = sym (+ᵖ_cancel (p +ᵖ a) d) ∙ ap (λ z. z -ᵖ d) (+ᵖ_assoc p a d)

-- what the single stages give in turn is what a set gives directly that is their sum moved
pub turn_direct : (op : Operation) (W H : ℕ) (f : List ℕ) (d : Point) (ms : List ℕ) (A : PointSet) → T (all stage ms) → Small ms
    → ((i : ℕ) → get_or f i 0 ≤ highest) → A ≐ moved d (In (sum_of ms))
    → Direct op W H f A (in_turn op W H f d ms)
unfolding in_turn put
turn_direct op W H f d ms A t s v e =
    let g = as_read op W H f in
    let S = sum_of ms in
    let b = frame_upto highest (omega arith) (around op) W H f v in
    record {
      picture = λ p. whole op S g (read_at op d p);
      made = made_moved (In S) A d e op g (whole op S g) (whole_made op S g b);
      cut = ap (λ z. cells W H (λ p. z (read_at op d p))) (last_whole op W H f ms t s);
    }
