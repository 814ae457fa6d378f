-- Images that take turns: what a single stage makes of the image that it reads and of the one that it writes, stage after stage.
use mathlib.Core.Path.{◌≡◌, refl, sym, ◌∙◌, ap, subst}
use mathlib.Core.Bool.{Bool, true, false, not, cond}
use mathlib.Core.List.{List, map}
use Prim.Native.Nat.{ℕ, ◌+◌, ◌%◌, ◌<◌, ◌≤◌}
use native.Mathlib.Omega.{arith}
use native.Mathlib.Numerals.{add-one}
use borrow.Author.Tests.{eqb-true, eqb-false, eq-eqb, ne_eqb}
use lib.Dec.{T, eqb}
use lib.ListN.{length, get_or, drop, length-drop, length-map, drop_of_length-le}
use lib.Seq.{drop-cons}
use Rattle.words.specs.Word.{stage_mask}
use Rattle.shapes.specs.Plan.{plan_masks}
use Rattle.grids.specs.Image.{view}
use Rattle.planes.specs.Planes.{plane_size, Shows, PlaneOnly, after_stage, stage_fits, PlaneTaken}
use Rattle.planes.specs.Bits.{level}
use Rattle.planes.proofs.OnGrids.{after_level, grid_stage}
use Rattle.frame_grounds.proofs.Sides.{sides}
use Rattle.plane.specs.Point.{Point}
use Rattle.cleaning.specs.Operation.{through}
use Rattle.cleaning.specs.Cleaning.{result_image}
use Rattle.turn_steps.specs.Turns.{standing_image, Shown, bytes_once, Past, Roomed, PlaneRoom, Turned, Passed}

-- ---- planes in images

pub kept_past : {W H : ℕ} {d d' : List ℕ} → PlaneOnly (W + 15) (H + 15) d d' → Past W H d d'
kept_past k = record { size = k.len; rest = k.past }

pub past_same : {W H : ℕ} {d : List ℕ} → Past W H d d
past_same = record { size = refl; rest = λ k l. refl }

pub past_then : {W H : ℕ} {d d' d'' : List ℕ} → Past W H d d' → Past W H d' d'' → Past W H d d''
past_then p q = record { size = q.size ∙ p.size; rest = λ k l. q.rest k l ∙ p.rest k l }

-- images that have room for the plane have it for a stage
pub room_stage : {W H : ℕ} {i j : List ℕ} → PlaneRoom W H i j → (p d : List ℕ) → plane_size (W + 15) (H + 15) ≤ length p → plane_size (W + 15) (H + 15) ≤ length d
    → (v : ℕ) → v ≤ 1 → T (stage_fits v (W + 15) (H + 15) (length p) (length d))
room_stage {W} {H} r p d hp hd v hv = let s = sides W H r.sides in grid_stage W H s.0 s.1 v (length p) (length d) hv hp hd

-- ---- one turn

module _ {erode : Bool} {v m W H t : ℕ} {i j : List ℕ} where
  -- after an even number of stages from the first image into the second
  pub from_first : {j' : List ℕ} → t % 2 ≡ 0 → PlaneTaken erode v (W + 15) (H + 15) m i j j' → Turned erode v m W H t i j i j'
  from_first {j'} e s = let b = eq-eqb (t % 2) 0 e in record { from = rw b; to = rw b s }

  -- after an odd number from the second into the first
  pub from_second : {i' : List ℕ} → (t % 2 ≡ 0 → ⊥) → PlaneTaken erode v (W + 15) (H + 15) m j i i' → Turned erode v m W H t i j i' j
  from_second {i'} e s = let b = ne_eqb (t % 2) 0 e in record { from = rw b; to = rw b s }

-- a plane that shows a level of bytes shows that level of them after the stage
after_bytes : (some erode : Bool) (v W H m : ℕ) (g : List ℕ) → v ≤ 1
    → after_stage erode v (W + 15) (H + 15) m (λ p. level some (view v (W + 15) (H + 15) g p))
    ≡ (λ p. level some (view v (W + 15) (H + 15) (bytes_once erode v W H m g) p))
unfolding bytes_once
after_bytes some erode v W H m g lv = after_level some erode v (W + 15) (H + 15) m (view v (W + 15) (H + 15) g) lv

-- ---- turn after turn

-- after one stage more the images have changed their parts
flips : (t : ℕ) → eqb ((t + 1) % 2) 0 ≡ not (eqb (t % 2) 0)
flips t = go (eqb ((t + 1) % 2) 0) (eqb (t % 2) 0) refl refl
  where
    go : (a b : Bool) → eqb ((t + 1) % 2) 0 ≡ a → eqb (t % 2) 0 ≡ b → a ≡ not b
    go true true p q = absurd (let e = eqb-true ((t + 1) % 2) 0 p in let f = eqb-true (t % 2) 0 q in omega arith)
    go true false p q = refl
    go false true p q = refl
    go false false p q = absurd (eqb-false (t % 2) 0 q (let e = eqb-false ((t + 1) % 2) 0 p in omega arith))

other : {A : Type 0} (b : Bool) (x y : A) → cond (not b) x y ≡ cond b y x
other true x y = refl
other false x y = refl

pub stands_next : (t : ℕ) (i j : List ℕ) → standing_image (t + 1) i j ≡ result_image t i j
stands_next t i j = ap (λ b. cond b i j) (flips t) ∙ other (eqb (t % 2) 0) i j

-- whichever of two images is long enough, the one that stands or gets the result is
pub either : (b : Bool) (n : ℕ) (i j : List ℕ) → n ≤ length i → n ≤ length j → n ≤ length (cond b i j)
either true n i j h k = h
either false n i j h k = k

-- what holds of the image that stands and of the other holds of the first and of the second
pub same_either : {B : Type 0} (f : List ℕ → B) (b : Bool) (i j i' j' : List ℕ) → f (cond b i' j') ≡ f (cond b i j) → f (cond b j' i') ≡ f (cond b j i)
    → (f i' ≡ f i) × (f j' ≡ f j)
same_either f true i j i' j' p q = (p, q)
same_either f false i j i' j' p q = (q, p)

pub same_of : {B : Type 0} (f : List ℕ → B) (b : Bool) (i j i' j' : List ℕ) → f i' ≡ f i → f j' ≡ f j → f (cond b i' j') ≡ f (cond b i j)
same_of f true i j i' j' p q = p
same_of f false i j i' j' p q = q

-- images that are each as they were, or were changed as images may be
pub both_past : {W H : ℕ} (b : Bool) (i j i' j' : List ℕ) → cond b i' j' ≡ cond b i j → Past W H (cond b j i) (cond b j' i') → Past W H i i' × Past W H j j'
both_past {W} {H} true i j i' j' e p = (subst (λ (x : List ℕ). Past W H i x) (sym e) past_same, p)
both_past {W} {H} false i j i' j' e p = (p, subst (λ (x : List ℕ). Past W H j x) (sym e) past_same)

-- between two stages of a plan, of which those before word k were run: n in all, and what is left to run takes the grid that stands to the last one
pub record Midway (erode : Bool) (v : ℕ) (plan : List ℕ) (W H t : ℕ) (i j : List ℕ) (k n : ℕ) (i' j' : List ℕ) : Type 0 where
  pub stands : List ℕ → List ℕ
  pub shown : (some : Bool) (g : List ℕ) → Shown some v W H t g i j → Shown some v W H n (stands g) i' j'
  pub left : (g : List ℕ) → through (bytes_once erode v W H) (map stage_mask (drop k plan)) (stands g) ≡ through (bytes_once erode v W H) (plan_masks plan) g
  pub first : Past W H i i'
  pub second : Past W H j j'
  pub count : n + 2 ≡ t + k

-- images that were changed as images may be have room where they had it
pub room_past : {n W H : ℕ} {i j i' j' : List ℕ} → Roomed n W H i j → Past W H i i' → Past W H j j' → Roomed n W H i' j'
room_past r p q = record { sides = r.sides; first = omega (arith, r.first, p.size); second = omega (arith, r.second, q.size) }

module _ {erode : Bool} {v : ℕ} {plan : List ℕ} {W H t : ℕ} {i j : List ℕ} where
  pub midway_start : Midway erode v plan W H t i j 2 t i j
  midway_start = record { stands = λ g. g; shown = λ some g s. s; left = λ g. refl; first = past_same; second = past_same; count = refl }

  pub midway_more : {k n : ℕ} {i' j' i'' j'' : List ℕ} → Midway erode v plan W H t i j k n i' j' → Turned erode v (stage_mask (get_or plan k 0)) W H n i' j' i'' j''
      → k < length plan → v ≤ 1
      → Midway erode v plan W H t i j (k + 1) (n + 1) i'' j''
  midway_more {k} {n} {i'} {j'} {i''} {j''} m s h lv =
      let b = both_past (eqb (n % 2) 0) i' j' i'' j'' s.from (kept_past s.to.kept) in record {
        stands = λ g. bytes_once erode v W H (stage_mask (get_or plan k 0)) (m.stands g);
        shown = λ some g u.
            let next = bytes_once erode v W H (stage_mask (get_or plan k 0)) (m.stands g) in
            subst (λ (x : List ℕ). Shows (W + 15) (H + 15) (λ p. level some (view v (W + 15) (H + 15) next p)) x) (sym (stands_next n i'' j''))
            (subst (λ (f : Point → ℕ). Shows (W + 15) (H + 15) f (result_image n i'' j''))
            (after_bytes some erode v W H (stage_mask (get_or plan k 0)) (m.stands g) lv)
            (s.to.shown (λ p. level some (view v (W + 15) (H + 15) (m.stands g) p)) (m.shown some g u)));
        left = λ g.
            ap (λ (q : ℕ). through (bytes_once erode v W H) (map stage_mask (drop q plan)) (bytes_once erode v W H (stage_mask (get_or plan k 0)) (m.stands g)))
            (add-one k)
            ∙ sym (ap (λ ws. through (bytes_once erode v W H) (map stage_mask ws) (m.stands g)) (drop-cons plan k 0 h)) ∙ m.left g;
        first = past_then m.first b.0;
        second = past_then m.second b.1;
        count = omega (arith, m.count);
      }

  pub midway_end : {k n : ℕ} {i' j' : List ℕ} → Midway erode v plan W H t i j k n i' j' → 2 ≤ k → k ≡ length plan → Passed erode v plan W H t i j n i' j'
  midway_end {k} {n} {i'} {j'} m l e = record {
    count = let c = m.count in omega (arith, length-map (drop 2 plan) stage_mask, length-drop 2 plan);
    first = m.first;
    second = m.second;
    shown = λ some g u. subst (λ (x : List ℕ). Shown some v W H n x i' j')
        (ap (λ ws. through (bytes_once erode v W H) (map stage_mask ws) (m.stands g)) (sym (drop_of_length-le plan {i = k} (omega arith))) ∙ m.left g)
        (m.shown some g u);
  }
