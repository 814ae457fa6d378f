-- Nothing is lost in a grid: a sum of stages reaches no farther than its cells do, dilation to the right and down, in the first kind of grid, and erosion to
-- the left and up, in the second; and in the first kind erosion leaves nothing outside the frame.
-- What holds of the sum of all stages holds of the first k, since a cell of theirs and one of the others' add up to a cell of the whole.
use mathlib.Core.Path.{◌≡◌, refl, sym, ◌∙◌, ap, ap₂, subst}
use mathlib.Core.Logic.{◌⊎◌, inl, inr}
use mathlib.Core.Bool.{Bool, true, false, not}
use mathlib.Core.List.{List, [], ◌∷◌, map}
use Prim.Native.Nat.{ℕ, zero, suc, ◌+◌, ◌-◌, ◌≤◌}
use native.Mathlib.Omega.{arith}
use lib.Dec.{T, not_T}
use lib.IntN.{pos}
use lib.ListN.{take, drop}
use Rattle.plane.specs.Lists.{In, all}
use Rattle.plane.specs.Point.{Point, ◌+ᵖ◌, ◌-ᵖ◌, Cell, point}
use Rattle.plane.proofs.Algebra.{+ᵖ_assoc, +ᵖ_origin, subᵖ_cancel}
use Rattle.plane.proofs.Member.{In-map}
use Rattle.plane.proofs.Tests.{T_and, T_dec, clash}
use Rattle.masks.specs.Chain.{sum_of}
use Rattle.masks.specs.Mask.{mask_cells, stage}
use Rattle.masks.proofs.Cells.{pair, add_cell, sum_cells, In-sums, sum_cells_lem, Low, sum_low}
use Rattle.grids.proofs.Pictures.{inside, Within, inside_add, inside_both}
use Rattle.grids.specs.Frame.{over}
use Rattle.grids.specs.Grid.{outside_of, corner}
use Rattle.grids.specs.declared.Around.{Around}
use Rattle.grids.specs.declared.Around.TheVariants.{Free, Occupied}
use Rattle.grids.proofs.Putting.{InGrid}
use Rattle.grids.proofs.Stage.{greatest_zero, least_zero, least_one}

-- ---- one list of cells

-- the kind of grid in which a stage loses nothing, since the value outside is what the stage makes of no cells: free by dilation, occupied by erosion
abbrev pub own : Bool → Around
own false = Free
own true = Occupied

-- the cell that a point a of the stage covers at p
abbrev covered : Bool → Point → Point → Point
covered false p a = p -ᵖ a
covered true p a = p +ᵖ a

-- where all cells covered are as outside, so is what the stage makes of them
all_outside : (erode : Bool) (P : List Point) (f : Point → ℕ) (p : Point) → ((a : Point) → In P a → f (covered erode p a) ≡ outside_of (own erode))
    → over erode P f p ≡ outside_of (own erode)
all_outside false P f p h = greatest_zero (λ a. f (p -ᵖ a)) P h
all_outside true P f p h = least_one (λ a. f (p +ᵖ a)) P h

-- a cell no farther than 15 that covers a cell of the frame at p: then p lies in the grid, which goes 15 farther to the right and down, or to the left and up
reach : (erode : Bool) (W H : ℕ) (p : Point) (c : Cell) → c.0 ≤ 15 → c.1 ≤ 15 → T (inside W H (covered erode p (point c)))
    → T (inside (W + 15) (H + 15) (p +ᵖ corner (own erode)))
unfolding ◌+ᵖ◌
reach false W H p c h k u =
    subst (λ z. T (inside (W + 15) (H + 15) z)) (subᵖ_cancel p (point c) ∙ sym (+ᵖ_origin p))
    (inside_add W H (W + 15) (H + 15) c.0 c.1 (omega arith) (omega arith) (p -ᵖ point c) u)
reach true W H p c h k u =
    subst (λ z. T (inside (W + 15) (H + 15) z)) (+ᵖ_assoc p (point c) (point (15 - c.0, 15 - c.1)) ∙ ap (λ z. p +ᵖ z) (pair (omega arith) (omega arith)))
    (inside_add W H (W + 15) (H + 15) (15 - c.0) (15 - c.1) (omega arith) (omega arith) (p +ᵖ point c) u)
  where
    pair : {x y : ℕ} → x ≡ 15 → y ≡ 15 → point (x, y) ≡ point (15, 15)
    pair e f = ap₂ (λ x y. point (x, y)) e f

-- a picture of W columns and H rows taken through cells no farther than 15 lies in the grid of the stage's own kind
own_within : (erode : Bool) (cs : List Cell) (f : Point → ℕ) (W H : ℕ) → Within (outside_of (own erode)) W H f
    → ((c : Cell) → In cs c → (c.0 ≤ 15) × (c.1 ≤ 15)) → InGrid (own erode) W H (over erode (map point cs) f)
own_within erode cs f W H w far p t = all_outside erode (map point cs) f p (λ q h.
    let r = (In-map point cs q).0 h in
    let k = far r.0 r.1 in
    w (covered erode p q) (not_T (inside W H (covered erode p q)) (λ u.
    clash (inside (W + 15) (H + 15) (p +ᵖ corner (own erode))) t
    (reach erode W H p r.0 k.0 k.1 (subst (λ z. T (inside W H (covered erode p z))) r.2 u)))))

eroded_within : (cs : List Cell) (f : Point → ℕ) (W H : ℕ) → Within 0 W H f → Low cs → Within 0 W H (over true (map point cs) f)
eroded_within cs f W H w l p t = go (T_dec (inside W H (p +ᵖ point l.x))) (T_dec (inside W H (p +ᵖ point l.y)))
  where
    out : (c : Cell) → In cs c → T (not (inside W H (p +ᵖ point c))) → over true (map point cs) f p ≡ 0
    out c h u = least_zero (λ a. f (p +ᵖ a)) (map point cs) (point c) ((In-map point cs (point c)).1 (c, h, refl)) (w (p +ᵖ point c) u)

    go : T (inside W H (p +ᵖ point l.x)) ⊎ T (not (inside W H (p +ᵖ point l.x)))
        → T (inside W H (p +ᵖ point l.y)) ⊎ T (not (inside W H (p +ᵖ point l.y))) → over true (map point cs) f p ≡ 0
    go (inr u) v = out l.x l.x_in u
    go (inl u) (inr v) = out l.y l.y_in v
    go (inl u) (inl v) =
        absurd (clash (inside W H p) t (inside_both W H l.y.0 l.x.1 p
        (subst (λ n. T (inside W H (p +ᵖ (pos n, pos l.x.1)))) l.x_zero u) (subst (λ n. T (inside W H (p +ᵖ (pos l.y.0, pos n)))) l.y_zero v)))

-- ---- sums of stages, and of the first k of them

-- no cell of the sum is farther than 15 in x or y
abbrev pub Small : List ℕ → Type 0
Small ms = (c : Cell) → In (sum_cells ms) c → (c.0 ≤ 15) × (c.1 ≤ 15)

pub first_stages : (k : ℕ) (ms : List ℕ) → T (all stage ms) → T (all stage (take k ms))
first_stages zero ms t = tt
first_stages (suc k) [] t = tt
first_stages (suc k) (m ∷ ms) t = let u = (T_and (stage m) (all stage ms)).0 t in (T_and (stage m) (all stage (take k ms))).1 (u.0, first_stages k ms u.1)

pub other_stages : (k : ℕ) (ms : List ℕ) → T (all stage ms) → T (all stage (drop k ms))
other_stages zero ms t = t
other_stages (suc k) [] t = tt
other_stages (suc k) (m ∷ ms) t = other_stages k ms ((T_and (stage m) (all stage ms)).0 t).1

no_stage : (ms : List ℕ) (a b : Cell) → (a ≡ (0, 0)) ⊎ ⊥ → In (sum_cells ms) b → In (sum_cells ms) (add_cell a b)
no_stage ms a b (inl e) h =
    subst (In (sum_cells ms)) (pair (let z : a.0 ≡ 0 = ap (λ c. c.0) e in omega arith) (let z : a.1 ≡ 0 = ap (λ c. c.1) e in omega arith)) h
no_stage ms a b (inr f) h = absurd f

pub both_parts : (k : ℕ) (ms : List ℕ) (a b : Cell) → In (sum_cells (take k ms)) a → In (sum_cells (drop k ms)) b → In (sum_cells ms) (add_cell a b)
unfolding sum_cells
both_parts zero ms a b g h = no_stage ms a b g h
both_parts (suc k) [] a b g h = no_stage [] a b g h
both_parts (suc k) (m ∷ ms) a b g h =
    let r = (In-sums (mask_cells m) (sum_cells (take k ms)) a).0 g in
    let e = ap (λ c. add_cell c b) r.4 ∙ pair (law r.0.0 r.1.0 b.0) (law r.0.1 r.1.1 b.1) in
    (In-sums (mask_cells m) (sum_cells ms) (add_cell a b)).1 (r.0, add_cell r.1 b, r.2, both_parts k ms r.1 b r.3 h, e)
  where
    law : (x y z : ℕ) → x + y + z ≡ x + (y + z)
    law x y z = omega arith

pub small_part : (k : ℕ) (ms : List ℕ) → T (all stage ms) → Small ms → Small (take k ms)
small_part k ms t s c h =
    let l = sum_low (drop k ms) (other_stages k ms t) in
    let u = s (add_cell c l.x) (both_parts k ms c l.x h l.x_in) in
    let x = u.0 in
    let y = u.1 in
    (omega arith, omega arith)

-- ---- nothing is lost

-- the first kind of grid starts at (0, 0)
pub from_free : (W H : ℕ) (f : Point → ℕ) → InGrid Free W H f → Within 0 (W + 15) (H + 15) f
from_free W H f w p t = w p (subst (λ z. T (not (inside (W + 15) (H + 15) z))) (sym (+ᵖ_origin p)) t)

pub to_free : (W H : ℕ) (f : Point → ℕ) → Within 0 (W + 15) (H + 15) f → InGrid Free W H f
to_free W H f w p t = w p (subst (λ z. T (not (inside (W + 15) (H + 15) z))) (+ᵖ_origin p) t)

pub dilation_within : (W H : ℕ) (ms : List ℕ) (f : Point → ℕ) → Small ms → Within 0 W H f → Within 0 (W + 15) (H + 15) (over false (sum_of ms) f)
dilation_within W H ms f s w =
    subst (λ P. Within 0 (W + 15) (H + 15) (over false P f)) (sym (sum_cells_lem ms))
    (from_free W H (over false (map point (sum_cells ms)) f) (own_within false (sum_cells ms) f W H w s))

pub erosion_within : (W H : ℕ) (ms : List ℕ) (f : Point → ℕ) → T (all stage ms) → Within 0 W H f → Within 0 W H (over true (sum_of ms) f)
erosion_within W H ms f t w = subst (λ P. Within 0 W H (over true P f)) (sym (sum_cells_lem ms)) (eroded_within (sum_cells ms) f W H w (sum_low ms t))

-- after each number of stages the whole picture lies in the grid
abbrev pub Kept : Bool → Around → ℕ → ℕ → List ℕ → (Point → ℕ) → Type 0
Kept erode k W H ms f = (j : ℕ) → InGrid k W H (over erode (sum_of (take j ms)) f)

-- in the grid of the stages' own kind a picture of the frame's columns and rows does
pub kept : (erode : Bool) (W H : ℕ) (ms : List ℕ) (f : Point → ℕ) → T (all stage ms) → Small ms → Within (outside_of (own erode)) W H f
    → Kept erode (own erode) W H ms f
kept erode W H ms f t s w j =
    subst (λ P. InGrid (own erode) W H (over erode P f)) (sym (sum_cells_lem (take j ms))) (own_within erode (sum_cells (take j ms)) f W H w (small_part j ms t s))

-- and by erosion in the first kind of grid any picture that lies in it
pub erosion_kept : (W H : ℕ) (ms : List ℕ) (f : Point → ℕ) → T (all stage ms) → Within 0 (W + 15) (H + 15) f → Kept true Free W H ms f
erosion_kept W H ms f t w j =
    to_free W H (over true (sum_of (take j ms)) f) (erosion_within (W + 15) (H + 15) (take j ms) f (first_stages j ms t) w)
