-- The extents of a sum of stages are the sums of their extents. So no plan has more than w + h stages, nor fewer than half the greater extent, rounded
-- up; and a plan's offset is forced: it is the least x and the least y of the points.
use mathlib.Core.Path.{◌≡◌, refl, sym, ◌∙◌, ap, subst}
use mathlib.Core.Bool.{Bool, not, ◌&&◌, ◌||◌}
use mathlib.Core.Logic.{◌⊎◌, inl, inr}
use mathlib.Core.List.{List, [], ◌∷◌, map}
use Prim.Native.Nat.{ℕ, ◌+◌, ◌*◌, ◌/◌, ◌≤◌, zero-le, max}
use native.Mathlib.Omega.{arith}
use native.Mathlib.Nat.{le_trans}
use lib.Dec.{T, leb, leb→le}
use lib.Signed.{◌≤ℤ◌}
use lib.IntN.{ℤ, pos, ◌+ℤ◌, ◌-ℤ◌, +ℤ_idl, +ℤ_comm, -ℤ-+ℤ_cancel}
use lib.ListN.{length}
use Rattle.plane.specs.Extent.{span, x_of, y_of, corner, Extent, least}
use Rattle.plane.specs.Lists.{In, all, up_to}
use Rattle.plane.specs.Point.{Point, PointSet, ◌+ᵖ◌, negᵖ, ◌-ᵖ◌, origin, Cell, point, ◌⊕◌, moved}
use Rattle.plane.proofs.Algebra.{≐_sym, +ᵖ_cancel}
use Rattle.plane.proofs.Extents.{Adds, x_adds, y_adds, list_extent, extent_add, extent_same, extent_once, extent_moved, least_at}
use Rattle.plane.proofs.Integer.{≤ℤ_to}
use Rattle.plane.proofs.Member.{In-map, each_below}
use Rattle.plane.proofs.Tests.{T_and, T_or, clash}
use Rattle.masks.specs.Chain.{sum_of, PlanOf, Chain, subset}
use Rattle.masks.specs.Mask.{mask_cells, mask_points, stage, Mask}
use Rattle.masks.proofs.Cells.{Low, normal_low, stage_normal, stage_below, sum_low, sum_cells, sum_cells_lem}
use Rattle.masks.proofs.Reduce.{shorten}
use Rattle.masks.proofs.Sum.{sum_cons}

-- ---- the extents of a sum

-- a number of each mask, added up
abbrev pub total : (ℕ → ℕ) → List ℕ → ℕ
total f [] = 0
total f (m ∷ ms) = f m + total f ms

-- a mask's extent along a coordinate
unfoldable pub along : (Point → ℤ) → ℕ → ℕ
unfolding span mask_cells
along axis m = span (map axis (mask_points m))

pub sum_extent : (axis : Point → ℤ) → Adds axis → axis origin ≡ pos 0 → (ms : List ℕ) → T (all stage ms) → Extent axis (In (sum_of ms)) (total (along axis) ms)
unfolding sum_of along span
sum_extent axis adds z [] t = subst (Extent axis (In (origin ∷ []))) none (list_extent axis (origin ∷ []) origin (inl refl))
  where
    none : span (map axis (origin ∷ [])) ≡ 0
    none = ap (λ x. span (x ∷ [])) z
sum_extent axis adds z (m ∷ ms) t =
    let u = (T_and (stage m) (all stage ms)).0 t in
    let l = normal_low m (stage_normal m u.0) in
    let p = point l.x in
    extent_same axis (Mask m ⊕ In (sum_of ms)) (In (sum_of (m ∷ ms))) (along axis m + total (along axis) ms) (≐_sym (sum_cons m ms))
    (extent_add axis adds (Mask m) (In (sum_of ms)) (along axis m) (total (along axis) ms)
    (list_extent axis (mask_points m) p ((In-map point (mask_cells m) p).1 (l.x, l.x_in, refl))) (sum_extent axis adds z ms u.1))

-- each stage adds at least 1 to w + h, and at most 2 to each: computed over the masks
small : ℕ → Bool
unfolding along stage
small m = not (stage m) || leb 1 (along x_of m + along y_of m) && leb (along x_of m) 2 && leb (along y_of m) 2

small_table : T (all small (up_to 512))
unfolding small
small_table = tt

pub stage_extents : (m : ℕ) → T (stage m) → (1 ≤ along x_of m + along y_of m) × (along x_of m ≤ 2) × (along y_of m ≤ 2)
unfolding small
stage_extents m t = go ((T_or (not (stage m)) _).0 (each_below small 512 small_table m (stage_below m t)))
  where
    w : ℕ
    w = along x_of m

    h : ℕ
    h = along y_of m

    go : T (not (stage m)) ⊎ T (leb 1 (w + h) && leb w 2 && leb h 2) → (1 ≤ w + h) × (w ≤ 2) × (h ≤ 2)
    go (inl n) = absurd (clash (stage m) n t)
    go (inr a) =
        let u = (T_and (leb 1 (w + h) && leb w 2) (leb h 2)).0 a in
        let v = (T_and (leb 1 (w + h)) (leb w 2)).0 u.0 in
        (leb→le 1 (w + h) v.0, leb→le w 2 v.1, leb→le h 2 u.1)

pub total_bounds : (ms : List ℕ) → T (all stage ms)
    → (length ms ≤ total (along x_of) ms + total (along y_of) ms) × (total (along x_of) ms ≤ 2 * length ms) × (total (along y_of) ms ≤ 2 * length ms)
total_bounds [] t = (zero-le, zero-le, zero-le)
total_bounds (m ∷ ms) t =
    let u = (T_and (stage m) (all stage ms)).0 t in
    let a = stage_extents m u.0 in
    let b = total_bounds ms u.1 in
    (omega arith, omega arith, omega arith)

-- a set with a plan has the extents of the plan
pub plan_extent : (axis : Point → ℤ) → Adds axis → axis origin ≡ pos 0 → (S : PointSet) (d : Point) (ms : List ℕ) → PlanOf stage S d ms
    → Extent axis S (total (along axis) ms)
plan_extent axis adds z S d ms P =
    extent_same axis (moved d (In (sum_of ms))) S (total (along axis) ms) (≐_sym P.sum)
    (extent_moved axis adds d (In (sum_of ms)) (total (along axis) ms) (sum_extent axis adds z ms P.stages))

-- ---- how many stages a plan has

module _ (S : PointSet) (w h : ℕ) (W : Extent x_of S w) (H : Extent y_of S h) where
  -- a plan's extents are those of the set
  pub plan_extents : (d : Point) (ms : List ℕ) → PlanOf stage S d ms → (w ≡ total (along x_of) ms) × (h ≡ total (along y_of) ms)
  plan_extents d ms P = (one x_of x_adds refl w W, one y_of y_adds refl h H)
    where
      one : (axis : Point → ℤ) → Adds axis → axis origin ≡ pos 0 → (n : ℕ) → Extent axis S n → n ≡ total (along axis) ms
      one axis adds z n E = extent_once axis S n (total (along axis) ms) E (plan_extent axis adds z S d ms P)

  -- at most w + h stages, and at least half the greater extent, rounded up
  pub plan_bounds : (d : Point) (ms : List ℕ) → PlanOf stage S d ms → (length ms ≤ w + h) × ((max w h + 1) / 2 ≤ length ms)
  plan_bounds d ms P =
      let e = plan_extents d ms P in
      let b = total_bounds ms P.stages in
      (omega arith, omega arith)

  -- no chain of any subsets of the square is shorter than that
  pub chain_bound : (c : Chain subset S) → (max w h + 1) / 2 ≤ length c.members
  chain_bound c =
      let q = shorten S W.low W.low_in c in
      le_trans (plan_bounds q.offset q.stages q.plan).1 q.count

-- ---- where a plan stands

-- a sum of stages starts at 0 in each coordinate, so the plan of a set starts at its offset
pub forced : (A : List Point) (d : Point) (ms : List ℕ) → PlanOf stage (In A) d ms → d ≡ corner A
unfolding ◌+ᵖ◌ negᵖ
forced A d ms P =
    let ex = one x_of (λ c. c.0) L.x L.x_in L.x_zero (λ c. refl) (λ p. refl) in
    let ey = one y_of (λ c. c.1) L.y L.y_in L.y_zero (λ c. refl) (λ p. refl) in
    λ i. (ex i, ey i)
  where
    L : Low (sum_cells ms)
    L = sum_low ms P.stages

    -- a point of A, less d, is a cell of the sum
    cell : (p : Point) → In A p → (c : Cell) × In (sum_cells ms) c × (p -ᵖ d ≡ point c)
    cell p h = (In-map point (sum_cells ms) (p -ᵖ d)).0 (subst (λ l. In l (p -ᵖ d)) (sum_cells_lem ms) ((P.sum p).0 h))

    -- one coordinate: c is at 0 along it, so the point of c is at d, and no other is below
    one : (axis : Point → ℤ) (number : Cell → ℕ) (c : Cell) → In (sum_cells ms) c → number c ≡ 0 → ((c : Cell) → axis (point c) ≡ pos (number c))
        → ((p : Point) → axis (p -ᵖ d) ≡ axis p -ℤ axis d) → axis d ≡ least (map axis A)
    one axis number c k z at less = sym (least_at (map axis A) (axis d) here below)
      where
        q : Point
        q = point c +ᵖ d

        start : q -ᵖ d ≡ point c
        start = +ᵖ_cancel (point c) d

        first : In A q
        first = (P.sum q).1 (subst (λ l. In l (q -ᵖ d)) (sym (sum_cells_lem ms)) ((In-map point (sum_cells ms) (q -ᵖ d)).1 (c, k, start)))

        back : (p : Point) → axis p ≡ axis (p -ᵖ d) +ℤ axis d
        back p = sym (ap (λ x. x +ℤ axis d) (less p) ∙ -ℤ-+ℤ_cancel (axis p) (axis d))

        -- the coordinate of a point that is a cell moved by d
        onto : (p : Point) (c : Cell) → p -ᵖ d ≡ point c → axis p ≡ pos (number c) +ℤ axis d
        onto p c e = back p ∙ ap (λ x. x +ℤ axis d) (ap axis e ∙ at c)

        here : In (map axis A) (axis d)
        here = (In-map axis A (axis d)).1 (q, first, sym (onto q c start ∙ ap (λ n. pos n +ℤ axis d) z ∙ +ℤ_idl (axis d)))

        below : (y : ℤ) → In (map axis A) y → axis d ≤ℤ y
        below y h =
            let r = (In-map axis A y).0 h in
            let s = cell r.0 r.1 in
            ≤ℤ_to (axis d) y (number s.0) (r.2 ∙ onto r.0 s.0 s.2 ∙ +ℤ_comm (pos (number s.0)) (axis d))
