-- Sets of points that are cells touching both axes, moved: a plan's offset is forced, so its stages sum to exactly those cells. The computed search then
-- decides the picked plan, or that there is no chain.
use mathlib.Core.Path.{◌≡◌, refl, sym, ◌∙◌, ap, subst}
use mathlib.Core.Logic.{◌↔◌, ◌⊎◌, inl, inr}
use mathlib.Core.Bool.{Bool, true, false, not, ◌&&◌}
use mathlib.Core.List.{List, [], map}
use mathlib.Core.Option.{Option, some, none}
use Prim.Native.Nat.{ℕ, suc, ◌+◌}
use native.Mathlib.Omega.{arith}
use native.Mathlib.Decide.{ℕ_discrete}
use lib.Dec.{T, leb, ltb, eqb, eqb→eq, ltb→lt, leb→le, nltb→le}
use lib.ListN.{length}
use lib.IntN.{nat_abs}
use Rattle.plane.specs.Lists.{In, any, all, up_to}
use Rattle.plane.specs.Point.{Point, ◌+ᵖ◌, ◌-ᵖ◌, PointSet, ◌≐◌, moved, Cell, point}
use Rattle.plane.proofs.Algebra.{+ᵖ_cancel, subᵖ_cancel, ≐_sym, ≐_trans}
use Rattle.plane.proofs.Member.{In-map, In-any, In-all, each_below}
use Rattle.plane.proofs.Tests.{T_and, T_dec}
use Rattle.masks.specs.Chain.{falling, Chain, subset, PlanOf, Picked, before}
use Rattle.masks.specs.Mask.{stage}
use Rattle.masks.proofs.Cells.{sum_cells, sum_cells_lem, Low, sum_low, sum_far, same_move, pair}
use Rattle.masks.proofs.Order.{not_above, not_before_above, not_before_longer}
use Rattle.masks.proofs.Reduce.{shorten}
use Rattle.masks.proofs.Search.{search, searched, Found, Same, same, same_is}

-- ---- a set that is cells touching both axes, moved

-- two cells that are one point are one cell
point_in : (A : List Cell) (c : Cell) → In (map point A) (point c) ↔ In A c
point_in A c = (
  λ h. let r = (In-map point A (point c)).0 h in
      let e : c ≡ r.0 = pair (ap (λ p. nat_abs p.0) r.2) (ap (λ p. nat_abs p.1) r.2) in
      subst (In A) (sym e) r.1,
  λ h. (In-map point A (point c)).1 (c, h, refl),
)

-- sets that are the same when both are moved by d are the same
unmoved : (d : Point) (X Y : PointSet) → moved d X ≐ moved d Y → X ≐ Y
unmoved d X Y e p = (across X Y (e (p +ᵖ d)).0, across Y X (e (p +ᵖ d)).1)
  where
    across : (X Y : PointSet) → (moved d X (p +ᵖ d) → moved d Y (p +ᵖ d)) → X p → Y p
    across X Y f h = subst Y (+ᵖ_cancel p d) (f (subst X (sym (+ᵖ_cancel p d)) h))

pub record Placed (S : PointSet) (A : List Cell) (d : Point) : Type 0 where
  pub low : Low A
  pub set : S ≐ moved d (In (map point A))

-- a plan's stages sum to those cells, at that offset
pub plan_cells : (S : PointSet) (A : List Cell) (d e : Point) (ns : List ℕ) → Placed S A d → PlanOf stage S e ns → (e ≡ d) × Same A (sum_cells ns)
plan_cells S A d e ns p q =
    let s : moved e N ≐ moved d M = ≐_trans (subst (λ l. moved e (In l) ≐ S) (sum_cells_lem ns) (≐_sym q.sum)) p.set in
    let m = same_move B A e d s (sum_low ns q.stages) p.low in
    let z = unmoved d N M (subst (λ x. moved x N ≐ moved d M) m s) in
    (m, λ c. (λ h. (point_in B c).0 ((z (point c)).1 ((point_in A c).1 h)), λ h. (point_in A c).0 ((z (point c)).0 ((point_in B c).1 h))))
  where
    B : List Cell
    B = sum_cells ns

    M : PointSet
    M = In (map point A)

    N : PointSet
    N = In (map point B)

-- and stages that sum to those cells are a plan
pub cells_plan : (S : PointSet) (A : List Cell) (d : Point) (ns : List ℕ) → Placed S A d → T (all stage ns) → T (not (falling ns)) → Same A (sum_cells ns)
    → PlanOf stage S d ns
cells_plan S A d ns p t u s = record { stages = t; sorted = u; sum = subst (λ l. S ≐ moved d (In l)) (sym (sum_cells_lem ns)) (≐_trans p.set moves) }
  where
    go : (B C : List Cell) → ((c : Cell) → In B c → In C c) → (x : Point) → In (map point B) x → In (map point C) x
    go B C f x h = let r = (In-map point B x).0 h in (In-map point C x).1 (r.0, f r.0 r.1, r.2)

    moves : moved d (In (map point A)) ≐ moved d (In (map point (sum_cells ns)))
    moves x = (go A (sum_cells ns) (λ c. (s c).0) (x -ᵖ d), go (sum_cells ns) A (λ c. (s c).1) (x -ᵖ d))

-- ---- what the search decides

abbrev pub is_none : Option (List ℕ) → Bool
is_none none = true
is_none (some ms) = false

-- a search that finds nothing finds no list
nothing : (o : Option (List ℕ)) (ns : List ℕ) → T (is_none o) → Found [] ns o → ⊥
nothing o ns t f = subst (λ x. T (is_none x)) f.1 t

-- the search with n stages finds nothing
abbrev fails : List Cell → ℕ → Bool
fails A n = is_none (search A n)

-- no farther than k from the origin
abbrev near : ℕ → Cell → Bool
near k c = leb (c.0 + c.1) k

-- no cell of A is farther from the origin than k, and no search of at most k stages finds anything: no chain
unfoldable pub hopeless : List Cell → ℕ → Bool
unfolding search
hopeless A k = all (near k) A && all (fails A) (up_to (suc k))

pub no_chain : (S : PointSet) (A : List Cell) (d : Point) (k : ℕ) → Placed S A d → T (hopeless A k) → ¬ Chain subset S
unfolding hopeless
no_chain S A d k p t c =
    let u = (T_and (all (near k) A) (all (fails A) (up_to (suc k)))).0 t in
    let q = shorten S start here c in
    let ns = q.stages in
    let P = q.plan in
    let r = plan_cells S A d q.offset ns p P in
    let f = sum_far ns P.stages in
    let g = leb→le (f.0.0 + f.0.1) k (In-all (near k) A u.0 f.0 ((r.1 f.0).1 f.1)) in
    let h = f.2 in
    let failed = each_below (fails A) (suc k) u.1 (length ns) (omega arith) in
    nothing (search A (length ns)) ns failed (searched A ns P.stages P.sorted r.1)
  where
    -- a point of S
    cell : Cell
    cell = p.low.x

    start : Point
    start = point cell +ᵖ d

    here : S start
    here = (p.set start).1 (subst (In (map point A)) (sym (+ᵖ_cancel (point cell) d)) ((point_in A cell).1 p.low.x_in))

-- fewer stages find nothing, and as many find ms first: ms is the picked plan
pub picked : (S : PointSet) (A : List Cell) (d : Point) (ms : List ℕ) → Placed S A d → T (all stage ms) → T (not (falling ms)) → T (same A (sum_cells ms))
    → T (all (λ n. is_none (search A n)) (up_to (length ms))) → search A (length ms) ≡ some ms → Picked stage S d ms
picked S A d ms p t u s b f = record {
  plan = cells_plan S A d ms p t u ((same_is A (sum_cells ms)).0 s);
  first = λ e ns q. let r = plan_cells S A d e ns p q in
      go ns (searched A ns q.stages q.sorted r.1) (ℕ_discrete (length ms) (length ns));
}
  where
    unsome : Option (List ℕ) → List ℕ
    unsome none = []
    unsome (some l) = l

    go : (ns : List ℕ) → Found A ns (search A (length ns)) → Dec (length ms ≡ length ns) → T (not (before ns ms))
    go ns g (yes e) =
        let h : g.0 ≡ ms = ap unsome (sym g.1 ∙ ap (search A) (sym e) ∙ f) in
        not_before_above ms ns e (subst (λ l. T (not_above l ns)) h g.2)
    go ns g (no q) = longer (T_dec fewer)
      where
        fewer : Bool
        fewer = ltb (length ns) (length ms)

        longer : T fewer ⊎ T (not fewer) → T (not (before ns ms))
        longer (inl t) =
            let failed = each_below (fails A) (length ms) b (length ns) (ltb→lt (length ns) (length ms) t) in
            absurd (nothing (search A (length ns)) ns failed g)
        longer (inr t) = let k = nltb→le (length ns) (length ms) t in not_before_longer ms ns (omega arith)

-- a list of points that is cells moved, with a cell in column 0 and one in row 0
pub placed : (L : List Point) (A : List Cell) (d : Point) → L ≡ map (λ c. point c +ᵖ d) A → T (any (λ c. eqb c.0 0) A) → T (any (λ c. eqb c.1 0) A)
    → Placed (In L) A d
placed L A d e t u = record {
  low = let a = (In-any (λ c. eqb c.0 0) A).0 t in let b = (In-any (λ c. eqb c.1 0) A).0 u in
      record { x = a.0; x_in = a.1; x_zero = eqb→eq a.0.0 0 a.2; y = b.0; y_in = b.1; y_zero = eqb→eq b.0.1 0 b.2 };
  set = λ p. (
    λ h. let r = (In-map at A p).0 (subst (λ l. In l p) e h) in
        (In-map point A (p -ᵖ d)).1 (r.0, r.1, ap (λ x. x -ᵖ d) r.2 ∙ +ᵖ_cancel (point r.0) d),
    λ h. let r = (In-map point A (p -ᵖ d)).0 h in
        subst (λ l. In l p) (sym e) ((In-map at A p).1 (r.0, r.1, sym (subᵖ_cancel p d) ∙ ap (λ x. x +ᵖ d) r.2)),
  );
}
  where
    at : Cell → Point
    at c = point c +ᵖ d
