-- Sums of masks in natural numbers: the sum before its offset has no negative coordinate. A sum of stages touches both axes, so the offset is forced.
use mathlib.Core.Path.{◌≡◌, refl, sym, ◌∙◌, ap, ap₂, subst}
use mathlib.Core.Logic.{◌↔◌, ◌⊎◌, inl, inr}
use mathlib.Core.Bool.{Bool, not, ◌&&◌, ◌||◌}
use mathlib.Core.List.{List, [], ◌∷◌, map, ◌++◌}
use Prim.Native.Nat.{ℕ, zero, suc, ◌+◌, ◌≤◌, ◌<◌, zero-le}
use native.Mathlib.Omega.{arith}
use lib.Dec.{T, leb, ltb, eqb, eqb→eq, ltb→lt, leb→le}
use lib.ListN.{length}
use lib.IntN.{ℤ, pos, ◌+ℤ◌, ◌-ℤ◌, neg_ℤ, neg_ℤ-neg_ℤ, neg_ℤ-+ℤ, +ℤ_comm, +ℤ_idl, -ℤ-+ℤ_cancel, pos-ne-negsuc}
use Rattle.plane.specs.Lists.{In, any, all, up_to, flat}
use Rattle.plane.specs.Point.{Point, ◌+ᵖ◌, negᵖ, ◌-ᵖ◌, ◌≐◌, moved, Cell, point}
use Rattle.plane.proofs.Algebra.{+ᵖ_cancel, ≐_sym}
use Rattle.plane.proofs.Member.{In-map, In-flat, In-any, each_below}
use Rattle.plane.proofs.Tests.{T_and, T_or, clash}
use Rattle.masks.specs.Chain.{sums, sum_of}
use Rattle.masks.specs.Mask.{mask_cells, mask_points, has_column, has_row, normal, stage}

-- ---- sums of cells

pub pair : {a b : Cell} → a.0 ≡ b.0 → a.1 ≡ b.1 → a ≡ b
pair p q = λ i. (p i, q i)

abbrev pub add_cell : Cell → Cell → Cell
add_cell a b = (a.0 + b.0, a.1 + b.1)

unfoldable pub cell_sums : List Cell → List Cell → List Cell
cell_sums A B = flat (λ a. map (add_cell a) B) A

unfoldable pub sum_cells : List ℕ → List Cell
sum_cells [] = (0, 0) ∷ []
sum_cells (m ∷ ms) = cell_sums (mask_cells m) (sum_cells ms)

pub In-sums : (A B : List Cell) (c : Cell) → In (cell_sums A B) c ↔ ((a : Cell) × (b : Cell) × In A a × In B b × (c ≡ add_cell a b))
unfolding cell_sums
In-sums A B c = (
  λ h. let r = (In-flat row A c).0 h in let s = (In-map (add_cell r.0) B c).0 r.2 in (r.0, s.0, r.1, s.1, s.2),
  λ h. (In-flat row A c).1 (h.0, h.2, (In-map (add_cell h.0) B c).1 (h.1, h.3, h.4)),
)
  where
    row : Cell → List Cell
    row a = map (add_cell a) B

map_append' : {A B : Type 0} (f : A → B) (xs ys : List A) → map f (xs ++ ys) ≡ map f xs ++ map f ys
map_append' f [] ys = refl
map_append' f (x ∷ xs) ys = ap (λ l. f x ∷ l) (map_append' f xs ys)

-- the points of a sum are its cells
cells_sums : (A B : List Cell) → sums (map point A) (map point B) ≡ map point (cell_sums A B)
unfolding cell_sums ◌+ᵖ◌
cells_sums [] B = refl
cells_sums (a ∷ A) B = ap₂ (λ x y. x ++ y) (row a B) (cells_sums A B) ∙ sym (map_append' point (map (add_cell a) B) (cell_sums A B))
  where
    row : (a : Cell) (B : List Cell) → map (λ b. point a +ᵖ b) (map point B) ≡ map point (map (add_cell a) B)
    row a [] = refl
    row a (b ∷ B) = ap (λ l. point (add_cell a b) ∷ l) (row a B)

pub sum_cells_lem : (ms : List ℕ) → sum_of ms ≡ map point (sum_cells ms)
unfolding sum_of sum_cells
sum_cells_lem [] = refl
sum_cells_lem (m ∷ ms) = ap (λ l. sums (mask_points m) l) (sum_cells_lem ms) ∙ cells_sums (mask_cells m) (sum_cells ms)

-- ---- a sum of stages touches both axes, and is at least as far from the origin as it has stages

pub record Low (A : List Cell) : Type 0 where
  pub x : Cell
  pub x_in : In A x
  pub x_zero : x.0 ≡ 0
  pub y : Cell
  pub y_in : In A y
  pub y_zero : y.1 ≡ 0

pub normal_low : (m : ℕ) → T (normal m) → Low (mask_cells m)
unfolding normal
normal_low m t =
    let u = (T_and (has_column 0 m) (has_row 0 m)).0 t in
    let a = (In-any (λ c. eqb c.0 0) (mask_cells m)).0 u.0 in
    let b = (In-any (λ c. eqb c.1 0) (mask_cells m)).0 u.1 in
    record { x = a.0; x_in = a.1; x_zero = eqb→eq a.0.0 0 a.2; y = b.0; y_in = b.1; y_zero = eqb→eq b.0.1 0 b.2 }

-- a stage is a mask of the square, in normal position
stage_parts : (m : ℕ) → T (stage m) → T (ltb m 512) × T (normal m)
unfolding stage
stage_parts m t = (T_and (ltb m 512) (normal m)).0 ((T_and (ltb m 512 && normal m) (leb 2 (length (mask_cells m)))).0 t).0

pub stage_normal : (m : ℕ) → T (stage m) → T (normal m)
stage_normal m t = (stage_parts m t).1

pub stage_below : (m : ℕ) → T (stage m) → m < 512
stage_below m t = ltb→lt m 512 (stage_parts m t).0

low_sums : (A B : List Cell) → Low A → Low B → Low (cell_sums A B)
low_sums A B a b = record {
  x = add_cell a.x b.x;
  x_in = (In-sums A B (add_cell a.x b.x)).1 (a.x, b.x, a.x_in, b.x_in, refl);
  x_zero = omega arith;
  y = add_cell a.y b.y;
  y_in = (In-sums A B (add_cell a.y b.y)).1 (a.y, b.y, a.y_in, b.y_in, refl);
  y_zero = omega arith;
}

pub sum_low : (ms : List ℕ) → T (all stage ms) → Low (sum_cells ms)
unfolding sum_cells
sum_low [] t = record { x = (0, 0); x_in = inl refl; x_zero = refl; y = (0, 0); y_in = inl refl; y_zero = refl }
sum_low (m ∷ ms) t =
    let u = (T_and (stage m) (all stage ms)).0 t in
    low_sums (mask_cells m) (sum_cells ms) (normal_low m (stage_normal m u.0)) (sum_low ms u.1)

-- each stage has a cell off the origin: computed over the masks
abbrev away : Cell → Bool
away c = leb 1 (c.0 + c.1)

off : ℕ → Bool
unfolding stage mask_cells
off m = not (stage m) || any away (mask_cells m)

off_table : T (all off (up_to 512))
unfolding off
off_table = tt

far_stage : (m : ℕ) → T (stage m) → (c : Cell) × In (mask_cells m) c × (1 ≤ c.0 + c.1)
unfolding off
far_stage m t = go ((T_or (not (stage m)) (any away (mask_cells m))).0 (each_below off 512 off_table m (stage_below m t)))
  where
    go : T (not (stage m)) ⊎ T (any away (mask_cells m)) → (c : Cell) × In (mask_cells m) c × (1 ≤ c.0 + c.1)
    go (inl n) = absurd (clash (stage m) n t)
    go (inr a) = let r = (In-any away (mask_cells m)).0 a in (r.0, r.1, leb→le 1 (r.0.0 + r.0.1) r.2)

pub sum_far : (ms : List ℕ) → T (all stage ms) → (c : Cell) × In (sum_cells ms) c × (length ms ≤ c.0 + c.1)
unfolding sum_cells
sum_far [] t = ((0, 0), inl refl, zero-le)
sum_far (m ∷ ms) t =
    let u = (T_and (stage m) (all stage ms)).0 t in
    let a = far_stage m u.0 in
    let b = sum_far ms u.1 in
    let c = add_cell a.0 b.0 in
    (c, (In-sums (mask_cells m) (sum_cells ms) c).1 (a.0, b.0, a.1, b.1, refl), omega arith)

-- ---- the offset is forced

-- a − b and b − a are both not negative only where a is b
pub both_ways : (a b : ℤ) (k l : ℕ) → a -ℤ b ≡ pos k → b -ℤ a ≡ pos l → a ≡ b
both_ways a b k l p q = go k p (sym (ap neg_ℤ p) ∙ neg_ℤ-+ℤ a (neg_ℤ b) ∙ ap (λ x. neg_ℤ a +ℤ x) (neg_ℤ-neg_ℤ b) ∙ +ℤ_comm (neg_ℤ a) b ∙ q)
  where
    go : (k : ℕ) → a -ℤ b ≡ pos k → neg_ℤ (pos k) ≡ pos l → a ≡ b
    go zero p r = sym (-ℤ-+ℤ_cancel a b) ∙ ap (λ x. x +ℤ b) p ∙ +ℤ_idl b
    go (suc k) p r = absurd (pos-ne-negsuc l k (sym r))

-- where one set is two lists of cells moved, the first touching both axes, its move less the other is not negative
step : (A B : List Cell) (d e : Point) → moved d (In (map point A)) ≐ moved e (In (map point B)) → Low A
    → (k : ℕ) × (l : ℕ) × (d.0 -ℤ e.0 ≡ pos k) × (d.1 -ℤ e.1 ≡ pos l)
unfolding ◌+ᵖ◌ negᵖ
step A B d e s a =
    let u = find a.x a.x_in in
    let v = find a.y a.y_in in
    let ex = left a.x.0 a.x_zero d.0 e.0 u.0.0 (ap (λ p. p.0) u.2) in
    let ey = left a.y.1 a.y_zero d.1 e.1 v.0.1 (ap (λ p. p.1) v.2) in
    (u.0.0, v.0.1, ex, ey)
  where
    -- a cell of A, moved by d, is a cell of B, moved by e
    find : (c : Cell) → In A c → (b : Cell) × In B b × (point c +ᵖ d -ᵖ e ≡ point b)
    find c h =
        let here = subst (In (map point A)) (sym (+ᵖ_cancel (point c) d)) ((In-map point A (point c)).1 (c, h, refl)) in
        (In-map point B (point c +ᵖ d -ᵖ e)).0 ((s (point c +ᵖ d)).0 here)

    left : (n : ℕ) → n ≡ 0 → (x y : ℤ) (k : ℕ) → pos n +ℤ x -ℤ y ≡ pos k → x -ℤ y ≡ pos k
    left n z x y k h = ap (λ w. w -ℤ y) (sym (+ℤ_idl x) ∙ ap (λ j. pos j +ℤ x) (sym z)) ∙ h

-- where each touches both axes, the moves are the same
pub same_move : (A B : List Cell) (d e : Point) → moved d (In (map point A)) ≐ moved e (In (map point B)) → Low A → Low B → d ≡ e
same_move A B d e s a b =
    let u = step A B d e s a in
    let v = step B A e d (≐_sym s) b in
    λ i. (both_ways d.0 e.0 u.0 v.0 u.2 v.2 i, both_ways d.1 e.1 u.1 v.1 u.3 v.3 i)
