-- The rule of normal positions: one test, computed over the 512 masks and carried to each. There are 400 non-empty masks in normal
-- position, 399 with two cells or more.
use mathlib.Core.Path.{◌≡◌, refl, sym, ◌∙◌, ap, ap₂, subst}
use mathlib.Core.Logic.{◌⊎◌, ◌≢◌, inl, inr}
use mathlib.Core.Bool.{Bool, true, false, not, ◌&&◌, ◌||◌}
use mathlib.Core.List.{List, [], ◌∷◌, map}
use Prim.Native.Nat.{ℕ, ◌+◌, ◌<◌}
use lib.Dec.{T, T_not, eqb, eqb→eq}
use lib.ListN.{length}
use lib.IntN.{pos}
use Rattle.plane.specs.Lists.{In, all, up_to, keep}
use Rattle.plane.specs.Point.{Point, ◌+ᵖ◌, ◌-ᵖ◌, ◌≐◌, moved, Cell, point}
use Rattle.plane.proofs.Algebra.{+ᵖ_cancel, subᵖ_cancel}
use Rattle.plane.proofs.Member.{In-map, each_below}
use Rattle.plane.proofs.Tests.{T_and, T_or, eq-eqb}
use Rattle.masks.specs.Mask.{mask_cells, stage, Mask, normal_of, column_shift, row_shift, normal, NormalPosition}

-- ---- the same cells in the same order

same_cells : List Cell → List Cell → Bool
same_cells [] [] = true
same_cells [] (b ∷ bs) = false
same_cells (a ∷ as') [] = false
same_cells (a ∷ as') (b ∷ bs) = eqb a.0 b.0 && eqb a.1 b.1 && same_cells as' bs

same_eq : (xs ys : List Cell) → T (same_cells xs ys) → xs ≡ ys
unfolding same_cells
same_eq [] [] t = refl
same_eq [] (b ∷ bs) t = absurd t
same_eq (a ∷ as') [] t = absurd t
same_eq (a ∷ as') (b ∷ bs) t =
    let u = (T_and (eqb a.0 b.0 && eqb a.1 b.1) (same_cells as' bs)).0 t in
    let v = (T_and (eqb a.0 b.0) (eqb a.1 b.1)).0 u.0 in
    let e : a ≡ b = λ i. (eqb→eq a.0 b.0 v.0 i, eqb→eq a.1 b.1 v.1 i) in
    ap₂ (λ x xs. x ∷ xs) e (same_eq as' bs u.1)

-- a cell s columns and t rows on
abbrev shifted : ℕ → ℕ → Cell → Cell
shifted s t c = (c.0 + s, c.1 + t)

-- cells that are other cells moved, as sets of points
moved_cells : (xs : List Cell) (s t : ℕ) → In (map point (map (shifted s t) xs)) ≐ moved (pos s, pos t) (In (map point xs))
unfolding ◌+ᵖ◌
moved_cells xs s t p = (
  λ h. let r = (In-map point (map f xs) p).0 h in
      let q = (In-map f xs r.0).0 r.1 in
      (In-map point xs (p -ᵖ d)).1 (q.0, q.1, ap (λ x. x -ᵖ d) (r.2 ∙ ap point q.2) ∙ +ᵖ_cancel (point q.0) d),
  λ h. let r = (In-map point xs (p -ᵖ d)).0 h in
      let here = (In-map f xs (f r.0)).1 (r.0, r.1, refl) in
      (In-map point (map f xs) p).1 (f r.0, here, sym (subᵖ_cancel p d) ∙ ap (λ x. x +ᵖ d) r.2),
)
  where
    d : Point
    d = (pos s, pos t)

    f : Cell → Cell
    f = shifted s t

-- ---- the rule

-- the cells of the normal position of m, moved back
back : ℕ → List Cell
unfolding mask_cells normal_of
back m = map (shifted (column_shift m) (row_shift m)) (mask_cells (normal_of m))

-- what the normal position n of a mask is: normal, and a stage unless it is the single cell 1
single : ℕ → Bool
unfolding mask_cells normal stage
single n = normal n && (eqb n 1 || stage n)

-- the normal position of 0 is 0, and that of any other mask is normal
kind : ℕ → Bool
unfolding normal_of single
kind m = eqb m 0 && eqb (normal_of m) 0 || not (eqb m 0) && single (normal_of m)

-- the rule at m: the mask is its normal position moved, and that position is of the right kind
right : ℕ → Bool
unfolding back kind same_cells
right m = same_cells (mask_cells m) (back m) && kind m

-- at every mask, tested
tested : T (all right (up_to 512))
unfolding right
tested = tt

-- and carried to each
checked : (m : ℕ) → m < 512 → T (same_cells (mask_cells m) (back m)) × T (kind m)
unfolding right
checked m h = (T_and (same_cells (mask_cells m) (back m)) (kind m)).0 (each_below right 512 tested m h)

pub normal_move : (m : ℕ) → m < 512 → Mask m ≐ moved (pos (column_shift m), pos (row_shift m)) (Mask (normal_of m))
unfolding back
normal_move m h = subst (λ cs. In (map point cs) ≐ moved d (Mask (normal_of m))) (sym same) (moved_cells (mask_cells (normal_of m)) (column_shift m) (row_shift m))
  where
    d : Point
    d = (pos (column_shift m), pos (row_shift m))

    same : mask_cells m ≡ back m
    same = same_eq (mask_cells m) (back m) (checked m h).0

-- n is 0 for 0, and for any other mask normal and either the single cell 1 or a stage
abbrev Kind : ℕ → ℕ → Type 0
Kind m n = ((m ≡ 0) × (n ≡ 0)) ⊎ ((m ≢ 0) × T (normal n) × ((n ≡ 1) ⊎ T (stage n)))

pub normal_or_zero : (m : ℕ) → m < 512 → ((m ≡ 0) × (normal_of m ≡ 0)) ⊎ ((m ≢ 0) × T (normal (normal_of m)) × ((normal_of m ≡ 1) ⊎ T (stage (normal_of m))))
unfolding kind single
normal_or_zero m h = go ((T_or (eqb m 0 && eqb n 0) (not (eqb m 0) && single n)).0 (checked m h).1)
  where
    n : ℕ
    n = normal_of m

    which : T (eqb n 1) ⊎ T (stage n) → (n ≡ 1) ⊎ T (stage n)
    which (inl t) = inl (eqb→eq n 1 t)
    which (inr t) = inr t

    go : T (eqb m 0 && eqb n 0) ⊎ T (not (eqb m 0) && single n) → Kind m n
    go (inl t) = let u = (T_and (eqb m 0) (eqb n 0)).0 t in inl (eqb→eq m 0 u.0, eqb→eq n 0 u.1)
    go (inr t) =
        let u = (T_and (not (eqb m 0)) (single n)).0 t in
        let v = (T_and (normal n) (eqb n 1 || stage n)).0 u.1 in
        inr ((λ e. T_not (eqb m 0) u.0 (eq-eqb e)), v.0, which ((T_or (eqb n 1) (stage n)).0 v.1))

-- the rule, whole
pub normal_position : (m : ℕ) → m < 512 → NormalPosition m (normal_of m)
normal_position m h = record { entry = refl; zero = is.0; normal_is = is.1; shift = (pos (column_shift m), pos (row_shift m)); move = normal_move m h }
  where
    cases : Kind m (normal_of m) → (m ≡ 0 → normal_of m ≡ 0) × (m ≢ 0 → T (normal (normal_of m)))
    cases (inl u) = (λ _. u.1, λ f. absurd (f u.0))
    cases (inr u) = (λ e. absurd (u.0 e), λ _. u.1)

    is : (m ≡ 0 → normal_of m ≡ 0) × (m ≢ 0 → T (normal (normal_of m)))
    is = cases (normal_or_zero m h)

-- ---- how many there are

pub normal_count : length (keep normal (up_to 512)) ≡ 400
unfolding normal
normal_count = refl

pub stage_count : length (keep stage (up_to 512)) ≡ 399
unfolding stage
stage_count = refl
