-- The single stage, on pictures whose values are no higher than a cell may be: at each byte it is what the rule gives of the mask's points, cut to the grid,
-- whatever the value outside.
use mathlib.Core.Path.{◌≡◌, refl, sym, ◌∙◌, ap, ap₂, subst, fun_ext}
use mathlib.Core.Logic.{inl, inr}
use mathlib.Core.Bool.{Bool, true, false, not, ◌&&◌, cond}
use mathlib.Core.List.{List, [], ◌∷◌, map}
use Prim.Native.Nat.{ℕ, zero, suc, ◌+◌, ◌*◌, ◌≤◌, ◌<◌, zero-le}
use native.Mathlib.Omega.{arith}
use native.Mathlib.Nat.{le_refl, mul_comm, mul-le-mul_right}
use lib.Dec.{T, ltb, ltb→lt, nltb→le}
use lib.IntN.{ℤ, pos, negsuc}
use lib.ListN.{length, get_or, take}
use lib.Seq.{get_or-take}
use Rattle.plane.specs.Lists.{In}
use Rattle.plane.specs.Point.{Point, ◌+ᵖ◌, negᵖ, ◌-ᵖ◌}
use Rattle.plane.proofs.Algebra.{+ᵖ_assoc, +ᵖ_comm, subᵖ_cancel}
use Rattle.plane.proofs.Tests.{T_and, not_or, cond_ind}
use Rattle.masks.specs.Mask.{mask_points, Mask}
use Rattle.grids.specs.Frame.{free, full, highest, greater, lesser, over, bad_cell, grid_size}
use Rattle.grids.specs.Grid.{outside_of, corner, grid_bytes, grid, laid, once}
use Rattle.grids.specs.declared.Around.{Around}
use Rattle.grids.specs.declared.Around.TheVariants.{Free, Occupied}
use Rattle.grids.specs.Image.{value_at, view, cells, fold, dilated, eroded}
use Rattle.grids.specs.Rules.{Gives}
use Rattle.grids.proofs.Fold.{absorb}
use Rattle.grids.proofs.Values.{Upto, lesser_laws, greater_low, lesser_low}
use Rattle.grids.proofs.Rules.{over_makes}
use Rattle.grids.proofs.Pictures.{inside, get_d_cells, length_cells, view_cells}

-- ---- values

module _ {B : Type 0} (g : B → ℕ) where
  greatest_le : (n : ℕ) (P : List B) → ((b : B) → g b ≤ n) → fold greater free (map g P) ≤ n
  greatest_le n [] h = zero-le
  greatest_le n (b ∷ P) h = greater_low n (g b) (fold greater free (map g P)) (h b) (greatest_le n P h)

  least_le : (n : ℕ) → 1 ≤ n → (P : List B) → ((b : B) → g b ≤ n) → fold lesser full (map g P) ≤ n
  least_le n l [] h = l
  least_le n l (b ∷ P) h = lesser_low n (g b) (fold lesser full (map g P)) (h b) (least_le n l P h)

  pub greatest_zero : (P : List B) → ((b : B) → In P b → g b ≡ 0) → fold greater free (map g P) ≡ 0
  greatest_zero [] h = refl
  greatest_zero (b ∷ P) h = ap₂ greater (h b (inl refl)) (greatest_zero P (λ c k. h c (inr k)))

  pub least_zero : (P : List B) (b : B) → In P b → g b ≡ 0 → fold lesser full (map g P) ≡ 0
  least_zero P b h e = sym (absorb lesser full lesser_laws g P b h) ∙ ap (λ n. lesser n (fold lesser full (map g P))) e

  pub least_one : (P : List B) → ((b : B) → In P b → g b ≡ 1) → fold lesser full (map g P) ≡ 1
  least_one [] h = refl
  least_one (b ∷ P) h = ap₂ lesser (h b (inl refl)) (least_one P (λ c k. h c (inr k)))

pub over_upto : (n : ℕ) → 1 ≤ n → (erode : Bool) (P : List Point) (f : Point → ℕ) → Upto n f → Upto n (over erode P f)
over_upto n l true P f b p = least_le (λ a. f (p +ᵖ a)) n l P (λ a. b (p +ᵖ a))
over_upto n l false P f b p = greatest_le (λ a. f (p -ᵖ a)) n P (λ a. b (p -ᵖ a))

-- ---- bytes

-- where no byte is above 2, none that is read is
pub bytes_upto : (v : ℕ) → v ≤ highest → (g : List ℕ) → T (not (bad_cell g)) → (i : ℕ) → get_or g i v ≤ highest
bytes_upto v l [] t i = l
bytes_upto v l (a ∷ g) t zero = nltb→le highest a ((not_or (ltb highest a) (bad_cell g)).0 t).0
bytes_upto v l (a ∷ g) t (suc i) = bytes_upto v l g ((not_or (ltb highest a) (bad_cell g)).0 t).1 i

pub view_upto : (n v W H : ℕ) (l : List ℕ) → v ≤ n → ((i : ℕ) → i < H * W → get_or l i v ≤ n) → Upto n (view v W H l)
unfolding value_at
view_upto n v W H l low h p = go p.0 p.1
  where
    place : (x y : ℕ) → x < W → y < H → y * W + x < H * W
    place x y j k = let r = mul-le-mul_right {m = suc y} {n = H} W k in omega arith

    go : (x y : ℤ) → value_at v W H l x y ≤ n
    go (pos x) (pos y) = cond_ind (ltb x W && ltb y H) (get_or l (y * W + x) v) v (λ k. k ≤ n) (λ t.
        let u = (T_and (ltb x W) (ltb y H)).0 t in h (y * W + x) (place x y (ltb→lt x W u.0) (ltb→lt y H u.1))) (λ t. low)
    go (pos x) (negsuc y) = low
    go (negsuc x) y = low

-- ---- the single stage

pub once_is : (erode : Bool) (k : Around) (W H m : ℕ) (g : List ℕ) → once erode k W H m g ≡ laid k W H (over erode (mask_points m) (grid k W H g))
unfolding once
once_is erode k W H m g = refl

-- by its kind: the least of the cells p + a, with 1 for none, or the greatest of the cells p − a, with 0 for none
pub once_eroded : (k : Around) (W H m : ℕ) (g : List ℕ) → once true k W H m g ≡ laid k W H (eroded lesser full (mask_points m) (grid k W H g))
unfolding once
once_eroded k W H m g = refl

pub once_dilated : (k : Around) (W H m : ℕ) (g : List ℕ) → once false k W H m g ≡ laid k W H (dilated greater free (mask_points m) (grid k W H g))
unfolding once
once_dilated k W H m g = refl

-- where a grid starts is nothing to a stage: byte by byte it is the picture of the bytes that is taken through it
over_moved : (erode : Bool) (P : List Point) (f : Point → ℕ) (s p : Point) → over erode P (λ q. f (q +ᵖ s)) (p -ᵖ s) ≡ over erode P f p
over_moved true P f s p = ap (λ h. fold lesser full (map h P)) (fun_ext (λ a. ap f (back a)))
  where
    back : (a : Point) → p -ᵖ s +ᵖ a +ᵖ s ≡ p +ᵖ a
    back a = +ᵖ_assoc (p -ᵖ s) a s ∙ ap (λ z. p -ᵖ s +ᵖ z) (+ᵖ_comm a s) ∙ sym (+ᵖ_assoc (p -ᵖ s) s a) ∙ ap (λ z. z +ᵖ a) (subᵖ_cancel p s)
over_moved false P f s p = ap (λ h. fold greater free (map h P)) (fun_ext (λ a. ap f (back a)))
  where
    back : (a : Point) → p -ᵖ s -ᵖ a +ᵖ s ≡ p -ᵖ a
    back a = +ᵖ_assoc (p -ᵖ s) (negᵖ a) s ∙ ap (λ z. p -ᵖ s +ᵖ z) (+ᵖ_comm (negᵖ a) s) ∙ sym (+ᵖ_assoc (p -ᵖ s) s (negᵖ a)) ∙ ap (λ z. z -ᵖ a) (subᵖ_cancel p s)

pub once_bytes : (erode : Bool) (k : Around) (W H m : ℕ) (g : List ℕ)
    → once erode k W H m g ≡ cells (W + 15) (H + 15) (over erode (mask_points m) (grid_bytes k W H g))
once_bytes erode k W H m g =
    once_is erode k W H m g
    ∙ ap (cells (W + 15) (H + 15)) (fun_ext (over_moved erode (mask_points m) (grid_bytes k W H g) (corner k)))

pub once_size : (erode : Bool) (k : Around) (W H m : ℕ) (g : List ℕ) → length (once erode k W H m g) ≡ grid_size W H
once_size erode k W H m g =
    ap length (once_bytes erode k W H m g)
    ∙ length_cells (W + 15) (H + 15) (over erode (mask_points m) (grid_bytes k W H g)) ∙ mul_comm (H + 15) (W + 15)

-- the byte in column x and row y is the plane cell as far from the grid's start
pub once_cell : (erode : Bool) (k : Around) (W H m : ℕ) (g : List ℕ) (x y : ℕ) → x < W + 15 → y < H + 15
    → get_or (once erode k W H m g) (y * (W + 15) + x) 0 ≡ over erode (mask_points m) (grid k W H g) ((pos x, pos y) -ᵖ corner k)
once_cell erode k W H m g x y h l =
    ap (λ l. get_or l (y * (W + 15) + x) 0) (once_is erode k W H m g)
    ∙ get_d_cells (W + 15) (H + 15) (λ p. over erode (mask_points m) (grid k W H g) (p -ᵖ corner k)) x y 0 h l

pub outside_low : (k : Around) → outside_of k ≤ 1
outside_low Free = zero-le
outside_low Occupied = le_refl 1

-- where no byte of the grid, read as far as its image goes, is above 2, none that is read is
pub grid_bytes_upto : (k : Around) (W H : ℕ) (g : List ℕ) → T (not (bad_cell (take (grid_size W H) g))) → Upto highest (grid_bytes k W H g)
grid_bytes_upto k W H g clean = view_upto highest v (W + 15) (H + 15) g low (λ i h.
    subst (λ n. n ≤ highest) (get_or-take (grid_size W H) g i v (subst (λ n. i < n) (mul_comm (H + 15) (W + 15)) h))
    (bytes_upto v low (take (grid_size W H) g) clean i))
  where
    v : ℕ
    v = outside_of k

    low : v ≤ highest
    low = let l = outside_low k in omega arith

pub grid_upto : (k : Around) (W H : ℕ) (g : List ℕ) → T (not (bad_cell (take (grid_size W H) g))) → Upto highest (grid k W H g)
grid_upto k W H g clean p = grid_bytes_upto k W H g clean (p +ᵖ corner k)

-- and no stage gives a byte above n where there was none
pub once_upto : (n : ℕ) → 1 ≤ n → (erode : Bool) (k : Around) (W H m : ℕ) (g : List ℕ) → Upto n (grid_bytes k W H g)
    → Upto n (grid_bytes k W H (once erode k W H m g))
once_upto n h erode k W H m g b p =
    subst (λ (x : ℕ). x ≤ n)
    (sym (ap (λ l. grid_bytes k W H l p) (once_bytes erode k W H m g) ∙ view_cells (outside_of k) (W + 15) (H + 15) made p))
    (either (inside (W + 15) (H + 15) p) (made p) (over_upto n h erode (mask_points m) (grid_bytes k W H g) b p))
  where
    made : Point → ℕ
    made = over erode (mask_points m) (grid_bytes k W H g)

    either : (c : Bool) (x : ℕ) → x ≤ n → cond c x (outside_of k) ≤ n
    either true x l = l
    either false x l = omega (arith, outside_low k)

-- each byte that a stage writes is what the rule gives of the grid read
pub once_gives : (erode : Bool) (k : Around) (W H m : ℕ) (g : List ℕ) → T (not (bad_cell (take (grid_size W H) g))) → (x y : ℕ) → x < W + 15 → y < H + 15
    → Gives erode (Mask m) (grid k W H g) ((pos x, pos y) -ᵖ corner k) (get_or (once erode k W H m g) (y * (W + 15) + x) 0)
once_gives erode k W H m g clean x y h l =
    subst (Gives erode (Mask m) (grid k W H g) ((pos x, pos y) -ᵖ corner k)) (sym (once_cell erode k W H m g x y h l))
    (over_makes erode (mask_points m) (grid k W H g) (grid_upto k W H g clean) ((pos x, pos y) -ᵖ corner k))
