-- The load is the number of the frame's points whose cell is occupied, and so it is with those that were measured: the frame's cells are the picture's at
-- these points, one after the other.
use mathlib.Core.Path.{◌≡◌, refl, sym, ◌∙◌, ap, subst}
use mathlib.Core.Bool.{Bool, true, false, cond, not}
use mathlib.Core.List.{List, [], ◌∷◌, map}
use Prim.Native.Nat.{ℕ, zero, suc, ◌*◌, ◌<◌}
use native.Mathlib.Nat.{mul_comm}
use lib.Dec.{eqb}
use lib.ListN.{length, get_or, length-map}
use lib.Seq.{ext_get_or}
use Rattle.plane.specs.Lists.{keep}
use Rattle.plane.specs.Point.{Point, origin}
use Rattle.grids.specs.Frame.{free, full, unmeasured, frame, load}
use Rattle.grids.specs.Share.{measured}
use Rattle.grids.specs.Image.{cells}
use Rattle.grids.proofs.Pictures.{at_places, cells_view, get_d_cells, length_cells}

get_d_map : {A B : Type 0} (F : A → B) (l : List A) (i : ℕ) (d : A) → get_or (map F l) i (F d) ≡ F (get_or l i d)
get_d_map F [] i d = refl
get_d_map F (a ∷ l) zero d = refl
get_d_map F (a ∷ l) (suc i) d = get_d_map F l i d

-- the cells of a picture are its values at the points of W columns and H rows
cells_map : (W H : ℕ) (F : Point → ℕ) → map F (cells W H (λ p. p)) ≡ cells W H F
cells_map W H F =
    ext_get_or (F origin) (map F P) (cells W H F) (length-map P F ∙ length_cells W H (λ p. p) ∙ sym (length_cells W H F))
    (λ i h. at_places W H (λ k. get_or (map F P) k (F origin) ≡ get_or (cells W H F) k (F origin))
    (λ x y a b. get_d_map F P _ origin ∙ ap F (get_d_cells W H (λ p. p) x y origin a b) ∙ sym (get_d_cells W H F x y (F origin) a b)) i
    (subst (λ n. i < n) (length-map P F ∙ length_cells W H (λ p. p) ∙ mul_comm H W) h))
  where
    P : List Point
    P = cells W H (λ p. p)

keep_map : (q : ℕ → Bool) (F : Point → ℕ) (l : List Point) → length (keep q (map F l)) ≡ length (keep (λ p. q (F p)) l)
keep_map q F [] = refl
keep_map q F (p ∷ l) = go (q (F p)) (keep_map q F l)
  where
    go : (b : Bool) → length (keep q (map F l)) ≡ length (keep (λ a. q (F a)) l)
        → length (cond b (F p ∷ keep q (map F l)) (keep q (map F l))) ≡ length (cond b (p ∷ keep (λ a. q (F a)) l) (keep (λ a. q (F a)) l))
    go true e = ap suc e
    go false e = e

-- the cells that pass a test are as many as the points whose cell does
kept_points : (q : ℕ → Bool) (W H : ℕ) (f : List ℕ) → length f ≡ W * H → length (keep q f) ≡ length (keep (λ p. q (frame free W H f p)) (cells W H (λ p. p)))
kept_points q W H f e =
    ap (λ l. length (keep q l)) (sym (cells_map W H (frame free W H f) ∙ cells_view free W H f e)) ∙ keep_map q (frame free W H f) (cells W H (λ p. p))

pub load_points : (W H : ℕ) (f : List ℕ) → length f ≡ W * H → load f ≡ length (keep (λ p. eqb (frame free W H f p) full) (cells W H (λ p. p)))
unfolding load
load_points W H f e = kept_points (λ v. eqb v full) W H f e

pub measured_points_lem : (W H : ℕ) (f : List ℕ) → length f ≡ W * H
    → measured f ≡ length (keep (λ p. not (eqb (frame free W H f p) unmeasured)) (cells W H (λ p. p)))
unfolding measured
measured_points_lem W H f e = kept_points (λ v. not (eqb v unmeasured)) W H f e
