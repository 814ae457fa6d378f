-- An image whose cells are given one by one is, as a list, the cells of a picture followed by what stood past them.
use mathlib.Core.Path.{◌≡◌, refl, sym, ◌∙◌, ap}
use mathlib.Core.Logic.{⊎_elim}
use mathlib.Core.List.{List, [], ◌∷◌, ◌++◌}
use Prim.Native.Nat.{ℕ, zero, suc, ◌+◌, ◌-◌, ◌*◌, ◌<◌, ◌≤◌}
use native.Mathlib.Omega.{arith}
use native.Mathlib.Nat.{mul_comm, mul-le-mul_right, not-suc-le-zero, le_of_suc-le-suc}
use lib.IntN.{pos}
use lib.ListN.{length, get_or, drop, length-append, length-drop, get_or-append}
use lib.Seq.{ext_get_or, get_or-append-add, get_or-drop}
use Rattle.plane.specs.Point.{Point}
use Rattle.plane.proofs.Tests.{lt_or_le}
use Rattle.grids.specs.Image.{cells}
use Rattle.grids.proofs.Pictures.{at_places, get_d_cells, length_cells}
use Rattle.ranges.specs.Ranges.{Laid}

-- within a list it does not matter what is read past its end
pub get_d_any : (l : List ℕ) (n a b : ℕ) → n < length l → get_or l n a ≡ get_or l n b
get_d_any [] n a b h = absurd (not-suc-le-zero h)
get_d_any (x ∷ l) zero a b h = refl
get_d_any (x ∷ l) (suc n) a b h = get_d_any l n a b (le_of_suc-le-suc h)

module _ (w h : ℕ) (f : Point → ℕ) {F : ℕ → ℕ → ℕ} {d d' : List ℕ} (q : (x y : ℕ) → x < w → y < h → F x y ≡ f (pos x, pos y)) (fits : w * h ≤ length d)
    (t : Laid F w h d d') where
  size : length (cells w h f) ≡ w * h
  size = length_cells w h f ∙ mul_comm h w

  as_long : length d' ≡ length (cells w h f ++ drop (w * h) d)
  as_long = simp (length-append, length-drop, size) (omega (arith, t.len))

  inside : (i : ℕ) → i < w * h → get_or d' i 0 ≡ get_or (cells w h f ++ drop (w * h) d) i 0
  inside = at_places w h (λ j. get_or d' j 0 ≡ get_or (cells w h f ++ drop (w * h) d) j 0) (λ x y lx ly.
      let m = mul-le-mul_right {m = suc y} {n = h} w ly in
      t.at x y lx ly
      ∙ q x y lx ly
      ∙ sym (get_d_cells w h f x y 0 lx ly)
      ∙ sym (get_or-append (cells w h f) (drop (w * h) d) 0 (y * w + x) (omega (arith, size, mul_comm w h))))

  past : (i : ℕ) → w * h ≤ i → get_or d' i 0 ≡ get_or (cells w h f ++ drop (w * h) d) i 0
  past i l =
      let e : w * h + (i - w * h) ≡ i = omega arith in
      let e' : length (cells w h f) + (i - w * h) ≡ i = omega (arith, size) in
      t.past i l
      ∙ ap (λ (j : ℕ). get_or d j 0) (sym e)
      ∙ sym (get_or-drop (w * h) d (i - w * h) 0)
      ∙ sym (get_or-append-add (cells w h f) (drop (w * h) d) (i - w * h) 0)
      ∙ ap (λ (j : ℕ). get_or (cells w h f ++ drop (w * h) d) j 0) e'

  pub laid_is : d' ≡ cells w h f ++ drop (w * h) d
  laid_is =
      ext_get_or 0 d' (cells w h f ++ drop (w * h) d) as_long
      (λ i l. ⊎_elim (λ (u : i < w * h). inside i u) (λ (u : w * h ≤ i). past i u) (lt_or_le i (w * h)))
