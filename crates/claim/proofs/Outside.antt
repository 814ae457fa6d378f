-- A frame that reads as occupied outside is the frame's occupied points joined to everything outside it; so erosion alone is that of these, and the other
-- operations are those of the frame's points.
use mathlib.Core.Path.{◌≡◌, refl, sym, ◌∙◌, ap, subst}
use mathlib.Core.Logic.{◌↔◌, ◌⊎◌, inl, inr}
use mathlib.Core.Bool.{not, cond, ◌&&◌}
use mathlib.Core.List.{List, [], ◌∷◌}
use Prim.Native.Nat.{ℕ, zero, suc, ◌+◌, ◌*◌, ◌<◌, ◌≤◌}
use native.Mathlib.Omega.{arith}
use native.Mathlib.Nat.{mul_comm, mul-le-mul_right, not-suc-le-zero, le_of_suc-le-suc}
use lib.Dec.{T, ltb, ltb→lt, lt→ltb}
use lib.IntN.{ℤ, pos, negsuc, nat_abs}
use lib.Signed.{non_neg}
use lib.ListN.{length, get_or}
use Rattle.plane.specs.Point.{Point, PointSet, ◌≐◌, dilation, opening, closing}
use Rattle.plane.proofs.Algebra.{≐_refl, ⊖_cong}
use Rattle.plane.proofs.Tests.{T_and, T_dec, T_true, T_false, clash}
use Rattle.grids.specs.Frame.{free, full, frame, occupied}
use Rattle.grids.specs.Image.{value_at}
use Rattle.cleaning.specs.declared.Operation.{Operation}
use Rattle.cleaning.specs.declared.Operation.TheVariants.{Dilation, Erosion, Opening, Closing}
use Rattle.cleaning.specs.Operation.{as_read}
use Rattle.cleaning.specs.Sets.{made, Says, DirectSet}
use Rattle.claim.specs.Minkowski.{frame_points, with_outside, operation_made, PartShows}

-- a byte that is there is read whatever is read past the end
pub read_same : (l : List ℕ) (i u v : ℕ) → i < length l → get_or l i u ≡ get_or l i v
read_same [] i u v h = absurd (not-suc-le-zero h)
read_same (a ∷ l) zero u v h = refl
read_same (a ∷ l) (suc i) u v h = read_same l i u v (le_of_suc-le-suc h)

-- what is below 0 is not 0 or more
apart : {n k : ℕ} → negsuc n ≡ pos k → ⊥
apart e = subst T (sym (ap non_neg e)) tt

module _ (W H : ℕ) (f : List ℕ) (fits : W * H ≤ length f) where
  -- a cell of the frame is the same for either value outside
  cell_same : (x y : ℕ) → T (ltb x W && ltb y H) → value_at full W H f (pos x) (pos y) ≡ value_at free W H f (pos x) (pos y)
  unfolding value_at
  cell_same x y t =
      let u = (T_and (ltb x W) (ltb y H)).0 t in
      let a = ltb→lt x W u.0 in
      let m = mul-le-mul_right {m = suc y} {n = H} W (ltb→lt y H u.1) in
      ap (λ b. cond b (get_or f (y * W + x) full) full) (T_true (ltb x W && ltb y H) t)
      ∙ read_same f (y * W + x) full free (omega (arith, mul_comm W H))
      ∙ sym (ap (λ b. cond b (get_or f (y * W + x) free) free) (T_true (ltb x W && ltb y H) t))

  frame_joined : occupied (frame full W H f) ≐ with_outside W H f
  unfolding value_at
  frame_joined p = go p.0 p.1
    where
      Is : ℤ → ℤ → Type 0
      Is x y = (value_at full W H f x y ≡ full) ↔ ((value_at free W H f x y ≡ full) ⊎ ((a b : ℕ) → a < W → b < H → ¬ (◌≡◌ {A = Point} (x, y) (pos a, pos b))))

      -- inside the frame, and outside it
      cell : (x y : ℕ) → T (ltb x W && ltb y H) ⊎ T (not (ltb x W && ltb y H)) → Is (pos x) (pos y)
      cell x y (inl t) =
          let e = cell_same x y t in
          let u = (T_and (ltb x W) (ltb y H)).0 t in (
            λ h. inl (sym e ∙ h),
            back e (ltb→lt x W u.0) (ltb→lt y H u.1),
          )
        where
          back : value_at full W H f (pos x) (pos y) ≡ value_at free W H f (pos x) (pos y) → x < W → y < H
              → (value_at free W H f (pos x) (pos y) ≡ full) ⊎ ((a b : ℕ) → a < W → b < H → ¬ (◌≡◌ {A = Point} (pos x, pos y) (pos a, pos b)))
              → value_at full W H f (pos x) (pos y) ≡ full
          back e h k (inl z) = e ∙ z
          back e h k (inr n) = absurd (n x y h k refl)
      cell x y (inr t) = (
        λ h. inr (λ a b h k q. clash (ltb x W && ltb y H) t (moved a b h k q)),
        λ h. ap (λ b. cond b (get_or f (y * W + x) full) full) (T_false (ltb x W && ltb y H) t),
      )
        where
          moved : (a b : ℕ) → a < W → b < H → ◌≡◌ {A = Point} (pos x, pos y) (pos a, pos b) → T (ltb x W && ltb y H)
          moved a b h k q =
              let i : x ≡ a = ap (λ z. nat_abs z.0) q in
              let j : y ≡ b = ap (λ z. nat_abs z.1) q in
              (T_and (ltb x W) (ltb y H)).1 (lt→ltb x W (omega arith), lt→ltb y H (omega arith))

      go : (x y : ℤ) → Is x y
      go (pos x) (pos y) = cell x y (T_dec (ltb x W && ltb y H))
      go (pos x) (negsuc y) = (λ h. inr (λ a b h k q. apart (ap (λ z. z.1) q)), λ h. refl)
      go (negsuc x) y = (λ h. inr (λ a b h k q. apart (ap (λ z. z.0) q)), λ h. refl)

  -- what a cell says of P it says of what is the same as P
  says_same : {P Q : Type 0} (v : ℕ) → P ↔ Q → Says v P → Says v Q
  says_same v q (inl h) = inl (h.0, q.0 h.1)
  says_same v q (inr h) = inr (h.0, λ z. h.1 (q.1 z))

  -- so each operation makes what demand 2 says of the frame
  made_is : (op : Operation) (A : PointSet) → made op (occupied (as_read op W H f)) A ≐ operation_made op W H f A
  made_is Dilation A = ≐_refl (dilation (frame_points W H f) A)
  made_is Erosion A = ⊖_cong frame_joined (≐_refl A)
  made_is Opening A = ≐_refl (opening (frame_points W H f) A)
  made_is Closing A = ≐_refl (closing (frame_points W H f) A)

  pub direct_shows : (op : Operation) (A : PointSet) (r : List ℕ) → DirectSet op W H f A r → PartShows W H (operation_made op W H f A) r
  direct_shows op A r d =
      record { size = d.size; cell = λ x y h k. says_same (get_or r (y * W + x) 0) (made_is op A (pos x, pos y)) (d.cell x y h k) }
