-- Where every cell was measured, what a shape gives directly is the set that Minkowski's definitions make of the occupied points.
use mathlib.Core.Path.{◌≡◌, sym, subst}
use mathlib.Core.Logic.{◌↔◌, ◌⊎◌, inl, inr}
use mathlib.Core.Bool.{true, false}
use mathlib.Core.List.{List}
use Prim.Native.Nat.{ℕ, ◌≤◌}
use native.Mathlib.Omega.{arith}
use native.Mathlib.Decide.{ℕ_discrete}
use lib.IntN.{pos}
use lib.ListN.{get_or}
use Rattle.plane.specs.Point.{Point, PointSet, ◌≐◌}
use Rattle.plane.proofs.Algebra.{≐_refl, ≐_trans, ⊕_cong, ⊖_cong}
use Rattle.grids.specs.Frame.{occupied}
use Rattle.grids.proofs.Putting.{frame_upto}
use Rattle.grids.proofs.Rules.{makes_binary, dilation_set, erosion_set}
use Rattle.grids.proofs.Values.{Upto}
use Rattle.cleaning.specs.Operation.{Made, Direct, around, as_read}
use Rattle.cleaning.specs.Sets.{made, Says, DirectSet}
use Rattle.cleaning.specs.declared.Operation.{Operation}
use Rattle.cleaning.specs.declared.Operation.TheVariants.{Dilation, Erosion, Opening, Closing}
use Rattle.cleaning.proofs.Fixed.{direct_size, direct_cell}

pub made_set : (op : Operation) (A : PointSet) (f g : Point → ℕ) → Upto 1 f → Made op A f g → occupied g ≐ made op (occupied f) A
made_set Dilation A f g b m = dilation_set A f g b m
made_set Erosion A f g b m = erosion_set A f g b m
made_set Opening A f g b m =
    ≐_trans (dilation_set A m.0 g (makes_binary A f m.0 b true m.1) m.2) (⊕_cong (erosion_set A f m.0 b m.1) (≐_refl A))
made_set Closing A f g b m =
    ≐_trans (erosion_set A m.0 g (makes_binary A f m.0 b false m.1) m.2) (⊖_cong (dilation_set A f m.0 b m.1) (≐_refl A))

pub made_binary : (op : Operation) (A : PointSet) (f g : Point → ℕ) → Upto 1 f → Made op A f g → Upto 1 g
made_binary Dilation A f g b m = makes_binary A f g b false m
made_binary Erosion A f g b m = makes_binary A f g b true m
made_binary Opening A f g b m = makes_binary A m.0 g (makes_binary A f m.0 b true m.1) false m.2
made_binary Closing A f g b m = makes_binary A m.0 g (makes_binary A f m.0 b false m.1) true m.2

-- a cell that is 1 exactly where P holds, and never above 1, says whether P
pub says : (v : ℕ) (P : Type 0) → v ≤ 1 → (v ≡ 1 ↔ P) → Says v P
says v P h e = go (ℕ_discrete v 1)
  where
    go : Dec (v ≡ 1) → ((v ≡ 1) × P) ⊎ ((v ≡ 0) × ¬ P)
    go (yes q) = inl (q, e.0 q)
    go (no q) = inr (omega arith, λ x. q (e.1 x))

pub direct_set : (op : Operation) (W H : ℕ) (f : List ℕ) (A : PointSet) (r : List ℕ) → ((i : ℕ) → get_or f i 0 ≤ 1) → Direct op W H f A r
    → DirectSet op W H f A r
direct_set op W H f A r low D =
    let b = frame_upto 1 (omega arith) (around op) W H f low in
    record {
      size = direct_size op W H f A r D;
      cell = λ x y h k. let p : Point = (pos x, pos y) in
          let S = made op (occupied (as_read op W H f)) A p in
          subst (λ n. Says n S) (sym (direct_cell op W H f A r D x y h k))
          (says (D.picture p) S (made_binary op A (as_read op W H f) D.picture b D.made p)
          (made_set op A (as_read op W H f) D.picture b D.made p));
    }
