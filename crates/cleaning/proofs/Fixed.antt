-- What a shape gives directly fixes the cells: a rule gives one value at each point. It goes by the set of the shape's points.
use mathlib.Core.Path.{◌≡◌, sym, ◌∙◌, ap, subst, fun_ext}
use mathlib.Core.Bool.{Bool, true, false}
use mathlib.Core.List.{List}
use Prim.Native.Nat.{ℕ, ◌+◌, ◌*◌, ◌<◌}
use native.Mathlib.Nat.{mul_comm}
use lib.IntN.{pos}
use lib.ListN.{length, get_or}
use lib.Seq.{ext_get_or}
use Rattle.plane.specs.Point.{Point, PointSet, ◌≐◌}
use Rattle.grids.specs.Image.{cells}
use Rattle.grids.specs.Rules.{Makes}
use Rattle.grids.proofs.Pictures.{at_places, get_d_cells, length_cells}
use Rattle.grids.proofs.Rules.{gives_once, gives_set}
use Rattle.cleaning.specs.Operation.{Made, Direct, as_read}
use Rattle.cleaning.specs.declared.Operation.{Operation}
use Rattle.cleaning.specs.declared.Operation.TheVariants.{Dilation, Erosion, Opening, Closing}

-- lists of W × H cells that are the same at each cell are the same
pub cells_once : (W H : ℕ) (r s : List ℕ) → length r ≡ W * H → length s ≡ W * H
    → ((x y : ℕ) → x < W → y < H → get_or r (y * W + x) 0 ≡ get_or s (y * W + x) 0) → r ≡ s
cells_once W H r s e f same = ext_get_or 0 r s (e ∙ sym f) (λ k h. at_places W H (λ n. get_or r n 0 ≡ get_or s n 0) same k (subst (λ n. k < n) e h))

-- ---- one picture

makes_once : (erode : Bool) (A : PointSet) (f g h : Point → ℕ) → Makes erode A f g → Makes erode A f h → g ≡ h
makes_once erode A f g h a b = fun_ext (λ p. gives_once erode A f p (g p) (h p) (a p) (b p))

pub made_once : (op : Operation) (A : PointSet) (f g h : Point → ℕ) → Made op A f g → Made op A f h → g ≡ h
made_once Dilation A f g h a b = makes_once false A f g h a b
made_once Erosion A f g h a b = makes_once true A f g h a b
made_once Opening A f g h a b =
    let e = makes_once true A f a.0 b.0 a.1 b.1 in makes_once false A b.0 g h (subst (λ k. Makes false A k g) e a.2) b.2
made_once Closing A f g h a b =
    let e = makes_once false A f a.0 b.0 a.1 b.1 in makes_once true A b.0 g h (subst (λ k. Makes true A k g) e a.2) b.2

pub direct_once : (op : Operation) (W H : ℕ) (f : List ℕ) (A : PointSet) (r s : List ℕ) → Direct op W H f A r → Direct op W H f A s → r ≡ s
direct_once op W H f A r s D E =
    D.cut ∙ ap (cells W H) (made_once op A (as_read op W H f) D.picture E.picture D.made E.made) ∙ sym E.cut

-- ---- its cells

module _ (op : Operation) (W H : ℕ) (f : List ℕ) (A : PointSet) (r : List ℕ) (D : Direct op W H f A r) where
  pub direct_size : length r ≡ W * H
  direct_size = ap length D.cut ∙ length_cells W H D.picture ∙ mul_comm H W

  pub direct_cell : (x y : ℕ) → x < W → y < H → get_or r (y * W + x) 0 ≡ D.picture (pos x, pos y)
  direct_cell x y h k = ap (λ l. get_or l (y * W + x) 0) D.cut ∙ get_d_cells W H D.picture x y 0 h k

-- ---- equal sets of points

makes_same : (A B : PointSet) (f g : Point → ℕ) → A ≐ B → (Makes false A f g → Makes false B f g) × (Makes true A f g → Makes true B f g)
makes_same A B f g e = ((λ m p. gives_set false A B f p e (g p) (m p)), λ m p. gives_set true A B f p e (g p) (m p))

pub made_same : (op : Operation) (A B : PointSet) (f g : Point → ℕ) → A ≐ B → Made op A f g → Made op B f g
made_same Dilation A B f g e m = (makes_same A B f g e).0 m
made_same Erosion A B f g e m = (makes_same A B f g e).1 m
made_same Opening A B f g e m = (m.0, (makes_same A B f m.0 e).1 m.1, (makes_same A B m.0 g e).0 m.2)
made_same Closing A B f g e m = (m.0, (makes_same A B f m.0 e).0 m.1, (makes_same A B m.0 g e).1 m.2)

pub same_direct : (op : Operation) (W H : ℕ) (f : List ℕ) (A B : PointSet) (r : List ℕ) → A ≐ B → Direct op W H f A r → Direct op W H f B r
same_direct op W H f A B r e D = record { picture = D.picture; made = made_same op A B (as_read op W H f) D.picture e D.made; cut = D.cut }
