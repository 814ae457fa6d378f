-- A part of a frame will do for the whole. Where a place of the part is no nearer to an edge of it than the points reach, or that edge is the frame's own,
-- what an operation makes of the part there is what it makes of the frame: every cell that is covered lies in the part, or outside both.
use mathlib.Core.Path.{◌≡◌, refl, sym, ◌∙◌, ap, ap₂}
use mathlib.Core.Logic.{◌↔◌, ◌⊎◌, inl, inr}
use mathlib.Core.Bool.{Bool, true, false, not, cond, ◌&&◌}
use mathlib.Core.List.{List}
use Prim.Native.Nat.{ℕ, suc, ◌+◌, ◌-◌, ◌*◌, ◌≤◌, ◌<◌}
use native.Mathlib.Omega.{arith}
use native.Mathlib.Nat.{le_refl}
use lib.Dec.{T, ltb, lt→ltb}
use lib.IntN.{ℤ, pos, negsuc, ◌+ℤ◌, nat_abs}
use lib.ListN.{get_or}
use Rattle.plane.specs.Lists.{In}
use Rattle.plane.specs.Point.{Point, ◌+ᵖ◌}
use Rattle.plane.proofs.Integer.{diff_ge, diff_lt}
use Rattle.plane.proofs.Tests.{lt_or_le, not_ltb}
use Rattle.shapes.specs.Shape.{out_of_range}
use Rattle.grids.specs.Frame.{free, frame}
use Rattle.grids.specs.Image.{value_at}
use Rattle.cleaning.specs.Operation.{Made}
use Rattle.cleaning.specs.declared.Operation.{Operation}
use Rattle.rolling.specs.Rolling.{greatest_y, DilatedTo}
use Rattle.rolling.proofs.Local.{within, within_rows}

-- ---- along one axis: n of N places, from place a on

-- a number of 0 to n − 1
in_range : ℕ → ℤ → Bool
in_range n (pos k) = ltb k n
in_range n (negsuc k) = false

-- u is a place of the part and v the same place of the whole, or both are outside
abbrev Along : ℕ → ℕ → ℕ → ℤ → ℤ → Type 0
Along n N a u v = ((k : ℕ) × (k < n) × (u ≡ pos k) × (v ≡ pos (a + k))) ⊎ (T (not (in_range n u)) × T (not (in_range N v)))

-- the place x is no nearer than m to an edge of the part, or that edge is the whole's own
pub record Amid (n N a m x : ℕ) : Type 0 where
  pub inner : a + n ≤ N
  pub here : x < n
  pub first : (a ≡ 0) ⊎ (m ≤ x)
  pub last : (a + n ≡ N) ⊎ (x + m < n)

along : (n N a m x : ℕ) (z : ℤ) → Amid n N a m x → nat_abs z ≤ m → Along n N a (pos x +ℤ z) (pos (a + x) +ℤ z)
unfolding in_range
along n N a m x z A h = go z h A.first A.last
  where
    Goal : ℤ → Type 0
    Goal z = Along n N a (pos x +ℤ z) (pos (a + x) +ℤ z)

    go : (z : ℤ) → nat_abs z ≤ m → (a ≡ 0) ⊎ (m ≤ x) → (a + n ≡ N) ⊎ (x + m < n) → Goal z
    go (pos j) h f l = on (lt_or_le (x + j) n) l
      where
        on : (x + j < n) ⊎ (n ≤ x + j) → (a + n ≡ N) ⊎ (x + m < n) → Goal (pos j)
        on (inl k) l = inl (x + j, k, refl, ap pos (omega arith))
        on (inr k) (inl e) = inr (not_ltb (x + j) n k, not_ltb (a + x + j) N (omega arith))
        on (inr k) (inr l) = absurd (omega arith)
    go (negsuc j) h f l = on (lt_or_le x (suc j)) f
      where
        on : (x < suc j) ⊎ (suc j ≤ x) → (a ≡ 0) ⊎ (m ≤ x) → Goal (negsuc j)
        on (inr k) f = let b = A.here in inl (x - suc j, omega arith, diff_ge x (suc j) k, diff_ge (a + x) (suc j) (omega arith) ∙ ap pos (omega arith))
        on (inl k) (inr f) = absurd (omega arith)
        on (inl k) (inl e) = inr (outside n x k, outside N (a + x) (omega arith))
          where
            outside : (n x : ℕ) → x < suc j → T (not (in_range n (pos x +ℤ negsuc j)))
            outside n x k = rw (diff_lt x (suc j) k) tt

-- ---- cells: w columns and h rows of a frame of W and H, from column a and row b on, with the value v outside

module _ (v W H w h a b : ℕ) (f g : List ℕ) (same : (x y : ℕ) → x < w → y < h → get_or g (y * w + x) v ≡ get_or f ((b + y) * W + (a + x)) v) where
  cut : (c d : Bool) (m n : ℕ) → T c → T d → m ≡ n → cond (c && d) m v ≡ n
  cut true true m n t u e = e
  cut true false m n t u e = absurd u
  cut false d m n t u e = absurd t

  no_column : (W H : ℕ) (l : List ℕ) (x y : ℤ) → T (not (in_range W x)) → value_at v W H l x y ≡ v
  unfolding value_at in_range
  no_column W H l (negsuc x) y t = refl
  no_column W H l (pos x) (negsuc y) t = refl
  no_column W H l (pos x) (pos y) t = go (ltb x W) t
    where
      go : (c : Bool) → T (not c) → cond (c && ltb y H) (get_or l (y * W + x) v) v ≡ v
      go true t = absurd t
      go false t = refl

  no_row : (W H : ℕ) (l : List ℕ) (x y : ℤ) → T (not (in_range H y)) → value_at v W H l x y ≡ v
  unfolding value_at in_range
  no_row W H l (negsuc x) y t = refl
  no_row W H l (pos x) (negsuc y) t = refl
  no_row W H l (pos x) (pos y) t = go (ltb x W) (ltb y H) t
    where
      go : (c d : Bool) → T (not d) → cond (c && d) (get_or l (y * W + x) v) v ≡ v
      go true true t = absurd t
      go true false t = refl
      go false d t = refl

  both_in : (x y : ℕ) → x < w → y < h → a + w ≤ W → b + h ≤ H → value_at v w h g (pos x) (pos y) ≡ value_at v W H f (pos (a + x)) (pos (b + y))
  unfolding value_at
  both_in x y k l i j =
      let n = get_or f ((b + y) * W + (a + x)) v in
      cut (ltb x w) (ltb y h) (get_or g (y * w + x) v) n (lt→ltb x w k) (lt→ltb y h l) (same x y k l)
      ∙ sym (cut (ltb (a + x) W) (ltb (b + y) H) n n (lt→ltb (a + x) W (omega arith)) (lt→ltb (b + y) H (omega arith)) refl)

  -- no farther from (x, y) than m columns and n rows, the part's cells are the frame's
  pub part_cell : (m n x y : ℕ) (d : Point) → Amid w W a m x → Amid h H b n y → nat_abs d.0 ≤ m → nat_abs d.1 ≤ n
      → frame v w h g ((pos x, pos y) +ᵖ d) ≡ frame v W H f ((pos (a + x), pos (b + y)) +ᵖ d)
  unfolding ◌+ᵖ◌
  part_cell m n x y d A B p q = go (along w W a m x d.0 A p) (along h H b n y d.1 B q)
    where
      u : ℤ
      u = pos x +ℤ d.0

      u' : ℤ
      u' = pos (a + x) +ℤ d.0

      s : ℤ
      s = pos y +ℤ d.1

      s' : ℤ
      s' = pos (b + y) +ℤ d.1

      go : Along w W a u u' → Along h H b s s' → value_at v w h g u s ≡ value_at v W H f u' s'
      go (inr t) r = no_column w h g u s t.0 ∙ sym (no_column W H f u' s' t.1)
      go (inl t) (inr r) = no_row w h g u s r.0 ∙ sym (no_row W H f u' s' r.1)
      go (inl t) (inl r) =
          ap₂ (value_at v w h g) t.2 r.2 ∙ both_in t.0 r.0 t.1 r.1 A.inner B.inner ∙ sym (ap₂ (value_at v W H f) t.3 r.3)

  -- points that pass ground 8, at a place that is 15 from the edges: each of the four operations
  pub part_made : (op : Operation) (P : List Point) → T (not (out_of_range P)) → (x y : ℕ) → Amid w W a 15 x → Amid h H b 15 y → (g' f' : Point → ℕ)
      → Made op (In P) (frame v w h g) g' → Made op (In P) (frame v W H f) f' → g' (pos x, pos y) ≡ f' (pos (a + x), pos (b + y))
  part_made op P o x y A B g' f' m n =
      within P o op (frame v w h g) (frame v W H f) g' f' (pos x, pos y) (pos (a + x), pos (b + y)) m n (λ d k. part_cell 15 15 x y d A B k.0 k.1)

-- ---- whole rows: h of the rows of a frame, from row a on, and the dilation at a row no nearer to an end than the greatest |y|

pub part_dilation : (W H h a : ℕ) (f g : List ℕ) → ((x y : ℕ) → x < W → y < h → get_or g (y * W + x) 0 ≡ get_or f ((a + y) * W + x) 0)
    → (P : List Point) (x y : ℕ) → x < W → Amid h H a (greatest_y P) y
    → (v : ℕ) → DilatedTo W h g (In P) (pos x, pos y) v ↔ DilatedTo W H f (In P) (pos x, pos (a + y)) v
part_dilation W H h a f g same P x y l B = within_rows P (frame free W h g) (frame free W H f) (pos x, pos y) (pos x, pos (a + y)) cell
  where
    same' : (x y : ℕ) → x < W → y < h → get_or g (y * W + x) free ≡ get_or f ((a + y) * W + (0 + x)) free
    same' x y h k = same x y h k ∙ ap (λ n. get_or f ((a + y) * W + n) 0) (omega arith)

    cell : (d : Point) → nat_abs d.1 ≤ greatest_y P → frame free W h g ((pos x, pos y) +ᵖ d) ≡ frame free W H f ((pos x, pos (a + y)) +ᵖ d)
    cell d n =
        let A : Amid W W 0 (nat_abs d.0) x = record { inner = omega arith; here = l; first = inl refl; last = inl (omega arith) } in
        part_cell free W H W h 0 a f g same' (nat_abs d.0) (greatest_y P) x y d A B (le_refl (nat_abs d.0)) n
        ∙ ap (λ k. frame free W H f ((pos k, pos (a + y)) +ᵖ d)) (omega arith)
