-- A frame that is packed: its planes show both levels of the grid that it is put into.
use mathlib.Core.Path.{◌≡◌, sym, ◌∙◌, subst, fun_ext}
use mathlib.Core.Bool.{Bool, true, false}
use mathlib.Core.List.{List}
use Prim.Native.Nat.{ℕ, ◌+◌, ◌-◌, ◌≤◌}
use native.Mathlib.Omega.{arith}
use lib.Dec.{T}
use lib.ListN.{length, get_or}
use borrow.Rule.Slice.PartMut.{mid_of, put_mid, mid_len}
use Rattle.plane.specs.Point.{Point}
use Rattle.grids.specs.Frame.{full}
use Rattle.grids.specs.Grid.{outside_of, grid_bytes, put}
use Rattle.grids.specs.declared.Around.{Around}
use Rattle.grids.specs.declared.Around.TheVariants.{Free, Occupied}
use Rattle.grids.proofs.Putting.{put_upto}
use Rattle.grids.proofs.Stage.{outside_low}
use Rattle.frame_grounds.proofs.Sides.{sides}
use Rattle.planes.specs.Bits.{level}
use Rattle.planes.specs.Planes.{plane_size, Shows, place_of, far_of, pack_fits, FramePacked, Packed}
use Rattle.planes.proofs.Levels.{level_low}
use Rattle.planes.proofs.OnGrids.{packed_grid, planes_fit, kept_drop, grid_pack, shows_front}
use Rattle.cleaning.specs.declared.Operation.{Operation}
use Rattle.cleaning.specs.Operation.{around}
use Rattle.turn_steps.proofs.Alternating.{kept_past}
use Rattle.ranges.proofs.Tails.{put_tail}
use Rattle.result_steps.proofs.Behind.{behind}
use Rattle.clean_calls.specs.Packing.{FramePackable, FrameShown, SecondPacked, LevelsPacked}

-- a frame that is packed for one operation
pub by_kind : (op o : Operation) → op ≡ o → {some : Bool} {W H : ℕ} {f d : List ℕ} {r : Bool} {d' : List ℕ}
    → Packed some (outside_of (around o)) (far_of (around o)) W H (W + 15) (H + 15) f d r d'
    → Packed some (outside_of (around op)) (far_of (around op)) W H (W + 15) (H + 15) f d r d'
by_kind op o e {some} {W} {H} {f} {d} {r} {d'} p =
    subst (λ a. Packed some (outside_of (around a)) (far_of (around a)) W H (W + 15) (H + 15) f d r d') (sym e) p

module _ (k : Around) (W H : ℕ) (f : List ℕ) where
  abbrev size : ℕ
  size = plane_size (W + 15) (H + 15)

  -- it goes into a plane
  pub packs : {two : Bool} {i : List ℕ} (d : List ℕ) → FramePackable two W H f i → size ≤ length d
      → T (pack_fits (outside_of k) (far_of k) W H (W + 15) (H + 15) (length f) (length d))
  packs d q h =
      let s = sides W H q.sides in
      let l = place_low k in
      grid_pack W H s.0 s.1 (outside_of k) (far_of k) W H (length f) (length d) (outside_low k) (omega arith) (omega arith) q.cells h
    where
      place_low : (k : Around) → place_of (far_of k) ≤ 15
      place_low Free = omega arith
      place_low Occupied = omega arith

  -- which shows a level of the grid
  pub packed_shows : (some : Bool) {two : Bool} {i d d' : List ℕ} → FramePackable two W H f i
      → FramePacked some (outside_of k) (far_of k) W H (W + 15) (H + 15) f d d' → FrameShown some k W H f d'
  packed_shows some {d' = d'} q p = subst (λ (g : Point → ℕ). Shows (W + 15) (H + 15) g d') (packed_grid some k W H f q.cells q.upto) p.shown

  -- where no cell is 2 the levels are the same
  both_shown : {p : List ℕ} → ((i : ℕ) → get_or f i 0 ≤ full) → FrameShown false k W H f p → FrameShown true k W H f p
  both_shown {p} b s = subst (λ (g : Point → ℕ). Shows (W + 15) (H + 15) g p) (fun_ext same) s
    where
      same : (q : Point) → level false (grid_bytes k W H (put k W H f) q) ≡ level true (grid_bytes k W H (put k W H f) q)
      same q =
          let l = put_upto 1 (omega arith) k W H f b q in
          level_low false (grid_bytes k W H (put k W H f) q) l ∙ sym (level_low true (grid_bytes k W H (put k W H f) q) l)

  -- ---- the second plane

  module _ {two : Bool} {i : List ℕ} (q : FramePackable two W H f i) where
    pub first_long : size ≤ length i
    first_long = let g = planes_fit W H in omega (arith, q.room)

    pub second_starts : {o : ℕ} → o ≡ size → o ≤ length i
    second_starts e = omega (arith, e, first_long)

    tail_long : size ≤ length (mid_of size (length i - size) i)
    tail_long = let g = planes_fit W H in omega (arith, q.room, mid_len size (length i) i (omega arith))

    pub tail_packs : {o : ℕ} → o ≡ size → T (pack_fits (outside_of k) (far_of k) W H (W + 15) (H + 15) (length f) (length (mid_of o (length i - o) i)))
    tail_packs e =
        subst (λ (n : ℕ). T (pack_fits (outside_of k) (far_of k) W H (W + 15) (H + 15) (length f) (length (mid_of n (length i - n) i)))) (sym e)
        (packs (mid_of size (length i - size) i) q tail_long)

    second_at_lem : {t : List ℕ} → FramePacked true (outside_of k) (far_of k) W H (W + 15) (H + 15) f (mid_of size (length i - size) i) t
        → SecondPacked k W H f i (put_mid size (length i - size) i t)
    second_at_lem {t} p = record {
      kept = behind W H i q.room (kept_past p.kept);
      shown = subst (λ (x : List ℕ). FrameShown true k W H f x) (sym (put_tail size i t first_long p.kept.len)) (packed_shows true q p);
    }

    pub second_packed : {o : ℕ} {t : List ℕ} → o ≡ size
        → FramePacked true (outside_of k) (far_of k) W H (W + 15) (H + 15) f (mid_of o (length i - o) i) t
        → SecondPacked k W H f i (put_mid o (length i - o) i t)
    second_packed {o} {t} e =
        subst (λ (n : ℕ). FramePacked true (outside_of k) (far_of k) W H (W + 15) (H + 15) f (mid_of n (length i - n) i) t
        → SecondPacked k W H f i (put_mid n (length i - n) i t)) (sym e) second_at_lem

    -- ---- both levels

    module _ {i₁ : List ℕ} (p : FramePacked false (outside_of k) (far_of k) W H (W + 15) (H + 15) f i i₁) where
      pub one_packed : two ≡ false → LevelsPacked two k W H f i i₁
      one_packed b = subst (λ (t : Bool). LevelsPacked t k W H f i i₁) (sym b) (record {
        size = p.kept.len;
        past = kept_drop W H p.kept;
        one = packed_shows false q p;
        some = both_shown (q.alone b) (packed_shows false q p);
      })

      pub two_packed : {i' : List ℕ} → two ≡ true → SecondPacked k W H f i₁ i' → LevelsPacked two k W H f i i'
      two_packed {i'} b s = subst (λ (t : Bool). LevelsPacked t k W H f i i') (sym b) (record {
        size = s.kept.size ∙ p.kept.len;
        past = s.kept.rest ∙ kept_drop W H p.kept;
        one = shows_front s.kept.size s.kept.front (packed_shows false q p);
        some = s.shown;
      })

      pub still_packable : two ≡ true → FramePackable true W H f i₁
      still_packable b = record {
        sides = q.sides;
        cells = q.cells;
        upto = q.upto;
        alone = λ e. absurd (subst T e tt);
        room = omega (arith, q.room, p.kept.len);
      }
