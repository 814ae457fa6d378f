-- A grid whose levels are packed and taken through a stage: what is written from the planes is the grid after it.
use mathlib.Core.Path.{◌≡◌, refl, sym, ◌∙◌, ap, subst, fun_ext}
use mathlib.Core.Bool.{Bool, true, false}
use mathlib.Core.List.{List, ◌++◌}
use Prim.Native.Nat.{ℕ, ◌+◌, ◌-◌, ◌*◌, ◌/◌, ◌<◌, ◌≤◌, zero-le}
use native.Mathlib.Nat.{mul-le-mul, mul_comm}
use native.Mathlib.Omega.{arith}
use lib.Dec.{T}
use lib.ListN.{length, get_or, take, drop}
use lib.Seq.{get_or-take}
use borrow.Rule.Slice.PartMut.{mid_of, put_mid}
use Rattle.plane.specs.Point.{Point}
use Rattle.grids.specs.Image.{view}
use Rattle.grids.specs.Frame.{grid_size, highest}
use Rattle.grids.specs.Grid.{outside_of, grid_bytes, once, written}
use Rattle.grids.specs.declared.Around.{Around}
use Rattle.grids.proofs.Values.{Upto}
use Rattle.grids.proofs.Stage.{bytes_upto, view_upto, once_size, outside_low, grid_bytes_upto, once_upto}
use Rattle.frame_grounds.proofs.Sides.{sides}
use Rattle.cuts.specs.Cuts.{cut_out}
use Rattle.cuts.proofs.OnGrids.{cut_whole}
use Rattle.ranges.specs.Ranges.{over_front}
use Rattle.ranges.proofs.Whole.{get_d_any}
use Rattle.ranges.proofs.Tails.{put_size, put_front, put_tail}
use Rattle.planes.specs.Bits.{level}
use Rattle.planes.specs.Planes.{byte_rows, plane_size, Shows, PlaneOnly, level_bits, pack_fits, FramePacked, stage_fits, PlaneTaken, plane_cells, unpack_fits}
use Rattle.planes.proofs.Levels.{level_low}
use Rattle.planes.proofs.OnGrids.{level_view, after_once, near_place, plane_fits, kept_drop, grid_pack, grid_stage, grid_unpack, shown_cut, shows_front}
use Rattle.frame_calls.specs.Staging.{StageReady, GridMeasured, PlanesReady, LevelTaken, SecondTaken, LevelsTaken}

module _ (erode : Bool) (k : Around) (W H m : ℕ) {g i : List ℕ} (r : StageReady W H g i) where
  abbrev C : ℕ
  C = W + 15

  abbrev R : ℕ
  R = H + 15

  abbrev v : ℕ
  v = outside_of k

  abbrev after : List ℕ
  after = once erode k W H m g

  size : (W ≤ 240) × (H ≤ 240)
  size = sides W H r.sides

  low : (n : ℕ) → n < C * R → get_or g n 0 ≤ highest
  low n l = subst (λ x. x ≤ highest) (get_or-take (grid_size W H) g n 0 l) (bytes_upto 0 zero-le (take (grid_size W H) g) r.cells n)

  after_low : Upto highest (grid_bytes k W H after)
  after_low = once_upto highest (omega arith) erode k W H m g (grid_bytes_upto k W H g r.cells)

  -- ---- one level

  pub packs : T (pack_fits v false C R C R (length g) (length i))
  packs = grid_pack W H size.0 size.1 v false C R (length g) (length i) (outside_low k) (omega arith) (omega arith) r.read
      (omega (arith, r.room, plane_fits W H))

  module _ {some : Bool} {i₁ : List ℕ} (a : FramePacked some v false C R C R g i i₁) where
    pub stages : (p₀ : List ℕ) → plane_size C R ≤ length p₀ → T (stage_fits v C R (length i₁) (length p₀))
    stages p₀ l = grid_stage W H size.0 size.1 v (length i₁) (length p₀) (outside_low k) (omega (arith, a.kept.len, r.room, plane_fits W H)) l

    pub level_taken : {p₀ p : List ℕ} → PlaneTaken erode v C R m i₁ p₀ p → LevelTaken some erode k W H m g i p₀ i₁ p
    level_taken {p₀} {p} b = record {
      packed = a.kept;
      kept = b.kept;
      shown = subst (λ (f : Point → ℕ). Shows C R f p) (after_once some erode k W H m g)
          (b.shown (λ q. level some (grid_bytes k W H g q))
          (subst (λ (f : Point → ℕ). Shows C R f i₁)
          (near_place (view v C R (level_bits some g)) ∙ level_view some v C R g (outside_low k) r.read low) a.shown));
    }

  -- the image that was packed into is as ready as it was
  pub still_ready : {i₁ : List ℕ} → PlaneOnly C R i i₁ → StageReady W H g i₁
  still_ready a = record { sides = r.sides; cells = r.cells; read = r.read; room = omega (arith, r.room, a.len) }

  -- ---- the second level

  pub second_taken : (o : ℕ) {p i₁ t : List ℕ} → o + plane_size C R ≤ length p
      → LevelTaken true erode k W H m g i (mid_of o (length p - o) p) i₁ t → SecondTaken o erode k W H m g i p i₁ (put_mid o (length p - o) p t)
  second_taken o {p} {i₁} {t} l b =
      let h : o ≤ length p = omega arith in record {
        packed = b.packed;
        size = put_size o p t h b.kept.len;
        front = put_front o p t h b.kept.len;
        shown = subst (λ (x : List ℕ). Shows C R (λ q. level true (grid_bytes k W H after q)) x) (sym (put_tail o p t h b.kept.len)) b.shown;
      }

  -- ---- both

  after_binary : GridMeasured W H g → Upto 1 (grid_bytes k W H after)
  after_binary b = once_upto 1 (omega arith) erode k W H m g (view_upto 1 v C R g (outside_low k) (λ n l.
      let h : n < grid_size W H = omega (arith, mul_comm R C) in
      subst (λ x. x ≤ 1) (get_d_any g n 0 v (omega (arith, r.read))) (b n h)))

  pub held_one : {o : ℕ} {p i₁ p₁ : List ℕ} → PlanesReady o W H g p → o ≡ 0 → LevelTaken false erode k W H m g i p i₁ p₁
      → LevelsTaken o erode k W H m g i p i₁ p₁
  held_one {o} {p} {i₁} {p₁} q z b = subst (λ (n : ℕ). LevelsTaken n erode k W H m g i p i₁ p₁) (sym z) (record {
    packed = b.packed;
    size = b.kept.len;
    one = b.shown;
    some = subst (λ (f : Point → ℕ). Shows C R f p₁) (fun_ext same) b.shown;
  })
    where
      same : (x : Point) → level false (grid_bytes k W H after x) ≡ level true (grid_bytes k W H after x)
      same x =
          let l = after_binary (q.one z) x in
          level_low false (grid_bytes k W H after x) l ∙ sym (level_low true (grid_bytes k W H after x) l)

  only_then : {a b c : List ℕ} → PlaneOnly C R a b → PlaneOnly C R b c → PlaneOnly C R a c
  only_then x y = record { len = y.len ∙ x.len; past = λ n l. y.past n l ∙ x.past n l }

  pub held_two : {o : ℕ} {p i₁ p₁ i₂ p₂ : List ℕ} → PlanesReady o W H g p → (o ≡ 0 → ⊥) → LevelTaken false erode k W H m g i p i₁ p₁
      → SecondTaken o erode k W H m g i₁ p₁ i₂ p₂ → LevelsTaken o erode k W H m g i p i₂ p₂
  held_two q z b s = record {
    packed = only_then b.packed s.packed;
    size = s.size ∙ b.kept.len;
    one = shows_front s.size (λ n l. s.front n (omega (arith, q.two z))) b.shown;
    some = s.shown;
  }

  module _ {o : ℕ} {p i₂ p₂ : List ℕ} (h : LevelsTaken o erode k W H m g i p i₂ p₂) where
    pub unpacks : PlanesReady o W H g p → T (unpack_fits o C R C R 15 15 (length p₂) (length i₂))
    unpacks q =
        grid_unpack W H size.0 size.1 o C R 15 15 (length p₂) (length i₂) q.few (omega arith) (omega arith) (omega arith) (omega arith)
        (omega (arith, q.room, h.size)) (omega (arith, h.packed.len, r.room))

    -- all cells of the planes are those of the grid
    whole : cut_out v C R C R 15 15 (plane_cells o C R p₂) ≡ after
    whole = shown_cut v o C R after p₂ h.one h.some after_low C R 15 15 ∙ cut_whole v C R after (once_size erode k W H m g)

    pub stage_written : {i₃ : List ℕ} → i₃ ≡ over_front (C * R) (cut_out v C R C R 15 15 (plane_cells o C R p₂)) i₂ → i₃ ≡ written W H after i
    stage_written e = e ∙ ap (λ l. l ++ drop (grid_size W H) i₂) whole ∙ ap (λ l. after ++ l) (kept_drop W H h.packed)

  -- ---- room for planes

  plane_most : (n : ℕ) → W ≤ n → H ≤ n → plane_size C R ≤ ((n + 22) / 8 + 2) * (n + 17) + 2
  plane_most n a b =
      let u : byte_rows R + 2 ≤ (n + 22) / 8 + 2 = omega arith in
      let c : C + 2 ≤ n + 17 = omega arith in
      let l : (byte_rows R + 2) * (C + 2) ≤ ((n + 22) / 8 + 2) * (n + 17) = mul-le-mul u c in
      omega arith

  -- a plane as long as the longest has room for every one, and one of 974 bytes for every one of at most 64 columns and rows
  pub plane_large : plane_size C R ≤ 8740
  plane_large = plane_most 240 size.0 size.1

  pub plane_small : W ≤ 64 → H ≤ 64 → plane_size C R ≤ 974
  plane_small a b = plane_most 64 a b

  pub one_ready : {p : List ℕ} → plane_size C R ≤ length p → GridMeasured W H g → PlanesReady 0 W H g p
  one_ready l b = record { few = omega arith; room = omega arith; one = λ _. b; two = λ n. absurd (n refl) }

  pub two_ready : {n : ℕ} {p : List ℕ} → plane_size C R ≤ n → n ≤ 65535 → n + n ≤ length p → PlanesReady n W H g p
  two_ready l f e = record { few = f; room = omega arith; one = λ z. absurd (omega arith); two = λ _. l }
