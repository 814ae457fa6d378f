-- A part of the live frame on planes of its own: sizes fit, its levels are taken through the stages, and rows cut from the last planes are rows of what the
-- stages give in turn.
use mathlib.Core.Path.{◌≡◌, refl, sym, ◌∙◌, ap, subst, fun_ext}
use mathlib.Core.Bool.{Bool, true, false, cond, not}
use mathlib.Core.List.{List}
use Prim.Native.Nat.{ℕ, ◌+◌, ◌-◌, ◌*◌, ◌%◌, ◌≤◌, ◌<◌, zero-le}
use native.Mathlib.Omega.{arith}
use native.Mathlib.Nat.{mul_comm, mul-le-mul, mul-le-mul_right, add-mul}
use lib.Dec.{T, eqb, ltb}
use borrow.Author.Tests.{eq-eqb, lt-ltb, le-ltb}
use lib.IntN.{pos, neg_ℤ, ◌+ℤ◌, ◌-ℤ◌, +ℤ_assoc}
use lib.ListN.{length, get_or, drop, length-append, length-drop, get_or-append}
use borrow.Rule.Slice.PartMut.{mid_of, put_mid}
use Rattle.plane.specs.Point.{Point, ◌+ᵖ◌}
use Rattle.words.specs.Word.{place_x, place_y}
use Rattle.shapes.specs.Plan.{plan_masks, plan_offset}
use Rattle.grids.specs.Frame.{free, full, highest, bad_size, wrong_length, bad_cell}
use Rattle.grids.specs.Grid.{grid_bytes, put}
use Rattle.grids.specs.declared.Around.TheVariants.{Free}
use Rattle.grids.specs.Image.{view}
use Rattle.grids.proofs.Pictures.{get_d_cells, length_cells}
use Rattle.grids.proofs.Putting.{put_upto}
use Rattle.grids.proofs.Stage.{bytes_upto}
use Rattle.grids.proofs.Values.{Upto}
use Rattle.ranges.specs.Ranges.{over_front}
use Rattle.ranges.proofs.Tails.{put_size, put_front, put_tail}
use Rattle.cuts.specs.Cuts.{cut_out}
use Rattle.planes.specs.Bits.{level}
use Rattle.planes.specs.Planes.{byte_rows, plane_size, plane_cells, Shows, pack_fits, FramePacked, unpack_fits}
use Rattle.planes.proofs.Levels.{level_low}
use Rattle.planes.proofs.OnGrids.{packed_grid, grid_pack, grid_unpack, shown_cut, shows_front}
use Rattle.cleaning.specs.Operation.{in_turn}
use Rattle.cleaning.specs.declared.Operation.TheVariants.{Dilation}
use Rattle.cleaning.proofs.Upto.{last_upto}
use Rattle.frame_grounds.specs.Looking.{greatest_cell}
use Rattle.frame_grounds.proofs.Sides.{sides}
use Rattle.frame_grounds.proofs.Looked.{cell_below, cell_decides}
use Rattle.turn_steps.specs.Turns.{standing_image, PlaneRoom, Shown, Ended, Turnable}
use Rattle.result_steps.proofs.Reading.{cut_turn}
use Rattle.end_steps.specs.Ends.{Part, EndPart, EndRows}
use Rattle.end_steps.specs.PartLevels.{PartMeasured, PartRoom, part_stages, last_of_part, PartShown, LevelRun, KeptFront, SecondRun, LevelsRun}

-- ---- rows of a cut, s rows lower

lower : (r b s : ℕ) → pos r +ℤ (pos (b + s) -ℤ pos 15) ≡ pos (s + r) +ℤ (pos b -ℤ pos 15)
lower r b s =
    let e : r + (b + s) ≡ s + r + b = omega arith in
    sym (+ℤ_assoc (pos r) (pos (b + s)) (neg_ℤ (pos 15))) ∙ ap (λ n. pos n -ℤ pos 15) e ∙ +ℤ_assoc (pos (s + r)) (pos b) (neg_ℤ (pos 15))

cut_lower : (v W t e C R a b s : ℕ) (g : List ℕ) → s + t ≤ e → (x r : ℕ) → x < W → r < t
    → get_or (cut_out v W t C R a (b + s) g) (r * W + x) 0 ≡ get_or (cut_out v W e C R a b g) ((s + r) * W + x) 0
unfolding cut_out ◌+ᵖ◌
cut_lower v W t e C R a b s g l x r h k =
    get_d_cells W t _ x r 0 h k ∙ ap (λ z. view v C R g (pos x +ℤ (pos a -ℤ pos 15), z)) (lower r b s) ∙ sym (get_d_cells W e _ x (s + r) 0 h (omega arith))

cut_long : (v W t C R a b : ℕ) (g : List ℕ) → length (cut_out v W t C R a b g) ≡ t * W
unfolding cut_out
cut_long v W t C R a b g = length_cells W t _

-- ---- the bytes from o on, in whichever image the plane stands

cond_tail : (o : ℕ) (b : Bool) (i j : List ℕ) {t u : List ℕ} → drop o i ≡ t → drop o j ≡ u → cond b t u ≡ drop o (cond b i j)
cond_tail o true i j p q = sym p
cond_tail o false i j p q = sym q

cond_front : {C R o : ℕ} {f : Point → ℕ} (b : Bool) {i j i' j' : List ℕ} → plane_size C R ≤ o → KeptFront o i i' → KeptFront o j j' → Shows C R f (cond b i j)
    → Shows C R f (cond b i' j')
cond_front true l p q s = shows_front p.size (λ k h. p.front k (omega arith)) s
cond_front false l p q s = shows_front q.size (λ k h. q.front k (omega arith)) s

-- ---- what the greatest number among the cells tells

right_length : (W e : ℕ) (part : List ℕ) → length part ≡ e * W → wrong_length W e part ≡ false
right_length W e part s = ap not (eq-eqb (length part) (W * e) (s ∙ mul_comm e W))

module _ (W e : ℕ) (part : List ℕ) {g : ℕ} (s : bad_size W e ≡ false) (z : length part ≡ e * W) (q : g ≡ greatest_cell W e part) where
  decides : bad_cell part ≡ ltb highest g
  decides = sym (ap (ltb highest) q ∙ cell_decides W e part s (right_length W e part z))

  pub too_great : highest < g → T (not (bad_cell part)) → ⊥
  too_great l = subst (λ (b : Bool). T (not b) → ⊥) (sym (decides ∙ lt-ltb highest g l)) (λ t. t)

  pub none_great : g ≤ highest → T (not (bad_cell part))
  none_great l = subst (λ (b : Bool). T (not b)) (sym (decides ∙ le-ltb highest g l)) tt

-- ---- sizes

module _ {plan part : List ℕ} {W e : ℕ} (E : Part plan W e part) where
  pub most : (W ≤ 240) × (e ≤ 240)
  most = sides W e E.sides

  pub plane_small : plane_size (W + 15) (e + 15) ≤ 2058
  plane_small =
      let u : byte_rows (e + 15) + 2 ≤ 8 = omega (arith, E.rows) in
      let v : W + 15 + 2 ≤ 257 = omega (arith, most) in
      let m = mul-le-mul u v in
      omega (arith, m)

  all_cells : W * e ≤ length part
  all_cells = omega (arith, E.size, mul_comm W e)

  low : (k : ℕ) → get_or part k 0 ≤ highest
  low = bytes_upto 0 zero-le part E.clean

  -- ---- one level

  pub level_packs : (i : List ℕ) → plane_size (W + 15) (e + 15) ≤ length i → T (pack_fits free false W e (W + 15) (e + 15) (length part) (length i))
  level_packs i l =
      grid_pack W e most.0 most.1 free false W e (length part) (length i) zero-le (omega arith) (omega arith) all_cells l

  module _ (some : Bool) {i i₁ : List ℕ} (j : List ℕ) (room : PlaneRoom W e i j) (p : FramePacked some free false W e (W + 15) (e + 15) part i i₁) where
    pub level_turnable : Turnable plan W e i₁ j
    level_turnable = record {
      words = E.words;
      room = record { sides = E.sides; first = omega (arith, room.first, p.kept.len); second = room.second };
    }

    part_shown : Shown some free W e 0 (put Free W e part) i₁ j
    part_shown = subst (λ (g : Point → ℕ). Shows (W + 15) (e + 15) g i₁) (packed_grid some Free W e part all_cells low) p.shown

    pub level_run : {n : ℕ} {i₂ j₂ : List ℕ} → Ended Dilation plan W e i₁ j n i₂ j₂ → LevelRun some plan W e part i j n i₂ j₂
    level_run {n} {i₂} {j₂} q = record {
      count = q.count;
      first = record { size = q.first.size ∙ p.kept.len; rest = λ k l. q.first.rest k l ∙ p.kept.past k l };
      second = q.second;
      shown = subst (λ (m : ℕ). PartShown some plan W e part (standing_image m i₂ j₂)) q.count (q.shown some (put Free W e part) part_shown);
    }

  -- ---- the second

  pub second_run : (o : ℕ) {i j t u : List ℕ} {n : ℕ} → o ≤ length i → o ≤ length j
      → LevelRun true plan W e part (mid_of o (length i - o) i) (mid_of o (length j - o) j) n t u
      → SecondRun o plan W e part i j (put_mid o (length i - o) i t) (put_mid o (length j - o) j u)
  second_run o {i} {j} {t} {u} h l b = record {
    first = record { size = put_size o i t h b.first.size; front = put_front o i t h b.first.size };
    second = record { size = put_size o j u l b.second.size; front = put_front o j u l b.second.size };
    shown = subst (λ (x : List ℕ). PartShown true plan W e part x)
        (cond_tail o (eqb (part_stages plan % 2) 0) (put_mid o (length i - o) i t) (put_mid o (length j - o) j u) (put_tail o i t h b.first.size)
        (put_tail o j u l b.second.size)) b.shown;
  }

  -- ---- both

  abbrev last : List ℕ
  last = last_of_part plan W e part

  last_low : (n : ℕ) → 1 ≤ n → ((k : ℕ) → get_or part k 0 ≤ n) → Upto n (grid_bytes Free W e last)
  last_low n l h = last_upto n l Dilation W e (plan_masks plan) (put Free W e part) (put_upto n l Free W e part h)

  module _ {o : ℕ} {i j : List ℕ} (room : PartRoom o W e part i j) where
    pub run_one : {n : ℕ} {i₁ j₁ : List ℕ} → o ≡ 0 → LevelRun false plan W e part i j n i₁ j₁ → LevelsRun o plan W e part i j n i₁ j₁
    run_one {n} {i₁} {j₁} z b = subst (λ (m : ℕ). LevelsRun m plan W e part i j n i₁ j₁) (sym z) (record {
      count = b.count;
      first = b.first.size;
      second = b.second.size;
      one = b.shown;
      some = subst (λ (f : Point → ℕ). Shows (W + 15) (e + 15) f (standing_image (part_stages plan) i₁ j₁)) (fun_ext same) b.shown;
    })
      where
        same : (q : Point) → level false (grid_bytes Free W e last q) ≡ level true (grid_bytes Free W e last q)
        same q =
            let l = last_low full (omega arith) (room.one z) q in
            level_low false (grid_bytes Free W e last q) l ∙ sym (level_low true (grid_bytes Free W e last q) l)

    pub run_two : {n : ℕ} {i₁ j₁ i₂ j₂ : List ℕ} → (o ≡ 0 → ⊥) → LevelRun false plan W e part i j n i₁ j₁ → SecondRun o plan W e part i₁ j₁ i₂ j₂
        → LevelsRun o plan W e part i j n i₂ j₂
    run_two z b s = record {
      count = b.count;
      first = s.first.size ∙ b.first.size;
      second = s.second.size ∙ b.second.size;
      one = cond_front (eqb (part_stages plan % 2) 0) (room.two z) s.first s.second b.shown;
      some = s.shown;
    }

    pub still_room : {n : ℕ} {i₁ j₁ : List ℕ} → LevelRun false plan W e part i j n i₁ j₁ → PartRoom o W e part i₁ j₁
    still_room b = record {
      few = room.few;
      first = omega (arith, room.first, b.first.size);
      second = omega (arith, room.second, b.second.size);
      one = room.one;
      two = room.two;
    }

  -- ---- room

  pub one_room : {i j : List ℕ} → length i ≡ 2058 → length j ≡ 2058 → PartMeasured part → PartRoom 0 W e part i j
  one_room h l m = record {
    few = omega arith;
    first = omega (arith, plane_small);
    second = omega (arith, plane_small);
    one = λ _. m;
    two = λ n. absurd (n refl);
  }

  pub two_room : {i j : List ℕ} → length i ≡ 4116 → length j ≡ 4116 → PartRoom 2058 W e part i j
  two_room h l = record {
    few = omega arith;
    first = omega (arith, plane_small);
    second = omega (arith, plane_small);
    one = λ z. absurd (omega arith);
    two = λ _. plane_small;
  }

  -- no cell is above the greatest
  pub none_above : {g : ℕ} → g ≡ greatest_cell W e part → g ≤ full → PartMeasured part
  none_above q l k = omega (arith, q, cell_below W e part E.sides (right_length W e part E.size) k)

-- ---- the rows that are cut from the planes that stand

module _ {plan part d : List ℕ} {W e s t o : ℕ} (E : EndPart plan W e part s t d) {i j : List ℕ} (room : PartRoom o W e part i j)
    {n : ℕ} {i₁ j₁ : List ℕ} (q : LevelsRun o plan W e part i j n i₁ j₁) where
  abbrev x : ℕ
  x = 30 - place_x (get_or plan 1 0)

  abbrev y : ℕ
  y = 30 - place_y (get_or plan 1 0)

  fits_in : (p : List ℕ) → o + plane_size (W + 15) (e + 15) ≤ length p → T (unpack_fits o W t (W + 15) (e + 15) x (y + s) (length p) (length d))
  fits_in p z =
      let m = most E.whole in
      grid_unpack W e m.0 m.1 o W t x (y + s) (length p) (length d) room.few (omega arith) (omega (arith, E.near)) (omega arith)
      (omega (arith, E.whole.rows, E.near)) z (omega (arith, E.room, mul_comm W t))

  pub end_fits : T (unpack_fits o W t (W + 15) (e + 15) x (y + s) (length i₁) (length d))
      × T (unpack_fits o W t (W + 15) (e + 15) x (y + s) (length j₁) (length d))
  end_fits = (fits_in i₁ (omega (arith, room.first, q.first)), fits_in j₁ (omega (arith, room.second, q.second)))

  abbrev standing : List ℕ
  standing = standing_image (part_stages plan) i₁ j₁

  rows_of : {d' : List ℕ} → d' ≡ over_front (W * t) (cut_out free W t (W + 15) (e + 15) x (y + s) (plane_cells o (W + 15) (e + 15) standing)) d
      → EndRows plan W e part s t d d'
  rows_of {d'} c =
      record { size = ap length c ∙ length-append xs (drop (W * t) d) ∙ omega (arith, xs_long, length-drop (W * t) d, E.room, mul_comm W t); row = at }
    where
      xs : List ℕ
      xs = cut_out free W t (W + 15) (e + 15) x (y + s) (plane_cells o (W + 15) (e + 15) standing)

      xs_long : length xs ≡ t * W
      xs_long = cut_long free W t (W + 15) (e + 15) x (y + s) (plane_cells o (W + 15) (e + 15) standing)

      last : List ℕ
      last = last_of_part plan W e part

      at : (a r : ℕ) → a < W → r < t → get_or d' (r * W + a) 0 ≡ get_or (in_turn Dilation W e part (plan_offset plan) (plan_masks plan)) ((s + r) * W + a) 0
      at a r u v =
          let m = mul-le-mul_right {m = r + 1} {n = t} W (omega arith) in
          ap (λ (l : List ℕ). get_or l (r * W + a) 0) c
          ∙ get_or-append xs (drop (W * t) d) 0 (r * W + a) (omega (arith, m, xs_long, add-mul r 1 W))
          ∙ ap (λ (l : List ℕ). get_or l (r * W + a) 0)
          (shown_cut free o (W + 15) (e + 15) last standing q.one q.some (last_low E.whole highest (omega arith) (low E.whole)) W t x (y + s))
          ∙ cut_lower free W t e (W + 15) (e + 15) x y s last E.near a r u v
          ∙ ap (λ (l : List ℕ). get_or l ((s + r) * W + a) 0)
          (cut_turn Dilation plan W e part last (get_or plan 1 0) refl E.whole.across E.whole.down refl)

  pub end_rows : (p : List ℕ) {d' : List ℕ} → standing_image n i₁ j₁ ≡ p
      → d' ≡ over_front (W * t) (cut_out free W t (W + 15) (e + 15) x (y + s) (plane_cells o (W + 15) (e + 15) p)) d
      → EndRows plan W e part s t d d'
  end_rows p {d'} z = subst
      (λ (l : List ℕ). d' ≡ over_front (W * t)
      (cut_out free W t (W + 15) (e + 15) x (y + s) (plane_cells o (W + 15) (e + 15) l)) d → EndRows plan W e part s t d d')
      (ap (λ (m : ℕ). standing_image m i₁ j₁) (sym q.count) ∙ z) rows_of
