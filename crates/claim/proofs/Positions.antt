-- What the rule of normal position shows of the cells: they are moved, row 0 and column 0 have one, and no other mask shows it.
use mathlib.Core.Path.{◌≡◌, refl, sym, ◌∙◌, ap, subst}
use mathlib.Core.Logic.{◌⊎◌, ◌≢◌, inl, inr, ⊎_elim}
use mathlib.Core.List.{List, [], ◌∷◌}
use Prim.Native.Nat.{ℕ, ◌+◌, ◌*◌, ◌/◌, ◌%◌, ◌^◌, ◌<◌}
use native.Mathlib.Omega.{arith}
use lib.Dec.{T, eqb, eqb→eq}
use lib.IntN.{pos, nat_abs}
use Rattle.plane.specs.Lists.{In}
use Rattle.plane.specs.Point.{Point, Cell, point, origin, ◌+ᵖ◌, ◌≐◌, moved}
use Rattle.plane.proofs.Algebra.{≐_trans, ≐_sym, +ᵖ_cancel}
use Rattle.plane.proofs.Member.{In-map}
use Rattle.plane.proofs.Tests.{T_dec, clash, eq-eqb}
use Rattle.masks.specs.Mask.{Mask, mask_cells, mask_points, normal, normal_of, column_shift, row_shift, NormalPosition}
use Rattle.masks.proofs.Cells.{Low, normal_low, stage_below, same_move}
use Rattle.masks.proofs.Normal.{normal_move, normal_or_zero}
use Rattle.rows.specs.Cells.{AtMask, bit, Same}
use Rattle.rows.proofs.Bridge.{points_same, same_points, mask_points_lem}
use Rattle.rows.proofs.RowBits.{bit_cut, bits_ext}
use Rattle.claim.specs.Shows.{PositionShows}

-- bits above the ninth are no cells
nine_bits : (m : ℕ) → Mask (m % 512) ≐ Mask m
nine_bits m = ≐_trans (≐_sym (mask_points_lem (m % 512))) (≐_trans (points_same (AtMask (m % 512)) (AtMask m) origin same) (mask_points_lem m))
  where
    cut : (i j : ℕ) → i < 3 → j < 3 → bit (m % 2 ^ 9) (3 * j + i) ≡ bit m (3 * j + i)
    cut i j p q = bit_cut m 9 (3 * j + i) (omega arith)

    same : Same (AtMask (m % 512)) (AtMask m)
    same = record {
      to = λ i j c. record { column = c.column; row = c.row; set = sym (cut i j c.column c.row) ∙ c.set };
      from = λ i j c. record { column = c.column; row = c.row; set = cut i j c.column c.row ∙ c.set };
    }

module _ (m n : ℕ) (p : NormalPosition (m % 512) n) where
  -- the argument has no cell, and 0 is answered, or the answer is normal and a mask
  one_of : ((m % 512 ≡ 0) × (n ≡ 0)) ⊎ (T (normal n) × (n < 512))
  one_of = ⊎_elim
      (λ z. inl (z.0, p.entry ∙ z.1))
      (λ s. inr (subst (λ k. T (normal k) × (k < 512)) (sym p.entry)
      (s.1, ⊎_elim (λ e. subst (λ k. k < 512) (sym e) (omega arith)) (stage_below (normal_of (m % 512))) s.2)))
      (normal_or_zero (m % 512) (omega arith))

  pub below_512 : n < 512
  below_512 = ⊎_elim (λ z. subst (λ k. k < 512) (sym z.1) (omega arith)) (λ s. s.1) one_of

  abbrev shift : Point
  shift = (pos (column_shift (m % 512)), pos (row_shift (m % 512)))

  back : Mask m ≐ moved shift (Mask n)
  back = ≐_trans (≐_sym (nine_bits m)) (subst (λ k. Mask (m % 512) ≐ moved shift (Mask k)) (sym p.entry) (normal_move (m % 512) (omega arith)))

  -- where the argument has a cell the answer touches both axes
  low : (q : Point) → Mask m q → Low (mask_cells n)
  unfolding mask_cells
  low q h = ⊎_elim
      (λ z. let o : Mask 0 q = subst (λ k. Mask k q) z.0 ((nine_bits m q).1 h) in absurd o)
      (λ s. normal_low n s.0)
      one_of

  cell_in : (c : Cell) → In (mask_cells n) c → Mask n (point c)
  cell_in c h = (In-map point (mask_cells n) (point c)).1 (c, h, refl)

  pub position_shown : PositionShows m n
  position_shown = record {
    mask = below_512;
    columns = column_shift (m % 512);
    rows = row_shift (m % 512);
    move = back;
    row_0 = λ q h. let l = low q h in (pos l.y.0, subst (λ k. Mask n (pos l.y.0, pos k)) l.y_zero (cell_in l.y l.y_in));
    column_0 = λ q h. let l = low q h in (pos l.x.1, subst (λ k. Mask n (pos k, pos l.x.1)) l.x_zero (cell_in l.x l.x_in));
    none = λ empty. ⊎_elim
        (λ z. z.1)
        (λ s. let l = normal_low n s.0 in
        let q = point l.x +ᵖ shift in
        absurd (empty q ((back q).1 (subst (Mask n) (sym (+ᵖ_cancel (point l.x) shift)) (cell_in l.x l.x_in)))))
        one_of;
  }

-- ---- no other mask shows it

-- masks of nine bits with the same points are equal
mask_once : (a b : ℕ) → a < 512 → b < 512 → Mask a ≐ Mask b → a ≡ b
mask_once a b p q e = bits_ext 9 a b p q each
  where
    same : Same (AtMask a) (AtMask b)
    same = same_points (AtMask a) (AtMask b) origin (≐_trans (mask_points_lem a) (≐_trans e (≐_sym (mask_points_lem b))))

    digit : (u v : ℕ) → (u % 2 ≡ 1 → v % 2 ≡ 1) → (v % 2 ≡ 1 → u % 2 ≡ 1) → u % 2 ≡ v % 2
    digit u v f g = ⊎_elim (λ t. let e = eqb→eq (u % 2) 1 t in e ∙ sym (f e)) (λ t. zero (λ e. clash (eqb (u % 2) 1) t (eq-eqb e))) (T_dec (eqb (u % 2) 1))
      where
        zero : u % 2 ≢ 1 → u % 2 ≡ v % 2
        zero n = let w : v % 2 ≢ 1 = λ e. n (g e) in omega arith

    each : (k : ℕ) → k < 9 → bit a k ≡ bit b k
    each k l =
        let at : 3 * (k / 3) + k % 3 ≡ k = omega arith in
        digit (a / 2 ^ k) (b / 2 ^ k)
        (λ h. subst (λ i. bit b i ≡ 1) at
        (same.to (k % 3) (k / 3) (record { column = omega arith; row = omega arith; set = subst (λ i. bit a i ≡ 1) (sym at) h })).set)
        (λ h. subst (λ i. bit a i ≡ 1) at
        (same.from (k % 3) (k / 3) (record { column = omega arith; row = omega arith; set = subst (λ i. bit b i ≡ 1) (sym at) h })).set)

-- a list has a member, or none
some : (l : List Point) → ((q : Point) × In l q) ⊎ ((q : Point) → ¬ In l q)
some [] = inr (λ q h. h)
some (q ∷ l) = inl (q, inl refl)

shown_low : (m n : ℕ) (q : Point) → In (mask_points m) q → PositionShows m n → Low (mask_cells n)
shown_low m n q h p =
    let r = p.row_0 q h in
    let c = p.column_0 q h in
    let y = (In-map point (mask_cells n) (r.0, pos 0)).0 r.1 in
    let x = (In-map point (mask_cells n) (pos 0, c.0)).0 c.1 in
    record {
      x = x.0;
      x_in = x.1;
      x_zero = sym (ap (λ z. nat_abs z.0) x.2);
      y = y.0;
      y_in = y.1;
      y_zero = sym (ap (λ z. nat_abs z.1) y.2);
    }

pub position_once : (m a b : ℕ) → PositionShows m a → PositionShows m b → a ≡ b
position_once m a b p q = ⊎_elim (λ c. mask_once a b p.mask q.mask (same c.0 c.1)) (λ e. p.none e ∙ sym (q.none e)) (some (mask_points m))
  where
    same : (c : Point) → In (mask_points m) c → Mask a ≐ Mask b
    same c h =
        let d : Point = (pos p.columns, pos p.rows) in
        let e : Point = (pos q.columns, pos q.rows) in
        let both : moved d (Mask a) ≐ moved e (Mask b) = ≐_trans (≐_sym p.move) q.move in
        let k = same_move (mask_cells a) (mask_cells b) d e both (shown_low m a c h p) (shown_low m b c h q) in
        let t = subst (λ f. moved d (Mask a) ≐ moved f (Mask b)) (sym k) both in
        λ r. (
          λ u. subst (Mask b) (+ᵖ_cancel r d) ((t (r +ᵖ d)).0 (subst (Mask a) (sym (+ᵖ_cancel r d)) u)),
          λ u. subst (Mask a) (+ᵖ_cancel r d) ((t (r +ᵖ d)).1 (subst (Mask b) (sym (+ᵖ_cancel r d)) u)),
        )
