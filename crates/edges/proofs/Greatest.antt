-- The greatest values on rows, a row at a time: a direction goes one way along x, so on a row it is greatest at the first or at the last cell. From the
-- greatest values of three directions comes a number: it is not below 0 by the balance at the middle direction's cell, nor large by that at the first one's.
use mathlib.Core.Path.{◌≡◌, refl, sym, ap, subst, ◌∙◌}
use mathlib.Core.Logic.{◌⊎◌, inl, inr, ⊎_elim}
use mathlib.Core.List.{List}
use Prim.Native.Nat.{ℕ, ◌+◌, ◌*◌, ◌≤◌, ◌<◌, min, max}
use native.Mathlib.Omega.{arith}
use native.Mathlib.Nat.{mul-add, mul-le-mul_left}
use lib.ListN.{get_or, replicate}
use Rattle.rows.specs.Cells.{At, Same, bit}
use Rattle.rows.proofs.RowBits.{no_bit}
use Rattle.rows.proofs.Sums.{Rows16, in_x, in_y, last_or, zero_at}
use Rattle.edges.specs.Edges.{plus_x, minus_x, ahead, behind, Top, first_direction, second_direction, middle_of, times_of, Number}
use Rattle.plane.proofs.Tests.{lt_or_le}
use Rattle.edges.specs.Numbers.{FirstIn, LastIn, Greater, Supported, Attained, Clipped, Topped, RowTopped, Fits, Front, Numbered}
use Rattle.edges.proofs.Adding.{number_same}
use Rattle.edges.proofs.Directions.{ahead_small, behind_small, one_way, inside, balance}

-- ---- what max and min answer
pub greater_is : (a b r : ℕ) → r ≡ max a b → Greater a b r
greater_is a b r e = record {
  left = omega arith;
  right = omega arith;
  one = ⊎_elim (λ l. inr (omega arith)) (λ l. inl (omega arith)) (lt_or_le a b);
}

pub clipped_is : (n r : ℕ) → r ≡ min n 16 → Clipped n r
clipped_is n r e = record { small = omega arith; kept = omega arith; rows = λ y l k. omega arith }

-- ---- a row more
pub raised_one : (i first last y s v r : ℕ) → v + behind i first y ≡ ahead i last y + 64 → Greater s v r → Supported i first last y s r
raised_one i first last y s v r e g = record {
  kept = g.left;
  over = omega (arith, g.right);
  one = ⊎_elim (λ w. inl w) (λ w. inr (omega arith)) g.one;
}

-- over no value the row's own is kept: with its 64 more it is not 0
pub raised_none : (i first last y s r : ℕ) → i < 16 → first < 16 → y < 16 → s ≡ 0 → Supported i first last y s r → ahead i last y + 64 ≡ behind i first y + r
raised_none i first last y s r l p q e w = ⊎_elim (λ z. absurd (omega (arith, w.over, behind_small i first y l p q))) (λ e. e) w.one

module _ (i : ℕ) (l : i < 16) (row y first last : ℕ) (f : FirstIn row first) (g : LastIn row last) where
  -- a cell of the row is not above the row's greatest value
  under : (x : ℕ) → bit row x ≡ 1 → (ahead i x y ≤ ahead i last y) × (behind i first y ≤ behind i x y)
  under x h = (omega (arith, mul-le-mul_left (plus_x i) (g.all x h)), omega (arith, mul-le-mul_left (minus_x i) (f.all x h)))

  -- the row has a cell with that value
  pub row_topped : (r : ℕ) → ahead i last y + 64 ≡ behind i first y + r → RowTopped i row y r
  row_topped r e = ⊎_elim
      (λ z. record { all = below; x = first; cell = f.cell; at = omega (arith, ap (λ (k : ℕ). k * first) z, ap (λ (k : ℕ). k * last) z) })
      (λ z. record { all = below; x = last; cell = g.cell; at = omega (arith, ap (λ (k : ℕ). k * first) z, ap (λ (k : ℕ). k * last) z) })
      (one_way i l)
    where
      below : (x : ℕ) → bit row x ≡ 1 → ahead i x y + 64 ≤ behind i x y + r
      below x h = let p = under x h in omega arith

module _ (i : ℕ) (cells : List ℕ) where
  pub topped_none : Topped i cells 0 0
  topped_none = record { all = λ x y h l. absurd (omega arith); some = inl refl }

  more : (n r : ℕ) → Attained i cells n r → Attained i cells (n + 1) r
  more n r a = record { x = a.x; y = a.y; cell = a.cell; before = omega (arith, a.before); at = a.at }

  -- a row without a cell changes nothing
  pub topped_skip : (y s : ℕ) → get_or cells y 0 ≡ 0 → Topped i cells y s → Topped i cells (y + 1) s
  topped_skip y s e t = record {
    all = λ u v h l. ⊎_elim
        (λ q. absurd (no_bit u (ap (λ (k : ℕ). bit k u) (sym e) ∙ subst (λ (k : ℕ). At cells u k) q h)))
        (λ q. t.all u v h q)
        (last_or v y l);
    some = ⊎_elim (λ z. inl z) (λ a. inr (more y s a)) t.some;
  }

  module _ (l : i < 16) (y first last : ℕ) (f : FirstIn (get_or cells y 0) first) (g : LastIn (get_or cells y 0) last) where
    reached : (r : ℕ) → ahead i last y + 64 ≡ behind i first y + r → Attained i cells (y + 1) r
    reached r e = let t = row_topped i l _ y _ _ f g r e in record { x = t.x; y = y; cell = t.cell; before = omega arith; at = t.at }

    pub topped_row : (s r : ℕ) → Topped i cells y s → Supported i first last y s r → Topped i cells (y + 1) r
    topped_row s r t w = record {
      all = λ u v h k. ⊎_elim
          (λ q. subst (λ (k : ℕ). ahead i u k + 64 ≤ behind i u k + r) (sym q)
          (let p = under i l _ y _ _ f g u (subst (λ (k : ℕ). At cells u k) q h) in omega (arith, w.over)))
          (λ q. omega (arith, t.all u v h q, w.kept))
          (last_or v y k);
      some = ⊎_elim
          (λ e. subst (λ (k : ℕ). (k ≡ 0) ⊎ Attained i cells (y + 1) k) (sym e) (⊎_elim (λ z. inl z) (λ a. inr (more y s a)) t.some))
          (λ e. inr (reached r e))
          w.one;
    }

-- ---- numbers
-- t times both sides of what a greatest value is
scaled : (t a b r : ℕ) → a + 64 ≡ b + r → t * a + t * 64 ≡ t * b + t * r
scaled t a b r e = omega (arith, mul-add t a 64, mul-add t b r, ap (λ (k : ℕ). t * k) e)

scaled_le : (t a b r : ℕ) → a + 64 ≤ b + r → t * a + t * 64 ≤ t * b + t * r
scaled_le t a b r e = omega (arith, mul-add t a 64, mul-add t b r, mul-le-mul_left t e)

-- of one cell: what the three directions count ahead (a, a', a'') and behind, and the greatest values r, r', r'' of all cells
module _ (t a a' a'' b b' b'' r r' r'' : ℕ) where
  low_of : a + a' + t * b'' ≡ b + b' + t * a'' → a + 64 ≤ b + r → a' + 64 ≤ b' + r' → a'' + 64 ≡ b'' + r'' → t * r'' + 128 ≤ r + r' + t * 64
  low_of e p q h = omega (arith, scaled t a'' b'' r'' h)

  high_of : a + a' + t * b'' ≡ b + b' + t * a'' → a + 64 ≡ b + r → b' ≤ 60 → r' ≤ 124 → a'' + 64 ≤ b'' + r'' → r + r' + t * 64 ≤ t * r'' + 248
  high_of e p k q h = omega (arith, scaled_le t a'' b'' r'' h)

  value_of : (v : ℕ) → a + 64 ≡ b + r → a' + 64 ≡ b' + r' → a'' + 64 ≡ b'' + r'' → v + (t * r'' + 128) ≡ r + r' + t * 64
      → v + (b + b' + t * a'') ≡ a + a' + t * b''
  value_of v p q h e = omega (arith, scaled t a'' b'' r'' h)

-- where there is a cell the greatest value, with its 64 more, is not 0
not_zero : (cells : List ℕ) → Rows16 cells → (i : ℕ) → i < 16 → (n r : ℕ) → Topped i cells n r → (x y : ℕ) → At cells x y → y < n → r ≡ 0 → ⊥
not_zero cells w i l n r t x y h k z = omega (arith, t.all x y h k, behind_small i x y l (in_x cells w x y h) (in_y cells w x y h))

-- s are the greatest values on the cells before row n, of which there is one
module _ (cells : List ℕ) (w : Rows16 cells) (n : ℕ) (s : List ℕ) (tops : (i : ℕ) → i < 16 → Topped i cells n (get_or s i 0)) (some : get_or s 0 0 ≡ 0 → ⊥) where
  attained : (i : ℕ) → i < 16 → Attained i cells n (get_or s i 0)
  attained i l = ⊎_elim
      (λ z. absurd (some z))
      (λ a. ⊎_elim
      (λ z. absurd (not_zero cells w i l n _ (tops i l) a.x a.y a.cell a.before z))
      (λ b. b)
      (tops i l).some)
      (tops 0 (omega arith)).some

  small_top : (i : ℕ) → i < 16 → get_or s i 0 ≤ 124
  small_top i l = let a = attained i l in
      omega (arith, a.at, ahead_small i a.x a.y l (in_x cells w a.x a.y a.cell) (in_y cells w a.x a.y a.cell))

  module _ (i : ℕ) (l : i < 18) where
    first_in : first_direction i < 16
    first_in = omega (arith, (inside i l).first)

    second_in : second_direction i < 16
    second_in = omega (arith, (inside i l).second)

    middle_in : middle_of i < 16
    middle_in = omega (arith, (inside i l).middle)

    pub fits : Fits (get_or s (first_direction i) 0) (get_or s (second_direction i) 0) (get_or s (middle_of i) 0) (times_of i)
    fits =
        let a = attained (first_direction i) first_in in
        let c = attained (middle_of i) middle_in in
        record {
          first = small_top (first_direction i) first_in;
          second = small_top (second_direction i) second_in;
          middle = small_top (middle_of i) middle_in;
          times = (inside i l).times;
          low = low_of (times_of i) _ _ _ _ _ _ _ _ _ (balance i l c.x c.y) ((tops (first_direction i) first_in).all c.x c.y c.cell c.before)
              ((tops (second_direction i) second_in).all c.x c.y c.cell c.before) c.at;
          high = high_of (times_of i) _ _ _ _ _ _ _ _ _ (balance i l a.x a.y) a.at
              (behind_small (second_direction i) a.x a.y second_in (in_x cells w a.x a.y a.cell) (in_y cells w a.x a.y a.cell))
              (small_top (second_direction i) second_in) ((tops (middle_of i) middle_in).all a.x a.y a.cell a.before);
        }

  top_of : (i : ℕ) (l : i < 16) → Top i (Front cells n) (attained i l).x (attained i l).y
  top_of i l = let a = attained i l in record {
    cell = record { cell = a.cell; before = a.before };
    above = λ u v g. let q = (tops i l).all u v g.cell g.before in omega (arith, a.at);
  }

  pub number_of_lem : (i : ℕ) → i < 18 → (v : ℕ)
      → v + (times_of i * get_or s (middle_of i) 0 + 128) ≡ get_or s (first_direction i) 0 + get_or s (second_direction i) 0 + times_of i * 64 → Number i (Front cells n) v
  number_of_lem i l v e =
      let a = attained (first_direction i) (first_in i l) in
      let b = attained (second_direction i) (second_in i l) in
      let c = attained (middle_of i) (middle_in i l) in
      record {
        x1 = a.x;
        y1 = a.y;
        x2 = b.x;
        y2 = b.y;
        x3 = c.x;
        y3 = c.y;
        first = top_of (first_direction i) (first_in i l);
        second = top_of (second_direction i) (second_in i l);
        middle = top_of (middle_of i) (middle_in i l);
        value = value_of (times_of i) _ _ _ _ _ _ _ _ _ v a.at b.at c.at e;
      }

-- ---- rows before n that the window has
module _ (cells : List ℕ) (w : Rows16 cells) (n k : ℕ) (c : Clipped n k) (s : List ℕ) (tops : (i : ℕ) → i < 16 → Topped i cells k (get_or s i 0)) where
  -- the cells before row k are those before row n
  clips : Same (Front cells k) (Front cells n)
  clips = record {
    to = λ x y f. record { cell = f.cell; before = omega (arith, f.before, c.kept) };
    from = λ x y f. record { cell = f.cell; before = c.rows y (in_y cells w x y f.cell) f.before };
  }

  pub numbered_none : get_or s 0 0 ≡ 0 → Numbered cells n (replicate 18 0)
  numbered_none z = record {
    number = λ x y f. let g = clips.from x y f in absurd (not_zero cells w 0 (omega arith) k _ (tops 0 (omega arith)) x y g.cell g.before z);
    none = λ f i. zero_at 18 i;
  }

  pub numbered_all : (get_or s 0 0 ≡ 0 → ⊥) → (r : List ℕ)
      → ((i : ℕ) → i < 18 → get_or r i 0 + (times_of i * get_or s (middle_of i) 0 + 128)
      ≡ get_or s (first_direction i) 0 + get_or s (second_direction i) 0 + times_of i * 64)
      → Numbered cells n r
  numbered_all some r e = record {
    number = λ x y f i l. number_same clips (number_of_lem cells w k s tops some i l (get_or r i 0) (e i l));
    none = λ f.
        let a = attained cells w k s tops some 0 (omega arith) in
        absurd (f a.x a.y (clips.to a.x a.y (record { cell = a.cell; before = a.before })));
  }

-- where all cells lie before row n, those before it are all
pub front_all : (cells : List ℕ) (n : ℕ) → ((x y : ℕ) → At cells x y → y < n) → Same (Front cells n) (At cells)
front_all cells n h = record { to = λ x y f. f.cell; from = λ x y c. record { cell = c; before = h x y c } }
