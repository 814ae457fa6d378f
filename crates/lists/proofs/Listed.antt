-- The words of the rows that hold a set's points, above the least anchor, are the set's shape list.
use mathlib.Core.Path.{◌≡◌, ap, ap₂, subst, ◌∙◌}
use mathlib.Core.Logic.{◌↔◌, ⊎_elim}
use mathlib.Core.Bool.{Bool}
use mathlib.Core.List.{List, ◌∷◌, map}
use Prim.Native.Nat.{ℕ, ◌+◌, ◌*◌, ◌%◌, ◌^◌, ◌≤◌, ◌<◌}
use native.Mathlib.Omega.{arith}
use lib.Dec.{T, eqb, eqb→eq, ltb→lt, lt→ltb}
use lib.ListN.{get_or}
use Rattle.plane.specs.Lists.{In, keep, up_to, bits, packed}
use Rattle.plane.specs.Point.{Point, Cell, point, ◌-ᵖ◌}
use Rattle.plane.proofs.Bits.{packed_below, bits_packed}
use Rattle.plane.proofs.Member.{In-any, In-keep, In-up_to, up_to_In}
use Rattle.plane.proofs.Tests.{eq-eqb, same_test, lt_or_le}
use Rattle.words.specs.Word.{anchor_word, row_word}
use Rattle.rows.specs.Cells.{At, bit}
use Rattle.rows.proofs.RowBits.{bits_ext, no_bit}
use Rattle.rows.proofs.Sums.{Rows16, bit_same, row_cell}
use Rattle.shapes.specs.Listed.{least_anchor, column_set, row_of, has_cells, listed}
use Rattle.shapes.proofs.Listed.{has_in}
use Rattle.lists.specs.Held.{row_words, shape_words}
use Rattle.lists.proofs.Alike.{keep_alike, map_alike}
use Rattle.lists.proofs.Written.{filled}

-- a bit of a packed number is what it was packed from
bit_packed : (b : ℕ → Bool) (x : ℕ) → x < 16 → (bit (packed b 0 16) x ≡ 1) ↔ T (b x)
bit_packed b x l = (
  λ h. (whole.0 ((In-keep (λ k. eqb (bit (packed b 0 16) k) 1) (up_to 16) x).1 (In-up_to 16 x l, eq-eqb h))).1,
  λ t. eqb→eq (bit (packed b 0 16) x) 1 ((In-keep (λ k. eqb (bit (packed b 0 16) k) 1) (up_to 16) x).0 (whole.1 (l, t))).1,
)
  where
    alone : (n : ℕ) → 2 ^ 16 * 0 + n ≡ n
    alone n = omega arith

    whole : In (bits 16 (packed b 0 16)) x ↔ ((x < 16) × T (b x))
    whole = subst (λ n. In (bits 16 n) x ↔ ((x < 16) × T (b x))) (alone (packed b 0 16)) (bits_packed b 16 0 x)

-- the rows hold the points of A, moved by the anchor a
module _ (A : List Point) (a : Cell) (rows : List ℕ) (known : Rows16 rows)
    (cells : (x y : ℕ) → At rows x y ↔ ((x < 16) × ((y < 16) × In A (point (x, y) -ᵖ point a)))) where
  at_set : (x y : ℕ) → At rows x y → T (column_set A a y x)
  at_set x y h = (has_in A (point (x, y) -ᵖ point a)).1 ((cells x y).0 h).1.1

  set_at : (x y : ℕ) → x < 16 → y < 16 → T (column_set A a y x) → At rows x y
  set_at x y k l t = (cells x y).1 (k, (l, (has_in A (point (x, y) -ᵖ point a)).0 t))

  row_number : (y : ℕ) → y < 16 → get_or rows y 0 ≡ packed (column_set A a y) 0 16
  row_number y l = bits_ext 16 (get_or rows y 0) (packed (column_set A a y) 0 16) (known.words y) (packed_below (column_set A a y) 0 16) (λ x k.
      bit_same (get_or rows y 0) (packed (column_set A a y) 0 16) x
      (λ h. (bit_packed (column_set A a y) x k).1 (at_set x y h))
      (λ h. set_at x y k l ((bit_packed (column_set A a y) x k).0 h)))

  row_filled : (y : ℕ) → y < 16 → filled rows y ≡ has_cells A a y
  row_filled y l = same_test (filled rows y) (has_cells A a y)
      (λ t. let k = ltb→lt 0 (get_or rows y 0) t in
      let c = row_cell rows known y (λ e. omega arith) in
      (In-any (column_set A a y) (up_to 16)).1 (c.0, In-up_to 16 c.0 ((cells c.0 y).0 c.1).0, at_set c.0 y c.1))
      (λ t. let c = (In-any (column_set A a y) (up_to 16)).0 t in
      let h = set_at c.0 y (up_to_In 16 c.0 c.1) l c.2 in
      lt→ltb 0 (get_or rows y 0) (some (get_or rows y 0) c.0 h))
    where
      zero_of : (n : ℕ) → n < 1 → n ≡ 0
      zero_of n u = omega arith

      some : (n x : ℕ) → bit n x ≡ 1 → 0 < n
      some n x h = ⊎_elim (λ u. absurd (no_bit x (subst (λ k. bit k x ≡ 1) (zero_of n u) h))) (λ u. u) (lt_or_le n 1)

  row_list : row_words rows ≡ map (row_of A a) (keep (has_cells A a) (up_to 16))
  row_list =
      map_alike _ _ (keep (filled rows) (up_to 16)) (λ y h. ap (row_word y) (row_number y (up_to_In 16 y ((In-keep (filled rows) (up_to 16) y).0 h).0)))
      ∙ ap (map (row_of A a)) (keep_alike (filled rows) (has_cells A a) (up_to 16) (λ y h. row_filled y (up_to_In 16 y h)))

pub shape_words_lem : (A : List Point) (a : Cell) (rows : List ℕ) → a ≡ least_anchor A → a.0 ≤ 15 → a.1 ≤ 15 → Rows16 rows
    → ((x y : ℕ) → At rows x y ↔ ((x < 16) × ((y < 16) × In A (point (x, y) -ᵖ point a)))) → shape_words a.0 a.1 rows ≡ listed A
unfolding listed
shape_words_lem A a rows e p q known cells =
    let f : a.0 % 16 ≡ a.0 = omega arith in
    let g : a.1 % 16 ≡ a.1 = omega arith in
    ap₂ ◌∷◌ (ap₂ anchor_word f g) (row_list A a rows known cells)
    ∙ ap (λ (c : Cell). anchor_word c.0 c.1 ∷ map (row_of A c) (keep (has_cells A c) (up_to 16))) e
