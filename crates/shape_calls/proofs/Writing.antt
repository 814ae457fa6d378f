-- A shape in the window with the least anchor, written row by row, is the list of its points; and what its three answers say.
use Rattle.std.specs.Prelude.{Option, None, Some}
use Rattle.std.specs.Option.{ok_or}
use mathlib.Core.Path.{◌≡◌, refl, sym, ◌∙◌, ap, ap₂, subst}
use mathlib.Core.Logic.{◌↔◌, inl, inr, ⊎_elim}
use mathlib.Core.Bool.{Bool, true, false, not}
use mathlib.Core.List.{List, [], ◌∷◌}
use Prim.Native.Nat.{ℕ, suc, ◌<◌}
use native.Mathlib.Omega.{arith}
use lib.Dec.{T, ltb}
use lib.ListN.{length}
use borrow.Author.Tests.{lt-ltb, le-ltb}
use Rattle.plane.specs.Lists.{In}
use Rattle.plane.specs.Point.{Point, Cell, point, negᵖ, ◌-ᵖ◌, ◌≐◌}
use Rattle.plane.proofs.Member.{In-map}
use Rattle.plane.proofs.Tests.{lt_or_le}
use Rattle.std.specs.Prelude.{Ok, Err}
use Rattle.words.specs.declared.Ground.TheVariants.{OutOfRange, OutputLength}
use Rattle.words.specs.Ground.{first_of, result}
use Rattle.rows.specs.Cells.{At}
use Rattle.rows.proofs.Bridge.{point_once}
use Rattle.rows.proofs.Sums.{Rows16, in_x, in_y}
use Rattle.shapes.specs.Calls.{ListAnswered}
use Rattle.shapes.specs.Listed.{listed, least_anchor}
use Rattle.shapes.proofs.Listed.{small_a}
use Rattle.lists.specs.Held.{shape_words, WordsWritten}
use Rattle.lists.proofs.Listed.{shape_words_lem}
use Rattle.elements.specs.declared.Shape.{Shape}
use Rattle.elements.specs.declared.Window.{Window}
use Rattle.elements.specs.Standing.{points_of, window_points, cells_of, Sound, InWindow}
use Rattle.elements.proofs.Stands.{cells_at}
use Rattle.shape_calls.specs.Steps.{Returned, writing_tests}
use Rattle.elements.proofs.Windows.{into_window}

-- what is returned and fits is a shape
pub fits_sound : (s : Shape) → Returned s → s.fits ≡ true → Sound s
fits_sound s (inl S) e = S
fits_sound s (inr n) e = absurd (subst T (ap (λ t. t.fits) n) (subst T (sym e) tt))

module _ (s : Shape) (R : Rows16 s.rows) (S : Sound s) (w : Window) (W : Rows16 w.rows) (I : InWindow s w) where
  known : ((w.ax, w.ay) ≡ least_anchor (points_of s)) × (In (window_points w.rows (w.ax, w.ay)) ≐ In (points_of s))
  known = into_window s R S w W I

  abbrev a : Cell
  a = (w.ax, w.ay)

  window_cell : (x y : ℕ) → At w.rows x y ↔ ((x < 16) × ((y < 16) × In (points_of s) (point (x, y) -ᵖ point a)))
  unfolding window_points
  window_cell x y = (
    λ h. let in_List = (known.1 (at c)).0 ((In-map at (cells_of w.rows) (at c)).1 (c, (cells_at w.rows W x y).1 h, refl)) in
        (in_x w.rows W x y h, (in_y w.rows W x y h, in_List)),
    λ h. let r = (In-map at (cells_of w.rows) (at c)).0 ((known.1 (at c)).1 h.1.1) in
        let k = (cells_at w.rows W r.0.0 r.0.1).0 r.1 in
        let e = point_once x y r.0.0 r.0.1 (negᵖ (point a)) r.2 in
        subst (λ (v : ℕ). At w.rows x v) (sym e.1) (subst (λ (u : ℕ). At w.rows u r.0.1) (sym e.0) k),
  )
    where
      c : Cell
      c = (x, y)

      at : Cell → Point
      at k = point k -ᵖ point a

  pub window_words : shape_words w.ax w.ay w.rows ≡ listed (points_of s)
  window_words =
      let small = subst (λ (b : Cell). (b.0 < 16) × (b.1 < 16)) (sym known.0) (small_a (points_of s) S.range) in
      shape_words_lem (points_of s) a w.rows known.0 (omega (arith, small.0)) (omega (arith, small.1)) W window_cell

-- ---- the answers

abbrev or_0 : Option ℕ → ℕ
or_0 None = 0
or_0 (Some n) = n

some_not : (n : ℕ) → Some n ≡ None → ⊥
some_not n e = absurd (let z : suc n ≡ 0 = ap (λ r. over r) e in omega arith)
  where
    over : Option ℕ → ℕ
    over None = 0
    over (Some k) = suc k

module _ (s : Shape) (out : List ℕ) where
  -- the first of the two tests that holds
  tests_are : (f b : Bool) → s.fits ≡ f → ltb (length out) 17 ≡ b → first_of (writing_tests s out) ≡ first_of ((8, not f) ∷ (9, b) ∷ [])
  tests_are f b p q = ap₂ (λ f b. first_of ((8, not f) ∷ (9, b) ∷ [])) p q

  pub write_far : s.fits ≡ false → ListAnswered (writing_tests s out) (points_of s) out (Err OutOfRange) out
  write_far e =
      let t = tests_are false (ltb (length out) 17) e refl in
      record { refused = λ _. (ap (λ n. (n, 0)) (sym t), refl); done = λ z. absurd (omega (arith, sym t ∙ z)) }

  module _ (f : s.fits ≡ true) (words : List ℕ) (e : words ≡ listed (points_of s)) (r : Option ℕ) (out' : List ℕ) (written : WordsWritten words out r out') where
    w : WordsWritten (listed (points_of s)) out r out'
    w = subst (λ ws. WordsWritten ws out r out') e written

    write_short : r ≡ None → ListAnswered (writing_tests s out) (points_of s) out (Err OutputLength) out'
    unfolding listed
    write_short z = ⊎_elim
        (λ l. let t = tests_are true true f (lt-ltb (length out) 17 l) in
        record { refused = λ _. (ap (λ n. (n, 0)) (sym t), (w.short l).1); done = λ z. absurd (omega (arith, sym t ∙ z)) })
        (λ l. absurd (some_not (length (listed (points_of s))) (sym (w.words l).0 ∙ z)))
        (lt_or_le (length out) 17)

    write_done : (n : ℕ) → r ≡ Some n → ListAnswered (writing_tests s out) (points_of s) out (Ok n) out'
    write_done n z = ⊎_elim
        (λ l. absurd (some_not n (sym z ∙ (w.short l).0)))
        (λ l. let t = tests_are true false f (le-ltb (length out) 17 l) in
        record { refused = λ z. absurd (z t); done = λ _. record { answer = ap (λ r. result (or_0 r)) (sym z ∙ (w.words l).0); words = (w.words l).1 } })
        (lt_or_le (length out) 17)

    -- the length that was written is the answer, and ground 9 where there is none
    pub write_answered : ListAnswered (writing_tests s out) (points_of s) out (ok_or r OutputLength) out'
    write_answered = go r refl
      where
        go : (q : Option ℕ) → r ≡ q → ListAnswered (writing_tests s out) (points_of s) out (ok_or q OutputLength) out'
        go None z = write_short z
        go (Some n) z = write_done n z
