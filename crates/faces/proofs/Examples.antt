-- What spacing by 2 says of a set with a greatest number; the cells 1 0 1 1 in a row, which no list of masks sums to; and two rows of a face.
use mathlib.Core.Path.{◌≡◌, refl, subst}
use mathlib.Core.Logic.{inl, ⊎_elim}
use mathlib.Core.List.{List, [], ◌∷◌}
use Prim.Native.Nat.{ℕ, zero, suc, ◌+◌, ◌%◌, ◌≤◌, ◌<◌}
use native.Mathlib.Omega.{arith}
use Rattle.plane.proofs.Tests.{lt_or_le}
use Rattle.rows.specs.Cells.{At, bit}
use Rattle.rows.proofs.RowBits.{bit_in, no_bit}
use Rattle.edges.specs.Edges.{plus_x, plus_y, minus_x, minus_y}
use Rattle.faces.specs.Bits.{Bits, OnRow}
use Rattle.faces.specs.Faces.{Shadow, Spaced, only_of, Fair, NeverSum}
use Rattle.extents.specs.Extents.{column}
use Rattle.faces.proofs.Shadows.{no_columns}

-- the numbers of a set below n that is spaced by 2 are all even or all odd
module _ {S : ℕ → Type 0} (n : ℕ) (below : (k : ℕ) → S k → k < n) (s : Spaced 2 S) where
  later : (d a b : ℕ) → n ≤ a + d → S a → S b → a < b → a % 2 ≡ b % 2
  later zero a b l p q w = absurd (omega (arith, below a p))
  later (suc d) a b l p q w =
      let r : S (a + 2) = s.next a b p q w in
      ⊎_elim
      (λ v. absurd (omega (arith, later d b (a + 2) (omega arith) q r v)))
      (λ v. ⊎_elim (λ u. omega (arith, later d (a + 2) b (omega arith) r q u)) (λ u. omega arith) (lt_or_le (a + 2) b))
      (lt_or_le b (a + 2))

  pub one_parity : (a b : ℕ) → S a → S b → a < b → a % 2 ≡ b % 2
  one_parity a b p q w = later n a b (omega arith) p q w

abbrev cells : List ℕ
cells = 13 ∷ []

in_row : (x y : ℕ) → At cells x y → y ≡ 0
in_row x zero h = refl
in_row x (suc y) h = absurd (no_bit x h)

on_face : (x : ℕ) → bit 13 x ≡ 1 → Shadow column 4 (At cells) x
unfolding plus_x plus_y minus_x minus_y
on_face x h = record { x = x; y = 0; top = record { cell = h; above = λ u v g. omega (arith, in_row u v g) }; at = refl }

off_face : (x : ℕ) → bit 13 x ≡ 0 → Shadow column 4 (At cells) x → ⊥
off_face x z s = clash s.x s.y s.at s.top.cell
  where
    clash : (u v : ℕ) → u ≡ x → At cells u v → ⊥
    clash u zero e h = omega (arith, subst (λ (k : ℕ). bit 13 k ≡ 1) e h)
    clash u (suc v) e h = no_bit u h

pub no_sum : NeverSum (At cells)
no_sum = no_columns (At cells) 4 (⊎_elim
    (λ s. off_face 1 refl (s.1.next 0 2 (on_face 0 refl) (on_face 2 refl) (omega arith)))
    (λ s. off_face 4 refl (s.1.next 2 3 (on_face 2 refl) (on_face 3 refl) (omega arith))))

-- cell (0, 0) has the value 0 in the direction (1, 0), kept as 64
first_on_row : OnRow 0 cells 64 0
unfolding plus_x plus_y minus_x minus_y
first_on_row = record { x = 0; cell = refl; at = refl }

-- a face in the direction (1, 2) can have the rows 0 and 1, as that of the cells (2, 0) and (0, 1)
next_rows : Fair (only_of 3) (Bits 3)
unfolding only_of
next_rows = inl (
  λ e. omega arith,
  record { next = λ a b p q l. let z : 0 ≡ a = omega (arith, bit_in 2 3 b (omega arith) q) in subst (λ (k : ℕ). bit 3 (k + 1) ≡ 1) z refl },
)
