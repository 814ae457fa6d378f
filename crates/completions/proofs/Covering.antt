-- Sums and residues by a mask: cutting to the window on the way loses nothing, since coordinates only grow; and what completes a sum makes up the target
-- with the residue.
use mathlib.Core.Path.{◌≡◌, refl, sym, ap, subst, ◌∙◌}
use mathlib.Core.List.{List, ◌∷◌}
use Prim.Native.Nat.{ℕ, zero, suc, ◌+◌, ◌*◌}
use native.Mathlib.Omega.{arith}
use native.Mathlib.Numerals.{add-one}
use lib.Bits.{bit_and}
use lib.ListN.{get_or, replicate}
use Rattle.rows.specs.Cells.{Cells, Same, Sum, Residue, At, AtMask, AtOrigin, AtSum, CutTo, chosen, bit}
use Rattle.rows.proofs.Addition.{same_refl, same_sym, same_trans, to_cell, sum_both, sum_comm, sum_assoc, sum_origin}
use Rattle.rows.proofs.Shifts.{and_on_l}
use Rattle.rows.proofs.RowBits.{bit_in, no_bit}
use Rattle.rows.proofs.Sums.{Rows16, in_x, in_y, zero_at}
use Rattle.completions.specs.Completing.{Replaces}

-- a sum of what was cut is the sum, cut
pub cut_more : (X C : Cells) (z r : List ℕ) → CutTo X z → CutTo (Sum (At z) C) r → CutTo (Sum X C) r
cut_more X C z r e f = record {
  to = λ x y h. let s = f.to x y h in record {
    x1 = s.x1;
    y1 = s.y1;
    x2 = s.x2;
    y2 = s.y2;
    left = e.to s.x1 s.y1 s.left;
    right = s.right;
    at_x = s.at_x;
    at_y = s.at_y;
  };
  from = λ x y s u v. f.from x y
      (record {
        x1 = s.x1;
        y1 = s.y1;
        x2 = s.x2;
        y2 = s.y2;
        left = e.from s.x1 s.y1 s.left (omega (arith, s.at_x)) (omega (arith, s.at_y));
        right = s.right;
        at_x = s.at_x;
        at_y = s.at_y;
      })
      u
      v;
}

pub cut_same : (X Y : Cells) (z : List ℕ) → Same X Y → CutTo X z → CutTo Y z
cut_same X Y z e f = record { to = λ x y h. e.to x y (f.to x y h); from = λ x y h. f.from x y (e.from x y h) }

-- ---- the loop over the path: after j of it z is the sum so far

abbrev pub Carried : Cells → List ℕ → List ℕ → ℕ → Type 0
Carried X path z j = CutTo (Sum X (AtSum (chosen path j))) z

pub carried_none : (path z : List ℕ) → Carried (At z) path z 0
unfolding chosen
carried_none path z = cut_same (At z) (Sum (At z) AtOrigin) z (same_sym sum_origin) (record { to = λ x y h. h; from = λ x y h u v. h })

next_mask : (X : Cells) (path r : List ℕ) (j : ℕ) → CutTo (Sum (Sum X (AtSum (chosen path j))) (AtMask (get_or path j 0))) r → Carried X path r (suc j)
unfolding chosen
next_mask X path r j h = cut_same _ _ r (same_trans sum_assoc (sum_both same_refl sum_comm)) h

pub carried_more : (X : Cells) (path z r : List ℕ) (j : ℕ) → Carried X path z j → CutTo (Sum (At z) (AtMask (get_or path j 0))) r → Carried X path r (j + 1)
carried_more X path z r j f g = subst (Carried X path r) (sym (add-one j))
    (next_mask X path r j (cut_more (Sum X (AtSum (chosen path j))) (AtMask (get_or path j 0)) z r f g))

-- at the end: what lies in the window is all of it
pub carried_end : (X : Cells) (path target z₀ z : List ℕ) (len : ℕ) → Rows16 target → CutTo X z₀ → Carried (At z₀) path z len → Same (At target)
    (Sum X (AtSum (chosen path len)))
    → Same (At target) (At z)
carried_end X path target z₀ z len known g h e = let f = cut_more X (AtSum (chosen path len)) z₀ z g h in record {
  to = λ x y h. f.from x y (e.to x y h) (in_x target known x y h) (in_y target known x y h);
  from = λ x y h. e.from x y (f.to x y h);
}

-- where the target is the sum the residue has (0, 0)
pub origin_left : (target rest path : List ℕ) (len : ℕ) → Same (At rest) (Residue (At target) (AtSum (chosen path len))) → Same (At target)
    (AtSum (chosen path len)) → At rest 0 0
origin_left target rest path len left e = left.from 0 0
    (record { all = λ x y c. to_cell (At target) {x = x} {y = y} (omega arith) (omega arith) (e.from x y c) })

-- rows with the one cell (0, 0)
abbrev pub start : List ℕ
start = 1 ∷ replicate 15 0

first_bit_lem : (x : ℕ) → bit 1 x ≡ 1 → x ≡ 0
first_bit_lem x h = let l = bit_in 1 1 x (omega arith) h in omega arith

start_to : (x y : ℕ) → At start x y → AtOrigin x y
start_to x zero h = record { at_x = first_bit_lem x h; at_y = refl }
start_to x (suc y) h = absurd (no_bit x (ap (λ (n : ℕ). bit n x) (sym (zero_at 15 y)) ∙ h))

start_is : Same (At start) AtOrigin
start_is = record { to = start_to; from = λ x y h. to_cell (At start) {x = 0} {y = 0} (sym h.at_x) (sym h.at_y) refl }

pub from_start_lem : {X : Cells} → Same (Sum (At start) X) X
from_start_lem = same_trans (sum_both start_is same_refl) (same_trans sum_comm sum_origin)

-- from the one cell (0, 0): where the residue has that cell the sum lies in the target, and so in the window
module _ (target rest path z : List ℕ) (len : ℕ) (known : Rows16 target) (h : CutTo (Sum (At start) (AtSum (chosen path len))) z)
    (left : Same (At rest) (Residue (At target) (AtSum (chosen path len)))) where
  pub path_whole : At rest 0 0 → Same (At target) (At z) → Same (At target) (AtSum (chosen path len))
  path_whole o e = record {
    to = λ x y c. from_start_lem.to x y (h.to x y (e.to x y c));
    from = λ x y c. to_cell (At target) {x = 0 + x} {y = 0 + y} (omega arith) (omega arith) ((left.to 0 0 o).all x y c);
  }

  pub path_part : Same (At target) (AtSum (chosen path len)) → Same (At target) (At z)
  path_part e = record {
    to = λ x y c. h.from x y (from_start_lem.from x y (e.to x y c)) (in_x target known x y c) (in_y target known x y c);
    from = λ x y c. e.from x y (from_start_lem.to x y (h.to x y c));
  }

-- ---- a mask in the place of another

pub replacing : (t own other : List ℕ) (m b : ℕ) → Rows16 t → bit_and b m ≡ m → CutTo (Residue (At t) (AtMask m)) own → CutTo
    (Residue (At t) (AtMask b)) other → Same (At own) (At other)
    → (i j : ℕ) → AtMask m i j → Replaces (At t) m b
replacing t own other m b known e f g s i j c = record {
  cells = λ x y h. record { column = h.column; row = h.row; set = and_on_l b m (3 * y + x) (ap (λ (n : ℕ). bit n (3 * y + x)) e ∙ h.set) };
  rest = λ x y h.
      let k = h.all i j c in
      g.to x y (s.to x y (f.from x y h (omega (arith, in_x t known (x + i) (y + j) k)) (omega (arith, in_y t known (x + i) (y + j) k))));
}
