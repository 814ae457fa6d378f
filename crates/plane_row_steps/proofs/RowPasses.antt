-- A pass that reads three columns is the pass of the mask's row, where a column is set.
use mathlib.Core.Path.{◌≡◌, refl, sym, ap, ◌∙◌}
use mathlib.Core.Bool.{Bool, true, false, cond}
use mathlib.Core.List.{List}
use Prim.Native.Nat.{ℕ, ◌+◌, ◌*◌, ◌<◌}
use native.Mathlib.Omega.{arith}
use lib.ListN.{length, get_or}
use Rattle.rows.specs.Cells.{bit}
use Rattle.rows.proofs.RowBits.{no_bit}
use Rattle.ranges.specs.Ranges.{Ranged}
use Rattle.planes.specs.Bits.{bit_seed}
use Rattle.planes.specs.MaskBits.{has_bit}
use Rattle.planes.specs.Bytes.{Bitted}
use Rattle.planes.proofs.WholeBytes.{ones8}
use Rattle.planes.proofs.Bitting.{bitted_ap}
use Rattle.plane_pass_steps.specs.Passes.{level_bit, joined_bit, lifted_bit, lift_of}
use Rattle.plane_row_steps.specs.MaskRows.{first_bit, next_bit, seed_byte, across_of, first_column, stand_in}
use Rattle.plane_row_steps.proofs.MaskColumns.{columns_three, columns_none, seed_three}

-- bits of the byte that a stage begins with
seed_bits : (erode : Bool) (q : ℕ) → q < 8 → bit (seed_byte erode) q ≡ bit_seed erode
seed_bits true q l = ones8 q l
seed_bits false q l = omega (arith, no_bit q)

-- what byte k reads for column i of row 0, and of row j
abbrev first_cell : Bool → List ℕ → ℕ → ℕ → ℕ → ℕ → ℕ
first_cell erode s o k q i = bit (get_or s (k + (o + across_of erode i)) 0) q

abbrev next_cell : Bool → List ℕ → ℕ → ℕ → ℕ → ℕ → ℕ → ℕ → ℕ
next_cell erode s o c j k q i = lifted_bit s c (lift_of erode j) (k + (o + across_of erode i)) q

-- what is read for column i, where g is the first column that is set
pub stands : (erode : Bool) (o m b i : ℕ) {g x : ℕ} → g ≡ first_column m b → x ≡ o + across_of erode (cond (has_bit m (b + i)) i g)
    → x ≡ o + across_of erode (stand_in m b i)
stands erode o m b i e f = f ∙ ap (λ (n : ℕ). o + across_of erode (cond (has_bit m (b + i)) i n)) e

module _ (erode : Bool) (s : List ℕ) (o m : ℕ) where
  pub first_row : {n : ℕ} {d d' : List ℕ} (x y z : ℕ) → first_column m 0 < 3 → x ≡ o + across_of erode (stand_in m 0 0)
      → y ≡ o + across_of erode (stand_in m 0 1) → z ≡ o + across_of erode (stand_in m 0 2)
      → Bitted 0 n (level_bit erode s x y z) d d' → Bitted 0 n (first_bit erode s o m) d d'
  first_row x y z h ex ey ez r = bitted_ap r (λ k q lo hi lq. rw (ex, ey, ez)
      (sym (columns_three erode (first_cell erode s o k q) m 0 (bit_seed erode) h
      ∙ seed_three erode (first_cell erode s o k q (stand_in m 0 0)) (first_cell erode s o k q (stand_in m 0 1)) (first_cell erode s o k q (stand_in m 0 2))
      (omega arith) (omega arith) (omega arith))))

  pub first_none : {n : ℕ} {d d' : List ℕ} → first_column m 0 ≡ 3 → Ranged 0 0 n (λ k. seed_byte erode) d d' → Bitted 0 n (first_bit erode s o m) d d'
  first_none h r = record {
    len = r.len;
    at = λ k q lo hi lq. ap (λ (v : ℕ). bit v q) (r.at k lo hi) ∙ seed_bits erode q lq
        ∙ sym (columns_none erode (first_cell erode s o k q) m 0 (bit_seed erode) h);
    below = r.below;
    above = r.above;
  }

module _ (erode : Bool) (s : List ℕ) (o c m j : ℕ) where
  pub next_row : {n : ℕ} {d d' : List ℕ} (x y z : ℕ) → first_column m (3 * j) < 3 → x ≡ o + across_of erode (stand_in m (3 * j) 0)
      → y ≡ o + across_of erode (stand_in m (3 * j) 1) → z ≡ o + across_of erode (stand_in m (3 * j) 2)
      → Bitted 0 n (joined_bit erode d s c x y z (lift_of erode j)) d d' → Bitted 0 n (next_bit erode d s o c m j) d d'
  next_row {d = d} x y z h ex ey ez r = bitted_ap r (λ k q lo hi lq. rw (ex, ey, ez)
      (sym (columns_three erode (next_cell erode s o c j k q) m (3 * j) (bit (get_or d k 0) q) h)))

module _ (erode : Bool) (s : List ℕ) (o c m j : ℕ) (d : List ℕ) where
  pub next_none : first_column m (3 * j) ≡ 3 → Bitted 0 (length d) (next_bit erode d s o c m j) d d
  next_none h = record {
    len = refl;
    at = λ k q lo hi lq. sym (columns_none erode (next_cell erode s o c j k q) m (3 * j) (bit (get_or d k 0) q) h);
    below = λ k l. refl;
    above = λ k l. refl;
  }
