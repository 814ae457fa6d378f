-- The rows of a mask, of which each is read in one pass over the bytes of a plane, and the three of them together.
use Rattle.std.specs.Prelude.{◌≡◌, Bool, true, false, cond, ◌&&◌, List, ℕ, ◌+◌, ◌-◌, ◌*◌, ◌/◌, ◌%◌, ◌<◌, ◌≤◌, leb, length, get_or}
use Rattle.rows.specs.Cells.{bit}
use Rattle.planes.specs.Bits.{bit_pick, bit_seed}
use Rattle.ranges.specs.Ranges.{Fitted}
use Rattle.planes.specs.MaskBits.{has_bit, over_bits}
use Rattle.planes.specs.Planes.{bit_seen}
use Rattle.plane_pass_steps.specs.Passes.{lifted_bit, lift_of}

-- ---- a row of a mask: its three bits from s on, of which bit s + i is column i

-- a taken together with e where t holds
abbrev pub one_column : {A : Type 0} → (A → A → A) → Bool → A → A → A
one_column pick t a e = cond t (pick e a) e

-- f at the columns that are set, taken together from e on
unfoldable pub of_columns : {A : Type 0} → (A → A → A) → (ℕ → A) → ℕ → ℕ → A → A
of_columns pick f m s e = one_column pick (has_bit m (s + 2)) (f 2) (one_column pick (has_bit m (s + 1)) (f 1) (one_column pick (has_bit m s) (f 0) e))

-- the first column that is set, 3 where none is
abbrev pub first_column : ℕ → ℕ → ℕ
first_column m s = cond (has_bit m s) 0 (cond (has_bit m (s + 1)) 1 (cond (has_bit m (s + 2)) 2 3))

-- column i where it is set, else the first one that is: three columns are read always, and the one stands in for the other
abbrev pub stand_in : ℕ → ℕ → ℕ → ℕ
stand_in m s i = cond (has_bit m (s + i)) i (first_column m s)

-- how far on the cell stands that is read for column i: from two columns back for dilation
abbrev pub across_of : Bool → ℕ → ℕ
across_of true i = i
across_of false i = 2 - i

-- what a byte begins with, before a row of a mask is read
abbrev pub seed_byte : Bool → ℕ
seed_byte true = 255
seed_byte false = 0

-- bit q of byte k after a mask's row 0 was read from o on, and after row j was joined to what stands in d
abbrev pub first_bit : Bool → List ℕ → ℕ → ℕ → ℕ → ℕ → ℕ
first_bit erode s o m k q = of_columns (bit_pick erode) (λ i. bit (get_or s (k + (o + across_of erode i)) 0) q) m 0 (bit_seed erode)

abbrev pub next_bit : Bool → List ℕ → List ℕ → ℕ → ℕ → ℕ → ℕ → ℕ → ℕ → ℕ
next_bit erode d s o c m j k q = of_columns (bit_pick erode) (λ i. lifted_bit s c (lift_of erode j) (k + (o + across_of erode i)) q) m (3 * j) (bit (get_or d k 0) q)

-- ---- all three

-- the coordinate that is read: i on for erosion, i back for dilation
abbrev pub step_of : Bool → ℕ → ℕ → ℕ
step_of true x i = x + i
step_of false x i = x - i

-- the cells of the stage of the mask m, in bytes d' that begin at column 2 of row 8 of the plane p, s bytes a row
pub record Rowed (erode : Bool) (s m : ℕ) (p d d' : List ℕ) : Type 0 where
  pub len : length d' ≡ length d
  pub at : (x y : ℕ) → 2 ≤ x → 8 ≤ y → y / 8 * s + x < s + 2 + length d
      → bit (get_or d' (y / 8 * s + x - (s + 2)) 0) (y % 8) ≡ over_bits (bit_pick erode) (bit_seed erode) (λ b. bit_seen s p (step_of erode x (b % 3))
      (step_of erode y (b / 3))) m 9

-- around n bytes of a plane in m bytes, s of them a row, a row and two bytes more are there on either side
abbrev pub rows_fit : ℕ → ℕ → ℕ → Bool
rows_fit n m s = leb s 65537 && leb (2 * s + 4) m && leb n (m - (2 * s + 4))

abbrev pub MaskRead : Bool → ℕ → ℕ → List ℕ → List ℕ → Bool → List ℕ → Type 0
MaskRead erode s m p d r d' = Fitted (rows_fit (length d) (length p) s) (Rowed erode s m p d d') d r d'
