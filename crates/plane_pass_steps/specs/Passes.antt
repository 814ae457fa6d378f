-- Passes over the bytes of a plane, bit by bit: three bytes of a row taken together, and the cells of rows that stand one or two on or back.
use Rattle.std.specs.Prelude.{Bool, true, false, cond, ◌&&◌, List, ℕ, ◌+◌, ◌-◌, leb, length, get_or}
use Rattle.rows.specs.Cells.{bit}
use Rattle.planes.specs.Bits.{bit_pick}
use Rattle.ranges.specs.Ranges.{Fitted}
use Rattle.planes.specs.Bytes.{Bitted}

-- the greatest of three bits for dilation, the least for erosion
abbrev pub of_three : Bool → ℕ → ℕ → ℕ → ℕ
of_three erode a b c = bit_pick erode (bit_pick erode a b) c

-- bit q of the byte that stands t bits below the byte a, in a column where the byte b stands under a: the upper bits of b come first
abbrev pub spanned : ℕ → ℕ → ℕ → ℕ → ℕ
spanned a b t q = cond (leb t q) (bit a (q - t)) (bit b (q + 8 - t))

-- by how many bits the upper of two bytes is raised to read the mask's row j, 1 or 2: j rows on for erosion, j rows back for dilation
abbrev pub lift_of : Bool → ℕ → ℕ
lift_of true j = 8 - j
lift_of false j = j

-- the mask's row that is read: 2, or 1
abbrev pub mask_row_of : Bool → ℕ
mask_row_of true = 2
mask_row_of false = 1

-- of m bytes, those that stand x, y and z on, and c more, are there for each of n bytes
abbrev pub reads_fit : ℕ → ℕ → ℕ → ℕ → ℕ → ℕ → Bool
reads_fit n m c x y z = leb c m && leb (n + x) (m - c) && leb (n + y) (m - c) && leb (n + z) (m - c)

-- bit q of three bytes of s, x, y and z after byte k, taken together
abbrev pub level_bit : Bool → List ℕ → ℕ → ℕ → ℕ → ℕ → ℕ → ℕ
level_bit erode s x y z k q = of_three erode (bit (get_or s (k + x) 0) q) (bit (get_or s (k + y) 0) q) (bit (get_or s (k + z) 0) q)

-- bit q of the byte raised by t from byte k of s and the byte c after it
abbrev pub lifted_bit : List ℕ → ℕ → ℕ → ℕ → ℕ → ℕ
lifted_bit s c t k q = spanned (get_or s (k + c) 0) (get_or s k 0) t q

-- bit q of byte k of d, taken together with three bits that are raised
abbrev pub joined_bit : Bool → List ℕ → List ℕ → ℕ → ℕ → ℕ → ℕ → ℕ → ℕ → ℕ → ℕ
joined_bit erode d s c x y z t k q = bit_pick erode (bit (get_or d k 0) q) (of_three erode (lifted_bit s c t (k + x) q) (lifted_bit s c t (k + y) q)
    (lifted_bit s c t (k + z) q))

-- ---- what the passes promise: all of the bytes d, which then are d', or none where something that is read is not there

-- a mask's row 0: each byte of d became the pick of three bytes of s
abbrev pub PassLevelled : Bool → List ℕ → ℕ → ℕ → ℕ → List ℕ → Bool → List ℕ → Type 0
PassLevelled erode s x y z d r d' = Fitted (reads_fit (length d) (length s) 0 x y z) (Bitted 0 (length d) (level_bit erode s x y z) d d') d r d'

-- a mask's row 2, or 1: each byte of d was joined with the pick of three that are raised
abbrev pub PassRaised : Bool → Bool → List ℕ → ℕ → ℕ → ℕ → ℕ → List ℕ → Bool → List ℕ → Type 0
PassRaised erode second s c x y z d r d' = Fitted (reads_fit (length d) (length s) c x y z) (Bitted 0 (length d) (joined_bit erode d s c x y z
    (lift_of erode (mask_row_of second))) d d') d r d'
