-- Document 01, "Words": the kind in a word's top four bits decides how the rest is read. What any list of words holds, whether it would be refused or not:
-- the cells and the anchor of a shape list, the place and the masks of a plan list; and the words of rows of bits.
use Rattle.std.specs.Prelude.{◌≡◌, List, [], ◌∷◌, ◌++◌, map, ℕ, ◌%◌, ◌≤◌, ◌<◌, ltb, length, get_or, drop, Option, None, Some}
use Rattle.plane.specs.Lists.{In, flat, keep, up_to, bits}
use Rattle.plane.specs.Point.{Cell}
use Rattle.words.specs.Read.{word_of}
use Rattle.words.specs.Word.{anchor_word, row_word}
use Rattle.words.specs.declared.Word.{Word}
use Rattle.words.specs.declared.Word.TheVariants.{Anchor, Row, Head, Place, Stage, Unused}
use Rattle.rows.specs.Cells.{Cells, At, AtSum, Same}
use Rattle.rows.specs.Leaves.{Either}

-- the cells of a word that is a row; none of a word of another kind
abbrev pub cells_in : Word → List Cell
cells_in (Anchor ax ay) = []
cells_in (Row y columns) = map (λ x. (x, y)) (bits 16 columns)
cells_in (Head n) = []
cells_in (Place x y) = []
cells_in (Stage m) = []
cells_in (Unused k) = []

-- the anchor's numbers; 0 and 0 of a word of another kind
abbrev pub anchor_in : Word → Cell
anchor_in (Anchor ax ay) = (ax, ay)
anchor_in (Row y columns) = (0, 0)
anchor_in (Head n) = (0, 0)
anchor_in (Place x y) = (0, 0)
anchor_in (Stage m) = (0, 0)
anchor_in (Unused k) = (0, 0)

-- the place's fields, dx + 15 and dy + 15; 0 and 0 of a word of another kind
abbrev pub place_in : Word → Cell
place_in (Anchor ax ay) = (0, 0)
place_in (Row y columns) = (0, 0)
place_in (Head n) = (0, 0)
place_in (Place x y) = (x, y)
place_in (Stage m) = (0, 0)
place_in (Unused k) = (0, 0)

-- the mask of a word that is a stage; none of a word of another kind
abbrev pub mask_in : Word → List ℕ
mask_in (Anchor ax ay) = []
mask_in (Row y columns) = []
mask_in (Head n) = []
mask_in (Place x y) = []
mask_in (Stage m) = m ∷ []
mask_in (Unused k) = []

-- ---- of a list: a shape list is an anchor and then rows, a plan list head, place and then stages

-- the cells of the words from i on, and the masks
unfoldable pub cells_from : ℕ → List ℕ → List Cell
cells_from i ws = flat (λ w. cells_in (word_of w)) (drop i ws)

unfoldable pub masks_from : ℕ → List ℕ → List ℕ
masks_from i ws = flat (λ w. mask_in (word_of w)) (drop i ws)

abbrev pub held_cells : List ℕ → List Cell
held_cells ws = cells_from 1 ws

abbrev pub held_anchor : List ℕ → Cell
held_anchor ws = anchor_in (word_of (get_or ws 0 0))

abbrev pub held_place : List ℕ → Cell
held_place ws = place_in (word_of (get_or ws 1 0))

abbrev pub held_masks : List ℕ → List ℕ
held_masks ws = masks_from 2 ws

-- ---- rows

-- the set of the cells of a list
abbrev pub CellsOf : List Cell → Cells
CellsOf cs x y = In cs (x, y)

-- r is the part of the masks' sum that lies in the window
pub record SumRows (ms r : List ℕ) : Type 0 where
  pub to : (x y : ℕ) → At r x y → AtSum ms x y
  pub from : (x y : ℕ) → AtSum ms x y → x < 16 → y < 16 → At r x y

-- r has the cells of the rows z and those of the word w
abbrev pub WithWord : List ℕ → ℕ → List ℕ → Type 0
WithWord z w r = Same (At r) (Either (At z) (CellsOf (cells_in (word_of w))))

-- where the rows z are the sum of some masks, r is the sum of the word w's mask and those
pub record WithStage (z : List ℕ) (w : ℕ) (r : List ℕ) : Type 0 where
  pub added : (ms : List ℕ) → SumRows ms z → SumRows (mask_in (word_of w) ++ ms) r

-- ---- words that are written

-- the words of the rows before n that have a column, y rising
abbrev pub row_words_to : ℕ → List ℕ → List ℕ
row_words_to n rows = map (λ y. row_word y (get_or rows y 0)) (keep (λ y. ltb 0 (get_or rows y 0)) (up_to n))

abbrev pub row_words : List ℕ → List ℕ
row_words rows = row_words_to 16 rows

-- one anchor and then the rows
abbrev pub shape_words : ℕ → ℕ → List ℕ → List ℕ
shape_words ax ay rows = anchor_word (ax % 16) (ay % 16) ∷ row_words rows

-- the list was written to out, which then is out', and its length is the answer; where out has fewer than 17 words nothing is written and there is none
pub record WordsWritten (ws out : List ℕ) (r : Option ℕ) (out' : List ℕ) : Type 0 where
  pub short : length out < 17 → (r ≡ None) × (out' ≡ out)
  pub words : 17 ≤ length out → (r ≡ Some (length ws)) × (out' ≡ ws ++ drop (length ws) out)
