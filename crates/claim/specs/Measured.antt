-- Document 01, "Measured against": all that is marked P, as one statement about the definitions. Each case goes through the promise of its call: whatever
-- answer, words and cells the promise allows, they are the ones that the document names.
use Rattle.std.specs.Prelude.{◌≡◌, true, false, List, [], ◌∷◌, ◌++◌, ℕ, ◌+◌, ◌/◌, ◌≤◌, max, pos, length, drop}
use Rattle.plane.specs.Extent.{width, height}
use Rattle.plane.specs.Point.{origin}
use Rattle.words.specs.Ground.{first_of, stated, result, refusal}
use Rattle.words.specs.Ground.{Answer}
use Rattle.masks.specs.Chain.{PlanOf, before}
use Rattle.shapes.specs.Shape.{shape_points}
use Rattle.planning.specs.Planning.{ShapeSet, permitted, planning_tests, Planned}
use Rattle.planning.specs.Printer.{Printed, line_feed}
use Rattle.grids.specs.Frame.{grid_size}
use Rattle.cleaning.specs.Operation.{Direct}
use Rattle.cleaning.specs.Cleaning.{part, Cleaned}
use Rattle.cleaning.specs.declared.Operation.{Operation}
use Rattle.cleaning.specs.declared.Operation.TheVariants.{Erosion, Opening, Closing}

-- ---- planning

-- the shape list is accepted, planning can keep its promise on it, and then writes exactly these words before the rest of the output list
pub record PlannedAs (ws plan : List ℕ) : Type 0 where
  pub accepted : (out : List ℕ) → 32 ≤ length out → first_of (planning_tests ws out) ≡ 0
  pub possible : (out : List ℕ) → 32 ≤ length out → (r : Answer) × (out' : List ℕ) × Planned ws out r out'
  pub answer : (out : List ℕ) → 32 ≤ length out → (r : Answer) (out' : List ℕ) → Planned ws out r out' → stated r ≡ result (length plan)
  pub words : (out : List ℕ) → 32 ≤ length out → (r : Answer) (out' : List ℕ) → Planned ws out r out' → out' ≡ plan ++ drop (length plan) out

-- the shape list passes every other ground, planning can keep its promise on it, and then refuses it by 10 and writes nothing
pub record RefusedTen (ws : List ℕ) : Type 0 where
  pub accepted : (out : List ℕ) → 32 ≤ length out → first_of (planning_tests ws out) ≡ 0
  pub possible : (out : List ℕ) → 32 ≤ length out → (r : Answer) × (out' : List ℕ) × Planned ws out r out'
  pub answer : (out : List ℕ) → 32 ≤ length out → (r : Answer) (out' : List ℕ) → Planned ws out r out' → (stated r ≡ refusal 10) × (out' ≡ out)

-- shape lists, and the words of their plans
abbrev pub four_words : List ℕ
four_words = 0x10000000 ∷ 0x2000000f ∷ []

abbrev pub four_plan : List ℕ
four_plan = 0x30000002 ∷ 0x40000f0f ∷ 0x50000003 ∷ 0x50000005 ∷ []

-- the bytes of the lines 10000000 and 2000000f
abbrev pub four_input : List ℕ
four_input =
    49 ∷ 48 ∷ 48 ∷ 48 ∷ 48 ∷ 48 ∷ 48 ∷ 48 ∷ line_feed
    ∷ 50 ∷ 48 ∷ 48 ∷ 48 ∷ 48 ∷ 48 ∷ 48 ∷ 102 ∷ line_feed
    ∷ []

-- the bytes of the lines 30000002 (two stages), 40000f0f (offset 0, 0), 50000003 (cells 0 and 1) and 50000005 (cells 0 and 2)
abbrev pub four_output : List ℕ
four_output =
    51 ∷ 48 ∷ 48 ∷ 48 ∷ 48 ∷ 48 ∷ 48 ∷ 50 ∷ line_feed
    ∷ 52 ∷ 48 ∷ 48 ∷ 48 ∷ 48 ∷ 102 ∷ 48 ∷ 102 ∷ line_feed
    ∷ 53 ∷ 48 ∷ 48 ∷ 48 ∷ 48 ∷ 48 ∷ 48 ∷ 51 ∷ line_feed
    ∷ 53 ∷ 48 ∷ 48 ∷ 48 ∷ 48 ∷ 48 ∷ 48 ∷ 53 ∷ line_feed
    ∷ []

abbrev pub eight_words : List ℕ
eight_words = 0x10000000 ∷ 0x20000001 ∷ 0x20010006 ∷ 0x2002000a ∷ 0x2003000c ∷ 0x20040010 ∷ []

abbrev pub three_words : List ℕ
three_words = 0x10000000 ∷ 0x20000007 ∷ []

abbrev pub two_words : List ℕ
two_words = 0x10000000 ∷ 0x20000003 ∷ []

abbrev pub right_words : List ℕ
right_words = 0x10000000 ∷ 0x20000002 ∷ []

-- ---- frames of one row

-- the frame f cleaned with the shape list ws is r: directly, and as the part that is handed back for the operation's answer, given the shape's plan and
-- whatever the work images held; the answer is the number n of stages run
pub record CleanedAs (op : Operation) (ws plan f : List ℕ) (n : ℕ) (r : List ℕ) : Type 0 where
  pub plans : PlannedAs ws plan
  pub direct : Direct op (length f) 1 f (ShapeSet ws) r
  pub possible : (i j : List ℕ) → grid_size (length f) 1 ≤ length i → grid_size (length f) 1 ≤ length j
      → (s : Answer) × (i' : List ℕ) × (j' : List ℕ) × Cleaned op plan (length f) 1 f i j s i' j'
  pub answer : (i j : List ℕ) → grid_size (length f) 1 ≤ length i → grid_size (length f) 1 ≤ length j
      → (s : Answer) (i' j' : List ℕ) → Cleaned op plan (length f) 1 f i j s i' j' → stated s ≡ result n
  pub handed : (i j : List ℕ) → grid_size (length f) 1 ≤ length i → grid_size (length f) 1 ≤ length j
      → (s : Answer) (i' j' : List ℕ) → Cleaned op plan (length f) 1 f i j s i' j' → part (stated s).1 (length f) 1 i' j' ≡ r

pub record Measured : Type 0 where
  -- the row of four cells, and what the program prints for it
  pub four : PlannedAs four_words four_plan
  pub four_printed : (output : List ℕ) → Printed four_input output → output ≡ four_output
  pub four_prints : Printed four_input four_output
  -- 3 then 5 comes before 3 then 7, which is a plan of it too
  pub four_before : (before (3 ∷ 5 ∷ []) (3 ∷ 7 ∷ []) ≡ true) × (before (3 ∷ 7 ∷ []) (3 ∷ 5 ∷ []) ≡ false)
  pub four_other : PlanOf permitted (ShapeSet four_words) origin (3 ∷ 7 ∷ [])
  -- one cell (0,0) with anchor (0,0), and with anchor (15,15): n = 0
  pub cell : PlannedAs (0x10000000 ∷ 0x20000001 ∷ []) (0x30000000 ∷ 0x40000f0f ∷ [])
  pub corner : PlannedAs (0x100000ff ∷ 0x20000001 ∷ []) (0x30000000 ∷ 0x40000000 ∷ [])
  -- columns 0 and 3 of one row; columns 0, 1, 3
  pub apart : RefusedTen (0x10000000 ∷ 0x20000009 ∷ [])
  pub gap : RefusedTen (0x10000000 ∷ 0x2000000b ∷ [])
  -- eight points: stages 17, 33, 129, though the extents allow two
  pub eight : PlannedAs eight_words (0x30000003 ∷ 0x40000f0f ∷ 0x50000011 ∷ 0x50000021 ∷ 0x50000081 ∷ [])
  pub eight_points : shape_points eight_words
      ≡ ((pos 0, pos 0) ∷ (pos 1, pos 1) ∷ (pos 2, pos 1) ∷ (pos 1, pos 2) ∷ (pos 3, pos 2) ∷ (pos 2, pos 3) ∷ (pos 3, pos 3) ∷ (pos 4, pos 4) ∷ [])
  pub eight_allowed : (max (width (shape_points eight_words)) (height (shape_points eight_words)) + 1) / 2 ≡ 2
  -- 1 0 1 closed by columns 0–2
  pub closed : CleanedAs Closing three_words (0x30000001 ∷ 0x40000f0f ∷ 0x50000007 ∷ []) (1 ∷ 0 ∷ 1 ∷ []) 2 (1 ∷ 1 ∷ 1 ∷ [])
  -- 1 1 eroded by columns 0–1 (changed by document 02, W3); the same on 1 1 0
  pub eroded : CleanedAs Erosion two_words (0x30000001 ∷ 0x40000f0f ∷ 0x50000003 ∷ []) (1 ∷ 1 ∷ []) 1 (1 ∷ 1 ∷ [])
  pub eroded_three : CleanedAs Erosion two_words (0x30000001 ∷ 0x40000f0f ∷ 0x50000003 ∷ []) (1 ∷ 1 ∷ 0 ∷ []) 1 (1 ∷ 0 ∷ 0 ∷ [])
  -- one cell (1,0): 1 0 0 eroded (changed by W3), and opened
  pub eroded_point : CleanedAs Erosion right_words (0x30000000 ∷ 0x40000f10 ∷ []) (1 ∷ 0 ∷ 0 ∷ []) 0 (0 ∷ 0 ∷ 1 ∷ [])
  pub opened_point : CleanedAs Opening right_words (0x30000000 ∷ 0x40000f10 ∷ []) (1 ∷ 0 ∷ 0 ∷ []) 0 (1 ∷ 0 ∷ 0 ∷ [])
