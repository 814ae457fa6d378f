-- Document 01, "Words" and "Stages and plans": plan lists, the points that one stands for, grounds 1 to 3 and 5 to 8 on it, and the words of a plan.
use Rattle.std.specs.Prelude.{Bool, not, ◌||◌, List, [], ◌∷◌, map, ℕ, ◌-◌, ltb, eqb, pos, ◌-ℤ◌, ◌+ℤ◌, nat_abs, length, get_or, drop}
use Rattle.plane.specs.Lists.{any, all}
use Rattle.plane.specs.Point.{Point, ◌+ᵖ◌}
use Rattle.words.specs.Ground.{Test}
use Rattle.words.specs.Word.{wrong_kind, extra_bit, head_kind, place_kind, stage_kind, head_count, place_x, place_y, stage_mask, head_word, place_word, stage_word}
use Rattle.masks.specs.Mask.{stage}
use Rattle.masks.specs.Chain.{sum_of, falling}
use Rattle.shapes.specs.Shape.{not_within, out_of_range}

-- a plan list is head, place, then the stages
abbrev pub stage_words : List ℕ → List ℕ
stage_words ws = drop 2 ws

abbrev pub plan_masks : List ℕ → List ℕ
plan_masks ws = map stage_mask (stage_words ws)

-- the offset (dx, dy): the place holds dx + 15 and dy + 15
abbrev pub placed : ℕ → Point
placed w = (pos (place_x w) -ℤ pos 15, pos (place_y w) -ℤ pos 15)

abbrev pub plan_offset : List ℕ → Point
plan_offset ws = placed (get_or ws 1 0)

-- a plan's points are its offset added to the sum of its stages
unfoldable pub plan_points : List ℕ → List Point
unfolding sum_of
plan_points ws = map (λ p. plan_offset ws +ᵖ p) (sum_of (plan_masks ws))

-- ---- grounds

-- ground 1: a list is too short or too long
abbrev pub wrong_plan_length : List ℕ → Bool
wrong_plan_length ws = not_within 2 32 ws

-- ground 2: a word's kind isn't the one its place calls for
abbrev pub wrong_plan_kinds : List ℕ → Bool
wrong_plan_kinds ws = wrong_kind head_kind (get_or ws 0 0) || wrong_kind place_kind (get_or ws 1 0) || any (wrong_kind stage_kind) (stage_words ws)

-- ground 3: a bit that its kind doesn't name is set
abbrev pub wrong_plan_bits : List ℕ → Bool
wrong_plan_bits ws = extra_bit head_kind (get_or ws 0 0) || extra_bit place_kind (get_or ws 1 0) || any (extra_bit stage_kind) (stage_words ws)

-- ground 5: the head's count isn't the number of words less 2
abbrev pub wrong_count : List ℕ → Bool
wrong_count ws = not (eqb (head_count (get_or ws 0 0)) (length ws - 2))

-- ground 6: a place field is above 30
abbrev pub wrong_place : List ℕ → Bool
wrong_place ws = ltb 30 (place_x (get_or ws 1 0)) || ltb 30 (place_y (get_or ws 1 0))

-- ground 7: a mask isn't normal, has fewer than two cells, or is below the mask before
abbrev pub wrong_masks : List ℕ → Bool
wrong_masks ms = not (all stage ms) || falling ms

-- grounds 1 to 3 and 5 to 8, each tried over the whole list before the next
unfoldable pub plan_tests : List ℕ → List Test
unfolding stage plan_points out_of_range
plan_tests ws =
    (1, wrong_plan_length ws)
    ∷ (2, wrong_plan_kinds ws)
    ∷ (3, wrong_plan_bits ws)
    ∷ (5, wrong_count ws)
    ∷ (6, wrong_place ws)
    ∷ (7, wrong_masks (plan_masks ws))
    ∷ (8, out_of_range (plan_points ws))
    ∷ []

-- ---- the words of the plan with the offset d, both its numbers −15 to 15, and the stages ms

abbrev pub plan_words : Point → List ℕ → List ℕ
plan_words d ms = head_word (length ms) ∷ place_word (nat_abs (d.0 +ℤ pos 15)) (nat_abs (d.1 +ℤ pos 15)) ∷ map stage_word ms
