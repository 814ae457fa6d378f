-- A list whose words are of the kinds that their places call for holds what the definitions of shape lists and plan lists say that it stands for.
use mathlib.Core.Path.{◌≡◌, ap, ◌∙◌}
use mathlib.Core.Bool.{not, ◌||◌}
use mathlib.Core.List.{List, map}
use Prim.Native.Nat.{ℕ}
use lib.Dec.{T, eqb, eqb→eq}
use lib.ListN.{get_or}
use Rattle.plane.specs.Lists.{any, up_to, bits}
use Rattle.plane.proofs.Member.{no_any, up_to_In}
use Rattle.plane.proofs.Tests.{not_or, un_not}
use Rattle.words.specs.Read.{read_as, word_of}
use Rattle.words.specs.Word.{kind, wrong_kind, anchor_kind, row_kind, head_kind, place_kind, stage_kind, row_y, row_bits, place_x, place_y, stage_mask}
use Rattle.shapes.specs.Plan.{plan_masks, stage_words, wrong_plan_kinds}
use Rattle.shapes.specs.Shape.{anchor, rows, row_cells, shape_cells, wrong_shape_kinds}
use Rattle.rows.proofs.RowBits.{bit_cut}
use Rattle.lists.specs.Held.{cells_in, anchor_in, place_in, mask_in, cells_from, masks_from, held_cells, held_anchor, held_place, held_masks}
use Rattle.lists.proofs.Alike.{keep_alike, flat_alike, flat_one}

-- a word of kind k is read as one
read_as_lem : (k w : ℕ) → T (not (wrong_kind k w)) → word_of w ≡ read_as k w
read_as_lem k w t = ap (λ n. read_as n w) (eqb→eq (kind w) k (un_not (eqb (kind w) k) t))

-- the bits of a word below 16 are those of its columns
columns_cut : (w : ℕ) → bits 16 (row_bits w) ≡ bits 16 w
columns_cut w = keep_alike _ _ (up_to 16) (λ k h. ap (λ n. eqb n 1) (bit_cut w 16 k (up_to_In 16 k h)))

row_held : (w : ℕ) → T (not (wrong_kind row_kind w)) → cells_in (word_of w) ≡ row_cells w
row_held w t = ap cells_in (read_as_lem row_kind w t) ∙ ap (map (λ x. (x, row_y w))) (columns_cut w)

-- ---- shape lists

module _ (ws : List ℕ) (t : T (not (wrong_shape_kinds ws))) where
  shape_kinds : T (not (wrong_kind anchor_kind (get_or ws 0 0))) × T (not (any (wrong_kind row_kind) (rows ws)))
  shape_kinds = (not_or (wrong_kind anchor_kind (get_or ws 0 0)) (any (wrong_kind row_kind) (rows ws))).0 t

  pub held_list : held_cells ws ≡ shape_cells ws
  unfolding cells_from shape_cells
  held_list = flat_alike _ _ (rows ws) (λ w h. row_held w (no_any (wrong_kind row_kind) (rows ws) shape_kinds.1 w h))

  pub held_anchor_lem : held_anchor ws ≡ anchor ws
  held_anchor_lem = ap anchor_in (read_as_lem anchor_kind (get_or ws 0 0) shape_kinds.0)

-- ---- plan lists

module _ (ws : List ℕ) (t : T (not (wrong_plan_kinds ws))) where
  plan_kinds : T (not (wrong_kind place_kind (get_or ws 1 0))) × T (not (any (wrong_kind stage_kind) (stage_words ws)))
  plan_kinds =
      let first = wrong_kind head_kind (get_or ws 0 0) || wrong_kind place_kind (get_or ws 1 0) in
      let r = (not_or first (any (wrong_kind stage_kind) (stage_words ws))).0 t in
      (((not_or (wrong_kind head_kind (get_or ws 0 0)) (wrong_kind place_kind (get_or ws 1 0))).0 r.0).1, r.1)

  pub held_masks_lem : held_masks ws ≡ plan_masks ws
  unfolding masks_from
  held_masks_lem =
      flat_alike _ _ (stage_words ws) (λ w h. ap mask_in (read_as_lem stage_kind w (no_any (wrong_kind stage_kind) (stage_words ws) plan_kinds.1 w h)))
      ∙ flat_one stage_mask (stage_words ws)

  pub held_place_lem : held_place ws ≡ (place_x (get_or ws 1 0), place_y (get_or ws 1 0))
  held_place_lem = ap place_in (read_as_lem place_kind (get_or ws 1 0) plan_kinds.0)
