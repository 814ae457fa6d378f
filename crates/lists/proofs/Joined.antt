-- Reading rows: a row word is joined to the row where it stands, and the words read so far with those still to be read have the cells of the whole list.
use mathlib.Core.Path.{◌≡◌, sym, ap, subst, ◌∙◌}
use mathlib.Core.Logic.{◌↔◌, inl, inr, ⊎_elim}
use mathlib.Core.List.{List, [], ◌++◌, map}
use Prim.Native.Nat.{ℕ, ◌+◌, ◌%◌, ◌≤◌, ◌<◌}
use native.Mathlib.Omega.{arith}
use native.Mathlib.Decide.{ℕ_discrete}
use native.Mathlib.Numerals.{add-one}
use lib.Bits.{bit_or}
use lib.Dec.{eqb, eqb→eq}
use lib.ListN.{length, get_or, drop, set, replicate, drop_of_length-le}
use lib.Seq.{drop-cons, get_or-set_same, get_or-set_other}
use Rattle.plane.specs.Lists.{In, flat, up_to, bits}
use Rattle.plane.specs.Point.{Cell}
use Rattle.plane.proofs.Member.{In-append, In-map, In-keep, In-up_to, up_to_In}
use Rattle.plane.proofs.Tests.{eq-eqb}
use Rattle.words.specs.Read.{word_of}
use Rattle.words.specs.declared.Word.TheVariants.{Row}
use Rattle.rows.specs.Cells.{Same, At, bit}
use Rattle.rows.specs.Leaves.{Either}
use Rattle.rows.proofs.RowBits.{bit_in, bit_cut, no_bit}
use Rattle.rows.proofs.Shifts.{or_on, on_or_l, on_or_r}
use Rattle.rows.proofs.Sums.{zero_at}
use Rattle.lists.specs.Held.{cells_in, cells_from, held_cells, CellsOf, WithWord}
use Rattle.lists.proofs.Fields.{row_small}

-- ---- a list, a word at a time

pub flat_step : {B : Type 0} (f : ℕ → List B) (ws : List ℕ) (i : ℕ) → i < length ws → flat f (drop i ws) ≡ f (get_or ws i 0) ++ flat f (drop (i + 1) ws)
flat_step f ws i h = ap (flat f) (drop-cons ws i 0 h) ∙ ap (λ n. f (get_or ws i 0) ++ flat f (drop n ws)) (sym (add-one i))

pub flat_end : {B : Type 0} (f : ℕ → List B) (ws : List ℕ) (i : ℕ) → length ws ≤ i → flat f (drop i ws) ≡ []
flat_end f ws i h = ap (flat f) (drop_of_length-le ws h)

-- ---- one word

-- the cells of row y whose columns are the bits of c
abbrev row_cells : ℕ → ℕ → List Cell
row_cells y c = map (λ x. (x, y)) (bits 16 c)

row_cells_lem : (y c x v : ℕ) → CellsOf (row_cells y c) x v ↔ ((v ≡ y) × ((x < 16) × (bit c x ≡ 1)))
row_cells_lem y c x v = (
  λ h. let r = (In-map cell (bits 16 c) (x, v)).0 h in
      let k = (In-keep (λ i. eqb (bit c i) 1) (up_to 16) r.0).0 r.1 in
      let e : x ≡ r.0 = ap (λ (p : Cell). p.0) r.2 in (
        ap (λ (p : Cell). p.1) r.2,
        (subst (λ n. n < 16) (sym e) (up_to_In 16 r.0 k.0), subst (λ n. bit c n ≡ 1) (sym e) (eqb→eq (bit c r.0) 1 k.1)),
      ),
  λ h. (In-map cell (bits 16 c) (x, v)).1
      (x, (In-keep (λ i. eqb (bit c i) 1) (up_to 16) x).1 (In-up_to 16 x h.1.0, eq-eqb h.1.1), ap (λ (n : ℕ). cell_at n) h.0),
)
  where
    cell : ℕ → Cell
    cell k = (k, y)

    cell_at : ℕ → Cell
    cell_at n = (x, n)

-- row y of z joined with the lowest 16 bits of c
module _ (z : List ℕ) (y c : ℕ) (in-z : y < length z) where
  row_set : List ℕ
  row_set = set z y (bit_or (get_or z y 0) (c % 65536))

  row_at : get_or row_set y 0 ≡ bit_or (get_or z y 0) (c % 65536)
  unfolding row_set
  row_at = get_or-set_same z y (bit_or (get_or z y 0) (c % 65536)) 0 in-z

  row_off : (v : ℕ) → ¬ (v ≡ y) → get_or row_set v 0 ≡ get_or z v 0
  unfolding row_set
  row_off v n = get_or-set_other z y v (bit_or (get_or z y 0) (c % 65536)) 0 n

  row_to : (x v : ℕ) → Dec (v ≡ y) → At row_set x v → Either (At z) (CellsOf (row_cells y c)) x v
  row_to x v (no n) h = inl (ap (λ k. bit k x) (sym (row_off v n)) ∙ h)
  row_to x v (yes e) h = ⊎_elim
      (λ u. inl (ap (λ k. bit (get_or z k 0) x) e ∙ u))
      (λ u. let l = bit_in 16 (c % 65536) x (omega arith) u in inr ((row_cells_lem y c x v).1 (e, (l, sym (bit_cut c 16 x l) ∙ u))))
      (or_on (get_or z y 0) (c % 65536) x (ap (λ k. bit k x) (sym row_at) ∙ ap (λ k. bit (get_or row_set k 0) x) (sym e) ∙ h))

  row_kept : (x v : ℕ) → Dec (v ≡ y) → At z x v → At row_set x v
  row_kept x v (no n) h = ap (λ k. bit k x) (row_off v n) ∙ h
  row_kept x v (yes e) h =
      ap (λ k. bit (get_or row_set k 0) x) e ∙ ap (λ k. bit k x) row_at
      ∙ on_or_l (get_or z y 0) (c % 65536) x (ap (λ k. bit (get_or z k 0) x) (sym e) ∙ h)

  row_new : (x v : ℕ) → CellsOf (row_cells y c) x v → At row_set x v
  row_new x v h =
      let r = (row_cells_lem y c x v).0 h in
      ap (λ k. bit (get_or row_set k 0) x) r.0 ∙ ap (λ k. bit k x) row_at
      ∙ on_or_r (get_or z y 0) (c % 65536) x (bit_cut c 16 x r.1.0 ∙ r.1.1)

  row_joined : Same (At row_set) (Either (At z) (CellsOf (row_cells y c)))
  row_joined = record {
    to = λ x v. row_to x v (ℕ_discrete v y);
    from = λ x v h. ⊎_elim (row_kept x v (ℕ_discrete v y)) (row_new x v) h;
  }

pub word_row : (z : List ℕ) (w y c : ℕ) → length z ≡ 16 → word_of w ≡ Row y c → WithWord z w (set z (y % 16) (bit_or (get_or z (y % 16) 0) (c % 65536)))
unfolding row_set
word_row z w y c l e =
    let s = row_small w y c e in
    let q : y ≡ y % 16 = omega arith in
    subst (λ v. Same (At (set z (y % 16) (bit_or (get_or z (y % 16) 0) (c % 65536)))) (Either (At z) (CellsOf (cells_in v)))) (sym e)
    (subst (λ j. Same (At (set z j (bit_or (get_or z j 0) (c % 65536)))) (Either (At z) (CellsOf (row_cells y c)))) q
    (row_joined z y c (omega arith)))

-- ---- the words up to i are read into r

abbrev pub ReadTo : List ℕ → ℕ → List ℕ → Type 0
ReadTo ws i r = Same (Either (At r) (CellsOf (cells_from i ws))) (CellsOf (held_cells ws))

pub read_none : (ws : List ℕ) → ReadTo ws 1 (replicate 16 0)
read_none ws = record {
  to = λ x y h. ⊎_elim (λ u. absurd (no_bit x (ap (λ n. bit n x) (sym (zero_at 16 y)) ∙ u))) (λ u. u) h;
  from = λ x y h. inr h;
}

cells_step : (ws : List ℕ) (i : ℕ) → i < length ws → cells_from i ws ≡ cells_in (word_of (get_or ws i 0)) ++ cells_from (i + 1) ws
unfolding cells_from
cells_step ws i h = flat_step (λ w. cells_in (word_of w)) ws i h

cells_end : (ws : List ℕ) (i : ℕ) → length ws ≤ i → cells_from i ws ≡ []
unfolding cells_from
cells_end ws i h = flat_end (λ w. cells_in (word_of w)) ws i h

pub read_more : (ws : List ℕ) (i : ℕ) (r s : List ℕ) → i < length ws → ReadTo ws i r → WithWord r (get_or ws i 0) s → ReadTo ws (i + 1) s
read_more ws i r s l p o = record {
  to = λ x y h. ⊎_elim
      (λ u. ⊎_elim (λ v. p.to x y (inl v)) (λ v. p.to x y (inr ((next x y).1 (inl v)))) (o.to x y u))
      (λ u. p.to x y (inr ((next x y).1 (inr u))))
      h;
  from = λ x y h. ⊎_elim
      (λ u. inl (o.from x y (inl u)))
      (λ u. ⊎_elim (λ v. inl (o.from x y (inr v))) (λ v. inr v) ((next x y).0 u))
      (p.from x y h);
}
  where
    next : (x y : ℕ) → In (cells_from i ws) (x, y) ↔ Either (CellsOf (cells_in (word_of (get_or ws i 0)))) (CellsOf (cells_from (i + 1) ws)) x y
    next x y = subst (λ cs. In cs (x, y) ↔ Either (CellsOf (cells_in (word_of (get_or ws i 0)))) (CellsOf (cells_from (i + 1) ws)) x y) (sym (cells_step ws i l))
        (In-append (cells_in (word_of (get_or ws i 0))) (cells_from (i + 1) ws) (x, y))

pub read_end : (ws : List ℕ) (i : ℕ) (r : List ℕ) → length ws ≤ i → ReadTo ws i r → Same (At r) (CellsOf (held_cells ws))
read_end ws i r l p = record {
  to = λ x y h. p.to x y (inl h);
  from = λ x y h. ⊎_elim (λ u. u) (λ u. absurd (subst (λ cs. In cs (x, y)) (cells_end ws i l) u)) (p.from x y h);
}
