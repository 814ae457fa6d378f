-- Pads written row by row, the first two bytes of each row.
use mathlib.Core.Path.{◌≡◌, ap, ◌∙◌}
use mathlib.Core.Logic.{◌⊎◌, inl, inr, ⊎_elim}
use mathlib.Core.List.{List}
use Prim.Native.Nat.{ℕ, ◌+◌, ◌*◌, ◌<◌, ◌≤◌}
use native.Mathlib.Omega.{arith}
use lib.ListN.{length, get_or, set, length-set}
use lib.Seq.{get_or-set_same, get_or-set_other}
use Rattle.plane.proofs.Tests.{lt_or_le}
use Rattle.ranges.proofs.FlatRows.{rows_apart, flat_inj}
use Rattle.plane_stage_steps.specs.Bounds.{Padded}

-- two stores at the head of the next row
module _ {s n v : ℕ} {d d' : List ℕ} (p : ℕ) (e : p ≡ (n + 1) * s) (h : 2 ≤ s) (t : Padded s n v d d') (l : (n + 1) * s + 2 ≤ length d) where
  two : List ℕ
  two = set (set d' p v) (p + 1) v

  other : (k : ℕ) → (k ≡ p → ⊥) → (k ≡ p + 1 → ⊥) → get_or two k 0 ≡ get_or d' k 0
  unfolding two
  other k a b = get_or-set_other (set d' p v) (p + 1) k v 0 b ∙ get_or-set_other d' p k v 0 a

  first : get_or two p 0 ≡ v
  unfolding two
  first = get_or-set_other (set d' p v) (p + 1) p v 0 (λ z. omega arith) ∙ get_or-set_same d' p v 0 (omega (arith, t.len))

  second : get_or two (p + 1) 0 ≡ v
  unfolding two
  second = get_or-set_same (set d' p v) (p + 1) v 0 (omega (arith, t.len, length-set d' p v))

  pub padded_more : Padded s (n + 1) v d (set (set d' p v) (p + 1) v)
  unfolding two
  padded_more = record {
    len = length-set (set d' p v) (p + 1) v ∙ length-set d' p v ∙ t.len;
    at = λ r x lo hi lx. ⊎_elim
        (λ (u : r ≤ n). let a = rows_apart s r (n + 1) (omega arith) in other (r * s + x) (λ z. omega arith) (λ z. omega arith) ∙ t.at r x lo u lx)
        (λ (u : n < r). let z : r ≡ n + 1 = omega arith in
        ⊎_elim
        (λ (w : x < 1). let f : r * s + x ≡ p = omega (arith, ap (λ (m : ℕ). m * s) z) in ap (λ (m : ℕ). get_or two m 0) f ∙ first)
        (λ (w : 1 ≤ x). let f : r * s + x ≡ p + 1 = omega (arith, ap (λ (m : ℕ). m * s) z) in ap (λ (m : ℕ). get_or two m 0) f ∙ second)
        (lt_or_le x 1))
        (le_or_lt r n);
    rest = λ r x lo hi.
        other (r * s + x)
        (λ z. let f : x ≡ 0 = flat_inj s x r 0 (n + 1) hi (omega arith) (omega arith) in omega arith)
        (λ z. let f : x ≡ 1 = flat_inj s x r 1 (n + 1) hi (omega arith) (omega arith) in omega arith)
        ∙ t.rest r x lo hi;
    below = λ k u. let a = rows_apart s 0 (n + 1) (omega arith) in other k (λ z. omega arith) (λ z. omega arith) ∙ t.below k u;
    above = λ k u. let a = rows_apart s n (n + 1) (omega arith) in other k (λ z. omega arith) (λ z. omega arith) ∙ t.above k (omega arith);
  }
    where
      le_or_lt : (a b : ℕ) → (a ≤ b) ⊎ (b < a)
      le_or_lt a b = ⊎_elim (λ (u : b < a). inr u) (λ (u : a ≤ b). inl u) (lt_or_le b a)
