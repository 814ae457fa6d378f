-- Rows put onto others where they stand, and rows moved towards (0, 0) or away from it: what is put onto, and what is kept under, by cells.
use mathlib.Core.Path.{◌≡◌, sym, ap, subst, ◌∙◌}
use mathlib.Core.Logic.{◌⊎◌, inl, inr, ⊎_elim}
use mathlib.Core.List.{List}
use Prim.Native.Nat.{ℕ, ◌+◌, ◌≤◌}
use native.Mathlib.Omega.{arith}
use lib.ListN.{replicate, get_or-replicate}
use Rattle.rows.specs.Cells.{Same, At, bit}
use Rattle.rows.specs.Leaves.{Onto, Under, Either, Lowered, Raised, MovedCell}
use Rattle.rows.proofs.RowBits.{no_bit}
use Rattle.rows.proofs.Sums.{Rows16, in_x, in_y, zero_at, ones16}

pub onto_joined : (a b r : List ℕ) → Rows16 b → Onto a b 0 0 r → Same (At r) (Either (At a) (At b))
onto_joined a b r w o = record {
  to = λ x y h. ⊎_elim inl (λ m. inr (back x y m)) (o.to x y h);
  from = λ x y h. ⊎_elim (o.kept x y)
      (λ u. let p = in_x b w x y u in
      let q = in_y b w x y u in
      let e : x + 0 ≡ x = omega arith in
      let f : y + 0 ≡ y = omega arith in
      subst (λ (k : ℕ). At r k y) e (subst (λ (k : ℕ). At r (x + 0) k) f (o.from x y u (omega arith) (omega arith))))
      h;
}
  where
    back : (x y : ℕ) → MovedCell (At b) 0 0 x y → At b x y
    back x y m =
        let e : m.x1 ≡ x = omega (arith, m.at_x) in
        let f : m.y1 ≡ y = omega (arith, m.at_y) in
        subst (λ (k : ℕ). At b k y) e (subst (λ (k : ℕ). At b m.x1 k) f m.was)

pub under_lowered : (a r : List ℕ) (i j : ℕ) → Rows16 a → Under (replicate 16 65535) a i j r → Same (At r) (Lowered (At a) i j)
under_lowered a r i j w u = record {
  to = u.to;
  from = λ x y h.
      let p = in_x a w (x + i) (y + j) h in
      let q = in_y a w (x + i) (y + j) h in
      u.from x y (ap (λ (n : ℕ). bit n x) (get_or-replicate 16 y 65535 0 (omega arith)) ∙ ones16 x (omega arith)) h;
}

-- a move of 16 or more leaves nothing
pub lowered_out : (a : List ℕ) (i j : ℕ) → Rows16 a → (16 ≤ i) ⊎ (16 ≤ j) → Same (At (replicate 16 0)) (Lowered (At a) i j)
lowered_out a i j w o = record {
  to = λ x y h. absurd (no_bit x (ap (λ (n : ℕ). bit n x) (sym (zero_at 16 y)) ∙ h));
  from = λ x y h.
      let p = in_x a w (x + i) (y + j) h in
      let q = in_y a w (x + i) (y + j) h in
      absurd (⊎_elim (λ v. omega arith) (λ v. omega arith) o);
}

-- rows put onto none are only moved
pub onto_raised : (a r : List ℕ) (i j : ℕ) → Onto (replicate 16 0) a i j r → Raised (At a) i j (At r)
onto_raised a r i j o = record {
  to = λ x y h. ⊎_elim (λ z. absurd (no_bit x (ap (λ (n : ℕ). bit n x) (sym (zero_at 16 y)) ∙ z))) (λ m. m) (o.to x y h);
  from = o.from;
}

pub raised_out : (a : List ℕ) (i j : ℕ) → (16 ≤ i) ⊎ (16 ≤ j) → Raised (At a) i j (At (replicate 16 0))
raised_out a i j o = record {
  to = λ x y h. absurd (no_bit x (ap (λ (n : ℕ). bit n x) (sym (zero_at 16 y)) ∙ h));
  from = λ x y h p q. absurd (⊎_elim (λ v. omega arith) (λ v. omega arith) o);
}
