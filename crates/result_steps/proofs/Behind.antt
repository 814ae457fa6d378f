-- Two planes, one behind the other: what the stages make of the second, while the first stays.
use mathlib.Core.Path.{◌≡◌, refl, sym, ap, ◌∙◌, subst}
use mathlib.Core.Bool.{Bool, true, false, cond}
use mathlib.Core.List.{List}
use Prim.Native.Nat.{ℕ, ◌+◌, ◌-◌, ◌%◌, ◌≤◌}
use native.Mathlib.Omega.{arith}
use lib.Dec.{eqb}
use lib.ListN.{length, get_or, drop, length-drop}
use lib.Seq.{get_or-drop, ext_get_or}
use borrow.Rule.Slice.PartMut.{mid_of, put_mid, mid_len}
use Rattle.plane.specs.Point.{Point}
use Rattle.grids.specs.Frame.{grid_size}
use Rattle.planes.specs.Planes.{plane_size, Shows}
use Rattle.planes.proofs.OnGrids.{planes_fit, kept_drop, shows_front}
use Rattle.cleaning.specs.declared.Operation.{Operation}
use Rattle.turn_steps.specs.Turns.{Worded, Past, Carried, Ended, Turnable}
use Rattle.result_steps.specs.Cutting.{Room}
use Rattle.result_steps.specs.Levels.{Behind, SecondEnded, LevelsEnded}
use Rattle.ranges.proofs.Tails.{tail_is, put_size, put_front, put_tail}

-- whichever image the plane stands in
stays : (W H : ℕ) {f : Point → ℕ} (b : Bool) {i j i' j' : List ℕ} → Behind W H i i' → Behind W H j j' → Shows (W + 15) (H + 15) f (cond b i j)
    → Shows (W + 15) (H + 15) f (cond b i' j')
stays W H true p q s = shows_front p.size p.front s
stays W H false p q s = shows_front q.size q.front s

-- ---- what is past the plane

pub past_drop : {W H : ℕ} {d d' : List ℕ} → Past W H d d' → drop (grid_size W H) d' ≡ drop (grid_size W H) d
past_drop {W} {H} p = kept_drop W H (record { len = p.size; past = p.rest })

-- a second plane is as it was after the stages on the first
past_second : {W H : ℕ} {d d' : List ℕ} → Past W H d d' → drop (plane_size (W + 15) (H + 15)) d' ≡ drop (plane_size (W + 15) (H + 15)) d
past_second {W} {H} {d} {d'} p =
    let o = plane_size (W + 15) (H + 15) in
    ext_get_or 0 (drop o d') (drop o d) (omega (arith, length-drop o d', length-drop o d, p.size))
    (λ k l. get_or-drop o d' k 0 ∙ p.rest (o + k) (omega arith) ∙ sym (get_or-drop o d k 0))

-- ---- the stages on the second planes

-- the same images under other names, and the same number of stages
carry : (op : Operation) (plan : List ℕ) (W H : ℕ) {i j k l : List ℕ} {r n : ℕ} {i' j' k' l' : List ℕ} → i ≡ k → j ≡ l → r ≡ n → i' ≡ k' → j' ≡ l'
    → Carried op plan W H i j r i' j' → Carried op plan W H k l n k' l'
carry op plan W H {j = j} {k} {l} {r} {n} {i'} {j'} {k'} {l'} p q c x y s =
    subst (λ z. Carried op plan W H k l n k' z) y
    (subst (λ z. Carried op plan W H k l n z j') x
    (subst (λ z. Carried op plan W H k l z i' j') c
    (subst (λ z. Carried op plan W H k z r i' j') q (subst (λ z. Carried op plan W H z j r i' j') p s))))

-- an image whose last part, from the second plane on, was lent to them
pub behind : (W H : ℕ) (d : List ℕ) {t : List ℕ} → grid_size W H ≤ length d
    → Past W H (mid_of (plane_size (W + 15) (H + 15)) (length d - plane_size (W + 15) (H + 15)) d) t
    → Behind W H d (put_mid (plane_size (W + 15) (H + 15)) (length d - plane_size (W + 15) (H + 15)) d t)
behind W H d {t} l p =
    let o = plane_size (W + 15) (H + 15) in
    let f = planes_fit W H in
    let lo : o ≤ length d = omega arith in
    let d' = put_mid o (length d - o) d t in
    let g = grid_size W H in
    let z = put_size o d t lo p.size in record {
      size = z;
      front = put_front o d t lo p.size;
      rest = ext_get_or 0 (drop g d') (drop g d) (omega (arith, length-drop g d', length-drop g d, z))
          (λ k _.
          let e : g + k ≡ o + (g - o + k) = omega arith in
          get_or-drop g d' k 0 ∙ ap (λ (n : ℕ). get_or d' n 0) e ∙ sym (get_or-drop o d' (g - o + k) 0)
          ∙ ap (λ (x : List ℕ). get_or x (g - o + k) 0) (put_tail o d t lo p.size) ∙ p.rest (g - o + k) (omega arith)
          ∙ ap (λ (x : List ℕ). get_or x (g - o + k) 0) (tail_is o d) ∙ get_or-drop o d (g - o + k) 0 ∙ ap (λ (n : ℕ). get_or d n 0) (sym e)
          ∙ sym (get_or-drop g d k 0));
    }

module _ (op : Operation) (plan : List ℕ) (W H : ℕ) (i j : List ℕ) (room : Room W H i j) where
  abbrev size : ℕ
  size = plane_size (W + 15) (H + 15)

  long : (size ≤ length i) × (size ≤ length j)
  long = let f = planes_fit W H in (omega (arith, room.first), omega (arith, room.second))

  -- the last parts of both images have room for a plane
  able_at : Worded plan → Turnable plan W H (mid_of size (length i - size) i) (mid_of size (length j - size) j)
  able_at w =
      let f = planes_fit W H in
      let a = mid_len size (length i) i (omega arith) in
      let b = mid_len size (length j) j (omega arith) in
      record { words = w; room = record { sides = room.sides; first = omega (arith, room.first, a); second = omega (arith, room.second, b) } }

  ends_at : {r : ℕ} {t u : List ℕ} → Ended op plan W H (mid_of size (length i - size) i) (mid_of size (length j - size) j) r t u
      → SecondEnded op plan W H i j (put_mid size (length i - size) i t) (put_mid size (length j - size) j u)
  ends_at {r} {t} {u} e = record {
    first = behind W H i room.first e.first;
    second = behind W H j room.second e.second;
    shown = carry op plan W H (tail_is size i) (tail_is size j) e.count (sym (put_tail size i t long.0 e.first.size))
        (sym (put_tail size j u long.1 e.second.size)) e.shown;
  }

  pub second_starts : {o : ℕ} → o ≡ size → (o ≤ length i) × (o ≤ length j)
  second_starts e = let l = long in (omega (arith, e), omega (arith, e))

  pub second_able : {o : ℕ} → o ≡ size → Worded plan → Turnable plan W H (mid_of o (length i - o) i) (mid_of o (length j - o) j)
  second_able e = subst (λ (n : ℕ). Worded plan → Turnable plan W H (mid_of n (length i - n) i) (mid_of n (length j - n) j)) (sym e) able_at

  pub second_ends : {o r : ℕ} {t u : List ℕ} → o ≡ size → Ended op plan W H (mid_of o (length i - o) i) (mid_of o (length j - o) j) r t u
      → SecondEnded op plan W H i j (put_mid o (length i - o) i t) (put_mid o (length j - o) j u)
  second_ends {o} {r} {t} {u} e = subst
      (λ (n : ℕ). Ended op plan W H (mid_of n (length i - n) i) (mid_of n (length j - n) j) r t u
      → SecondEnded op plan W H i j (put_mid n (length i - n) i t) (put_mid n (length j - n) j u)) (sym e) ends_at

-- ---- both levels

module _ {op : Operation} {plan : List ℕ} {W H : ℕ} {i j : List ℕ} where
  -- one plane has both
  pub one_plane : {two : Bool} {r : ℕ} {i' j' : List ℕ} → two ≡ false → Ended op plan W H i j r i' j' → LevelsEnded two op plan W H i j r i' j'
  one_plane {two} {r} {i'} {j'} b e = subst (λ (t : Bool). LevelsEnded t op plan W H i j r i' j') (sym b) (record {
    count = e.count;
    first_size = e.first.size;
    second_size = e.second.size;
    first_past = past_drop e.first;
    second_past = past_drop e.second;
    one = e.shown;
    some = e.shown;
  })

  pub two_planes : {two : Bool} {r : ℕ} {i₁ j₁ i' j' : List ℕ} → two ≡ true → Ended op plan W H i j r i₁ j₁ → SecondEnded op plan W H i₁ j₁ i' j'
      → LevelsEnded two op plan W H i j r i' j'
  two_planes {two} {r} {i₁} {j₁} {i'} {j'} b e s = subst (λ (t : Bool). LevelsEnded t op plan W H i j r i' j') (sym b) (record {
    count = e.count;
    first_size = s.first.size ∙ e.first.size;
    second_size = s.second.size ∙ e.second.size;
    first_past = s.first.rest ∙ past_drop e.first;
    second_past = s.second.rest ∙ past_drop e.second;
    one = λ some g u. stays W H (eqb (r % 2) 0) s.first s.second (e.shown some g u);
    some = carry op plan W H (past_second e.first) (past_second e.second) (sym e.count) refl refl s.shown;
  })
