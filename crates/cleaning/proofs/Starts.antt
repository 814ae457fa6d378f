-- A list written over the start of an image: the image stays as long, its end stays as it is, and its start can be handed back.
use mathlib.Core.Path.{◌≡◌, ◌∙◌, ap}
use mathlib.Core.Bool.{false, cond, ◌||◌}
use mathlib.Core.List.{List, [], ◌++◌}
use Prim.Native.Nat.{ℕ, ◌+◌, ◌-◌, ◌*◌, ◌≤◌}
use native.Mathlib.Omega.{arith}
use native.Mathlib.Nat.{add-mul, mul-add}
use lib.Dec.{ltb}
use lib.ListN.{length, take, drop, length-append, length-drop}
use lib.Seq.{take_at, drop-append-add, drop-drop}
use borrow.Author.Tests.{le-ltb}
use Rattle.grids.specs.Frame.{grid_size, bad_size}

-- a list of m bytes, which reaches no farther than the first n of the image
module _ (r i : List ℕ) (m n : ℕ) (e : length r ≡ m) (h : m ≤ n) (k : n ≤ length i) where
  pub over_length : length (r ++ drop m i) ≡ length i
  over_length = length-append r (drop m i) ∙ ap (λ l. length r + l) (length-drop m i) ∙ omega arith

  pub over_past : drop n (r ++ drop m i) ≡ drop n i
  over_past =
      let q : n ≡ length r + (n - m) = omega arith in
      let q' : m + (n - m) ≡ n = omega arith in
      ap (λ l. drop l (r ++ drop m i)) q ∙ drop-append-add r (drop m i) (n - m) ∙ drop-drop (n - m) m i ∙ ap (λ l. drop l i) q'

  pub over_start : take m (r ++ drop m i) ≡ r
  over_start = take_at r (drop m i) m e

-- a frame has no more cells than its grid
pub frame_in_grid : (W H : ℕ) → W * H ≤ grid_size W H
frame_in_grid W H = let e = add-mul W 15 (H + 15) in let f = mul-add W H 15 in omega (arith, e, f)

-- what is handed back from an image
abbrev pub hand : ℕ → ℕ → List ℕ → List ℕ
hand W H k = cond (bad_size W H || ltb (length k) (W * H)) [] (take (W * H) k)

pub hand_start : (W H : ℕ) (r k : List ℕ) → bad_size W H ≡ false → length r ≡ W * H → grid_size W H ≤ length k → hand W H (r ++ drop (W * H) k) ≡ r
hand_start W H r k s e h =
    let g = frame_in_grid W H in
    let l = over_length r k (W * H) (grid_size W H) e g h in
    let b = le-ltb (length (r ++ drop (W * H) k)) (W * H) (omega arith) in
    rw (s, b) (over_start r k (W * H) (grid_size W H) e g h)
