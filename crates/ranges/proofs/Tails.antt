-- The last part of a list, lent and put back.
use mathlib.Core.Path.{◌≡◌, sym, ap, ◌∙◌}
use mathlib.Core.List.{List, ◌++◌, append-nil}
use Prim.Native.Nat.{ℕ, ◌-◌, ◌<◌, ◌≤◌}
use native.Mathlib.Omega.{arith}
use lib.ListN.{length, get_or, drop, take, length-drop, drop_of_length-le}
use lib.Seq.{get_or-take, take-length, length-take-le, drop_at}
use borrow.Rule.Slice.PartMut.{mid_of, post_of, put_mid, take_put, same_len_mid}

module _ (o : ℕ) (xs : List ℕ) where
  pub tail_is : mid_of o (length xs - o) xs ≡ drop o xs
  tail_is = ap (λ (n : ℕ). take n (drop o xs)) (sym (length-drop o xs)) ∙ take-length (drop o xs)

  module _ (ys : List ℕ) (l : o ≤ length xs) (e : length ys ≡ length (mid_of o (length xs - o) xs)) where
    abbrev put : List ℕ
    put = put_mid o (length xs - o) xs ys

    pub put_size : length put ≡ length xs
    put_size = same_len_mid o (length xs - o) xs ys e

    pub put_front : (k : ℕ) → k < o → get_or put k 0 ≡ get_or xs k 0
    put_front k h =
        sym (get_or-take o put k 0 h) ∙ ap (λ (z : List ℕ). get_or z k 0) (take_put o (length xs - o) xs ys l) ∙ get_or-take o xs k 0 h

    pub put_tail : drop o put ≡ ys
    put_tail =
        drop_at (take o xs) (ys ++ post_of o (length xs - o) xs) o (length-take-le o xs l)
        ∙ ap (λ (z : List ℕ). ys ++ z) (drop_of_length-le (drop o xs) {i = length xs - o} (omega (arith, length-drop o xs))) ∙ append-nil ys
