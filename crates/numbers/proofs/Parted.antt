-- The part is the start of the image whose number is given; a refusal's is empty.
use mathlib.Core.Path.{◌≡◌, refl, sym, ◌∙◌, ap, subst}
use mathlib.Core.Bool.{Bool, true, false, cond, ◌||◌}
use mathlib.Core.List.{List, []}
use Prim.Native.Nat.{ℕ, ◌*◌, ◌%◌, ◌≤◌}
use native.Mathlib.Omega.{arith}
use lib.Dec.{T, ltb, eqb}
use lib.IntN.{ℤ, pos, negsuc, nat_abs}
use lib.ListN.{length, take}
use lib.Seq.{length-take-le}
use lib.Signed.{lt_z, non_neg}
use mir.Syntax.{w64}
use mir.Val.{Fits, SFits, to_z, of_z}
use mir.ValLaws.{to_z-of_z, to_z_pos}
use borrow.Author.Tests.{ltb-true, ltb-false}
use Rattle.plane.proofs.Tests.{or_none}
use Rattle.grids.specs.Frame.{bad_size}
use Rattle.cleaning.specs.Cleaning.{result_image, part}
use Rattle.numbers.specs.Numbers.{image_of, image_at, PartFound}

-- the image with that number is the one that holds the result
named : (n : ℕ) (i j : List ℕ) → image_at (image_of (pos n)) i j ≡ result_image n i j
named n i j = go (eqb (n % 2) 0)
  where
    go : (b : Bool) → cond (eqb (cond b 2 1) 2) j (cond (eqb (cond b 2 1) 1) i []) ≡ cond b j i
    go true = refl
    go false = refl

-- what is taken of an image is its start
starts : (n W H : ℕ) (i j : List ℕ) → take (length (part n W H i j)) (result_image n i j) ≡ part n W H i j
unfolding part
starts n W H i j = go (bad_size W H || ltb (length (result_image n i j)) (W * H)) refl
  where
    go : (b : Bool) → (bad_size W H || ltb (length (result_image n i j)) (W * H)) ≡ b
        → take (length (cond b [] (take (W * H) (result_image n i j)))) (result_image n i j) ≡ cond b [] (take (W * H) (result_image n i j))
    go true e = refl
    go false e =
        ap (λ k. take k (result_image n i j))
        (length-take-le (W * H) (result_image n i j)
        (ltb-false (length (result_image n i j)) (W * H) (or_none (bad_size W H) (ltb (length (result_image n i j)) (W * H)) e).1))

pub found : (n W H : ℕ) (i j : List ℕ) {a r : ℤ} {k : ℕ} {p : List ℕ} → pos n ≡ a → k ≡ image_of (pos n) → p ≡ part n W H i j → r ≡ pos (length p)
    → PartFound a W H i j r k
found n W H i j {r = r} {k = k} s e q l =
    subst (λ a. PartFound a W H i j r k) s
    (record {
      image = e;
      number = l ∙ ap (λ p. pos (length p)) q;
      bytes = ap (take (length (part n W H i j))) (ap (λ m. image_at m i j) e ∙ named n i j) ∙ starts n W H i j;
    })

pub none : (a : ℤ) (W H : ℕ) (i j : List ℕ) → lt_z a (pos 0) ≡ true → PartFound a W H i j (pos 0) 0
none (pos n) W H i j t = absurd (let l = ltb-true n 0 t in omega arith)
none (negsuc n) W H i j t = record { image = refl; number = refl; bytes = refl }

-- ---- an answer that is no refusal is a number of stages

pub ran : (a : ℤ) → lt_z a (pos 0) ≡ false → pos (nat_abs a) ≡ a
ran (pos n) t = refl
ran (negsuc n) t = absurd (subst T t tt)

pub ran_fits : (a : ℤ) → lt_z a (pos 0) ≡ false → SFits w64 a → T (non_neg a) × Fits w64 (nat_abs a)
ran_fits (pos n) t f = (tt, record { fits = (let l = f.sfits in omega arith) })
ran_fits (negsuc n) t f = absurd (subst T t tt)

-- the same part, for an answer and with a number that are the same
pub found_for : {a b : ℤ} {W H : ℕ} {i j : List ℕ} {r s : ℤ} {k : ℕ} → a ≡ b → s ≡ r → PartFound a W H i j r k → PartFound b W H i j s k
found_for {a = a} {W = W} {H = H} {i = i} {j = j} {r = r} {s = s} {k = k} e f p =
    subst (λ n. PartFound n W H i j s k) e (subst (λ n. PartFound a W H i j n k) (sym f) p)

-- the part that is found for an answer that is not below 0, as its length and its image are said
pub found_here : (a : ℤ) (W H : ℕ) (i j : List ℕ) (k : ℕ) (p : List ℕ) → SFits w64 a → lt_z (to_z w64 (of_z w64 a)) (pos 0) ≡ false
    → k ≡ image_of (pos (nat_abs (to_z w64 (of_z w64 a)))) → p ≡ part (nat_abs (to_z w64 (of_z w64 a))) W H i j → length p ≤ 0x7fffffffffffffff
    → PartFound a W H i j (to_z w64 (length p)) k
found_here a W H i j k p f t e q l =
    let r = to_z-of_z w64 a f in
    let is = ap (λ z. pos (nat_abs z)) r ∙ ran a (subst (λ z. lt_z z (pos 0) ≡ false) r t) in
    found _ W H i j is e q (to_z_pos w64 _ (omega arith))
