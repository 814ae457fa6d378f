-- Rows that are joined, or of which some leave, pass ground 13 where they did before.
use mathlib.Core.Bool.{Bool, not}
use mathlib.Core.List.{List, [], ◌∷◌, ◌++◌}
use Prim.Native.Nat.{ℕ, zero, suc}
use lib.Dec.{T, ltb}
use lib.ListN.{take, drop}
use Rattle.plane.specs.Lists.{any}
use Rattle.plane.proofs.Tests.{not_or}
use Rattle.grids.specs.Frame.{highest, bad_cell}
use Rattle.rolling.specs.Rolling.{rolled}

-- rows that are joined, or of which some leave, have no cell that fails a test where none had one
module _ (f : ℕ → Bool) where
  pub none_append : (xs ys : List ℕ) → T (not (any f xs)) → T (not (any f ys)) → T (not (any f (xs ++ ys)))
  none_append [] ys t u = u
  none_append (x ∷ xs) ys t u = let v = (not_or (f x) (any f xs)).0 t in (not_or (f x) (any f (xs ++ ys))).1 (v.0, none_append xs ys v.1 u)

  pub none_drop : (n : ℕ) (xs : List ℕ) → T (not (any f xs)) → T (not (any f (drop n xs)))
  none_drop zero xs t = t
  none_drop (suc n) [] t = t
  none_drop (suc n) (x ∷ xs) t = none_drop n xs ((not_or (f x) (any f xs)).0 t).1

  pub none_take : (n : ℕ) (xs : List ℕ) → T (not (any f xs)) → T (not (any f (take n xs)))
  none_take zero xs t = tt
  none_take (suc n) [] t = t
  none_take (suc n) (x ∷ xs) t = let u = (not_or (f x) (any f xs)).0 t in (not_or (f x) (any f (take n xs))).1 (u.0, none_take n xs u.1)

pub rolled_clean : (W : ℕ) (live row : List ℕ) → T (not (bad_cell live)) → T (not (bad_cell row)) → T (not (bad_cell (rolled W live row)))
rolled_clean W live row t u = none_append (ltb highest) (drop W live) row (none_drop (ltb highest) W live t) u
