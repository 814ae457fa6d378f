-- What the quick search answers to the plain search: the sum below by a mask, or that so many masks of a list or fewer do not complete it; and whether a sum is
-- the target.
use Rattle.std.specs.Prelude.{◌≡◌, Bool, true, false, List, ℕ, ◌+◌, ◌≤◌, ◌<◌, T, length, Option, MatchOption}
use Rattle.rows.specs.Cells.{Same, Sum, Residue, At, AtMask}
use Rattle.completions.specs.declared.Here.{Here}
use Rattle.completions.specs.Completing.{Fills, From, aim_of, partial_sum, Ready, Below, Allowed}

-- there is room for a list of 512 masks, and a path of 32 with k masks after the next
pub record Roomy (cand : List ℕ) (len k : ℕ) : Type 0 where
  pub list : length cand ≤ 512
  pub path : len + k < 32

-- k masks of the list or fewer do not complete the sum with the mask m, where there is room for them
pub record Shut (nums cand : List ℕ) (here : Here) (m k : ℕ) : Type 0 where
  pub no : Roomy cand here.len k → (permitted : ℕ → Bool) → Ready permitted nums here → Allowed permitted cand → T (permitted m)
      → (L : List ℕ) → Fills permitted (aim_of here) (Sum (partial_sum here) (AtMask m)) L → From cand (length cand) L → length L ≤ k → ⊥

-- the partial sum below by the mask m, or that k masks of the list or fewer do not complete the sum with m; without room there is none
abbrev pub Opened : List ℕ → List ℕ → Here → ℕ → ℕ → Option Here → Type 0
Opened nums cand here m k r = MatchOption r (Shut nums cand here m k) (λ b. Roomy cand here.len k × Below nums here m b)

-- whether the masks of the path, 32 at most, sum to the target, where rest is the residue
pub record Finished (here : Here) (r : Bool) : Type 0 where
  pub few : r ≡ true → here.len ≤ 32
  pub whole : r ≡ true → Same (At here.rest) (Residue (aim_of here) (partial_sum here)) → Same (aim_of here) (partial_sum here)
  pub part : r ≡ false → here.len ≤ 32 → Same (At here.rest) (Residue (aim_of here) (partial_sum here)) → Same (aim_of here) (partial_sum here) → ⊥
