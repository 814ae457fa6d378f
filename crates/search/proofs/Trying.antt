-- What trying a stage shows: the partial sum below it, or that no stages lead on from there, by the quick search's answer or by their number.
use mathlib.Core.Path.{refl}
use mathlib.Core.Bool.{Bool}
use mathlib.Core.Logic.{inl, inr}
use mathlib.Core.List.{List, [], ◌∷◌}
use Prim.Native.Nat.{ℕ, ◌+◌, ◌≤◌, ◌<◌}
use native.Mathlib.Omega.{arith}
use lib.Dec.{T}
use lib.ListN.{length}
use Rattle.plane.specs.Lists.{In, all}
use Rattle.plane.proofs.Member.{In-all}
use Rattle.rows.specs.Cells.{Same, Sum, AtMask, AtSum}
use Rattle.edges.specs.Edges.{summed}
use Rattle.completions.specs.declared.Here.{Here}
use Rattle.completions.specs.Completing.{Fills, Below, number_in, aim_of, partial_sum, extents_of}
use Rattle.completions.specs.Opening.{Shut}
use Rattle.completions.proofs.Stepping.{below_fills}
use Rattle.search.specs.Asking.{Ended}

-- each mask adds at least 1 to the two numbers together
one_each : (f g : ℕ → ℕ) (L : List ℕ) → ((m : ℕ) → In L m → 1 ≤ f m + g m) → length L ≤ summed f L + summed g L
one_each f g [] h = omega arith
one_each f g (m ∷ L) h = let a = h m (inl refl) in let b = one_each f g L (λ s k. h s (inr k)) in omega arith

module _ (nums cand : List ℕ) (here : Here) (m j : ℕ) where
  fills : (permitted : ℕ → Bool) (ns : List ℕ) → T (all permitted ns) → Same (aim_of here) (Sum (Sum (partial_sum here) (AtMask m)) (AtSum ns))
      → Fills permitted (aim_of here) (Sum (partial_sum here) (AtMask m)) ns
  fills permitted ns t e = record { masks = In-all permitted ns t; whole = e }

  -- what the quick search answered
  pub led_shut : Shut nums cand here m j → Ended nums cand here j m
  led_shut o = record {
    no = λ room permitted s a every t ns l all-ns w. o.no room permitted s a t ns (fills permitted ns all-ns w)
        (λ k h. every k (In-all permitted ns all-ns k h)) (omega arith);
  }

  -- fewer extents are needed than there are stages to come
  pub led_few : (r : Here) → Below nums here m r → extents_of r < j → Ended nums cand here j m
  led_few r o few = record {
    no = λ room permitted s a every t ns l all-ns w.
        let below = o.ready permitted s t in
        let f = below_fills nums here m r o permitted ns (fills permitted ns all-ns w) in
        let p = below.state.counts ns f 16 (omega arith) in
        let q = below.state.counts ns f 17 (omega arith) in
        let b = one_each (number_in nums 16) (number_in nums 17) ns (λ k h. s.known.some k (In-all permitted ns all-ns k h)) in
        omega arith;
  }
