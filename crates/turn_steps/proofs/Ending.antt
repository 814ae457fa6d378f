-- The stages of each operation: all of them once, or by one kind and then all of them again by the other.
use mathlib.Core.Path.{◌≡◌, sym, subst, fun_ext}
use mathlib.Core.Bool.{Bool, true, false}
use mathlib.Core.List.{List}
use Prim.Native.Nat.{ℕ, ◌+◌, ◌≤◌}
use native.Mathlib.Omega.{arith}
use lib.ListN.{length, drop, length-map, length-drop}
use Rattle.words.specs.Word.{stage_mask}
use Rattle.shapes.specs.Plan.{plan_masks}
use Rattle.grids.specs.Grid.{outside_of, once}
use Rattle.grids.specs.declared.Around.{Around}
use Rattle.grids.specs.declared.Around.TheVariants.{Free, Occupied}
use Rattle.grids.proofs.Stage.{once_bytes}
use Rattle.cleaning.specs.declared.Operation.{Operation}
use Rattle.cleaning.specs.declared.Operation.TheVariants.{Dilation, Erosion, Opening, Closing}
use Rattle.cleaning.specs.Operation.{through, last_grid}
use Rattle.turn_steps.specs.Turns.{Shown, bytes_once, Worded, Passed, Ended}
use Rattle.turn_steps.proofs.Alternating.{past_then}

-- the stages of one pass
pub most : (plan : List ℕ) → Worded plan → {n : ℕ} → n ≡ 0 + length (plan_masks plan) → n ≤ 30
most plan l e = omega (arith, length-map (drop 2 plan) stage_mask, length-drop 2 plan, l.1)

-- the single stage in a kind of grid, and the stages of a pass, by their bytes
stage_bytes : (erode : Bool) (k : Around) (W H : ℕ) → bytes_once erode (outside_of k) W H ≡ once erode k W H
unfolding bytes_once
stage_bytes erode k W H = fun_ext (λ m. fun_ext (λ g. sym (once_bytes erode k W H m g)))

passes : (erode : Bool) (k : Around) {W H t : ℕ} {plan i j : List ℕ} {r : ℕ} {i' j' : List ℕ} → Passed erode (outside_of k) plan W H t i j r i' j'
    → (some : Bool) (g : List ℕ) → Shown some (outside_of k) W H t g i j
    → Shown some (outside_of k) W H r (through (once erode k W H) (plan_masks plan) g) i' j'
passes erode k {W} {H} {plan = plan} {r = r} {i'} {j'} p some g u =
    subst (λ stage. Shown some (outside_of k) W H r (through stage (plan_masks plan) g) i' j') (stage_bytes erode k W H) (p.shown some g u)

module _ {plan : List ℕ} {W H : ℕ} {i j : List ℕ} (op : Operation) where
  pub dilation_ends : {r : ℕ} {i' j' : List ℕ} → op ≡ Dilation → Passed false 0 plan W H 0 i j r i' j' → Ended op plan W H i j r i' j'
  unfolding last_grid
  dilation_ends {r} {i'} {j'} e p =
      subst (λ o. Ended o plan W H i j r i' j') (sym e)
      (record { count = omega (arith, p.count); first = p.first; second = p.second; shown = passes false Free p })

  pub erosion_ends : {r : ℕ} {i' j' : List ℕ} → op ≡ Erosion → Passed true 1 plan W H 0 i j r i' j' → Ended op plan W H i j r i' j'
  unfolding last_grid
  erosion_ends {r} {i'} {j'} e p =
      subst (λ o. Ended o plan W H i j r i' j') (sym e)
      (record { count = omega (arith, p.count); first = p.first; second = p.second; shown = passes true Occupied p })

  pub opening_ends : {n r : ℕ} {i' j' i'' j'' : List ℕ} → op ≡ Opening → Passed true 0 plan W H 0 i j n i' j' → Passed false 0 plan W H n i' j' r i'' j''
      → Ended op plan W H i j r i'' j''
  unfolding last_grid
  opening_ends {n} {r} {i'} {j'} {i''} {j''} e p q = subst (λ o. Ended o plan W H i j r i'' j'') (sym e) (record {
    count = omega (arith, p.count, q.count);
    first = past_then p.first q.first;
    second = past_then p.second q.second;
    shown = λ some g u. passes false Free q some (through (once true Free W H) (plan_masks plan) g) (passes true Free p some g u);
  })

  pub closing_ends : {n r : ℕ} {i' j' i'' j'' : List ℕ} → op ≡ Closing → Passed false 0 plan W H 0 i j n i' j' → Passed true 0 plan W H n i' j' r i'' j''
      → Ended op plan W H i j r i'' j''
  unfolding last_grid
  closing_ends {n} {r} {i'} {j'} {i''} {j''} e p q = subst (λ o. Ended o plan W H i j r i'' j'') (sym e) (record {
    count = omega (arith, p.count, q.count);
    first = past_then p.first q.first;
    second = past_then p.second q.second;
    shown = λ some g u. passes true Free q some (through (once false Free W H) (plan_masks plan) g) (passes false Free p some g u);
  })
