-- The promise of the operations can be kept on every accepted plan, frame and pair of images: the result is written over the start of the image that the
-- parity of the stages run names, and nothing else is touched.
use mathlib.Core.Path.{◌≡◌, refl, sym, ◌∙◌, ap, subst}
use mathlib.Core.Bool.{Bool, false, not, cond}
use mathlib.Core.List.{List, ◌++◌}
use mathlib.Core.Logic.{◌⊎◌, inl, inr}
use Prim.Native.Nat.{ℕ, ◌*◌, ◌%◌, ◌≤◌}
use native.Mathlib.Nat.{mul_comm}
use lib.Dec.{T, eqb, nltb→le}
use lib.ListN.{length, drop}
use Rattle.words.specs.Ground.{Answer}
use Rattle.std.specs.Prelude.{Ok}
use Rattle.cleaning.specs.declared.Operation.{Operation}
use Rattle.plane.specs.Lists.{In}
use Rattle.plane.specs.Point.{Point}
use Rattle.plane.proofs.Tests.{not_or, T_dec, T_true, T_false}
use Rattle.words.specs.Ground.{first_of}
use Rattle.words.proofs.Refusals.{Clear, clear, clear_last}
use Rattle.shapes.specs.Plan.{plan_offset, plan_masks, plan_points, plan_tests}
use Rattle.grids.specs.Frame.{grid_size, bad_size, short_image}
use Rattle.grids.specs.Grid.{grid, laid, work_tests}
use Rattle.grids.proofs.Pictures.{length_cells}
use Rattle.cleaning.specs.Cleaning.{stages_run, part, operation_tests, Cleaned}
use Rattle.cleaning.specs.Operation.{Direct, in_turn, around, as_read, last_grid, read_at}
use Rattle.cleaning.proofs.Plans.{accepted_direct}
use Rattle.cleaning.proofs.Starts.{over_length, over_past, frame_in_grid, hand, hand_start}

-- the single stages give as many cells as the frame has
pub turn_length : (op : Operation) (W H : ℕ) (f : List ℕ) (d : Point) (ms : List ℕ) → length (in_turn op W H f d ms) ≡ W * H
unfolding in_turn
turn_length op W H f d ms =
    length_cells W H (λ p. grid (around op) W H (last_grid op W H ms (laid (around op) W H (as_read op W H f))) (read_at op d p)) ∙ mul_comm H W

pub can_clean : (op : Operation) (plan : List ℕ) (W H : ℕ) (f i j : List ℕ) → first_of (operation_tests plan W H f i j) ≡ 0
    → (s : Answer) × (i' : List ℕ) × (j' : List ℕ) × Cleaned op plan W H f i j s i' j'
unfolding plan_tests work_tests part
can_clean op plan W H f i j e = go (T_dec even)
  where
    d : Point
    d = plan_offset plan

    ms : List ℕ
    ms = plan_masks plan

    n : ℕ
    n = stages_run op (length ms)

    even : Bool
    even = eqb (n % 2) 0

    -- the bytes of a grid
    G : ℕ
    G = grid_size W H

    r : List ℕ
    r = in_turn op W H f d ms

    size : length r ≡ W * H
    size = turn_length op W H f d ms

    c : Clear (work_tests W H f i j)
    c = clear_last (plan_tests plan) (work_tests W H f i j) (clear (operation_tests plan W H f i j) tt e)

    room : (G ≤ length i) × (G ≤ length j)
    room =
        let u = (not_or (short_image W H i) (short_image W H j)).0 c.1.1.1.0 in
        (nltb→le (length i) G u.0, nltb→le (length j) G u.1)

    sided : bad_size W H ≡ false
    sided = T_false (bad_size W H) c.0

    -- an image as long as k, and the same past the grid
    Past : List ℕ → List ℕ → Type 0
    Past k k' = (length k' ≡ length k) × (drop G k' ≡ drop G k)

    past : (k : List ℕ) → G ≤ length k → Past k (r ++ drop (W * H) k)
    past k h = (over_length r k (W * H) G size (frame_in_grid W H) h, over_past r k (W * H) G size (frame_in_grid W H) h)

    Promise : Type 0
    Promise = (s : Answer) × (i' : List ℕ) × (j' : List ℕ) × Cleaned op plan W H f i j s i' j'

    -- two such images, of which the one that is handed back starts with the result, keep the promise
    make : (i' j' : List ℕ) → Past i i' → Past j j' → hand W H (cond even j' i') ≡ r → Promise
    make i' j' p q h = (
      Ok n,
      i',
      j',
      record {
        refused = λ z. absurd (z e);
        done = λ _. record {
          answer = refl;
          handed = h;
          direct = subst (Direct op W H f (In (plan_points plan))) (sym h) (accepted_direct op plan W H f i j e);
          first_size = p.0;
          first_past = p.1;
          second_size = q.0;
          second_past = q.1;
        };
      },
    )

    go : T even ⊎ T (not even) → Promise
    go (inl t) =
        let k = r ++ drop (W * H) j in
        make i k (refl, refl) (past j room.1) (ap (λ b. hand W H (cond b k i)) (T_true even t) ∙ hand_start W H r j sided size room.1)
    go (inr t) =
        let k = r ++ drop (W * H) i in
        make k j (past i room.0) (refl, refl) (ap (λ b. hand W H (cond b j k)) (T_false even t) ∙ hand_start W H r i sided size room.0)
