-- A chunk comes off the cells that are left, with its count.
use mathlib.Core.Path.{◌≡◌, ◌∙◌, ap}
use mathlib.Core.List.{List}
use Prim.Native.Nat.{ℕ, ◌+◌, ◌-◌, ◌*◌, ◌/◌, ◌≤◌}
use lib.ListN.{length, take, drop, length-drop}
use native.Mathlib.Omega.{arith}
use Rattle.cell_steps.specs.declared.TheConstants.{CHUNK}
use Rattle.cell_steps.specs.Leaves.{counts_of}
use Rattle.cell_steps.proofs.Loops.{counts_part, counts_most, counts_times}
use Rattle.cell_steps.proofs.in_chunks.Goals as goal

pub overflow_add-n : goal.overflow_add-n
overflow_add-n c =
    let v = c.args.v in
    let k = c.loop-i.i * CHUNK in
    omega (arith, counts_part v c.args.cells.now k (k + CHUNK) (omega arith), counts_most v c.args.cells.now)

pub loop-i-preserved : goal.loop-i-preserved
loop-i-preserved c =
    let k = c.loop-i.i * CHUNK in
    let e : (c.loop-i.i + 1) * CHUNK ≡ k + CHUNK = omega arith in
    rw e (omega (arith, counts_part c.args.v c.args.cells.now k (k + CHUNK) (omega arith)))

-- what the last call counts is what is left
last : (v : ℕ) (l : List ℕ) (n k i : ℕ) → n + counts_of v (drop i l) ≡ counts_of v l → i ≡ k → k ≤ length l
    → n + counts_of v (take (length l - k) (drop k l)) ≡ counts_of v l
last v l n k i h e r =
    let a = ap (λ j. counts_of v (drop j l)) e in
    omega (arith, counts_part v l k (length l) r, counts_most v (drop (length l) l), length-drop (length l) l)

pub overflow_add-result : goal.overflow_add-result
overflow_add-result c =
    let v = c.args.v in
    let l = c.args.cells.now in
    omega (arith, last v l c.loop-i.n (length l / CHUNK * CHUNK) (c.loop-i.i * CHUNK) c.loop-i.invariant (omega arith) (omega arith), counts_most v l)

pub returns : goal.returns
returns c =
    let v = c.args.v in
    let l = c.args.cells.now in
    let e : c.loop-i.n + c.from.result ≡ counts_of v l =
    omega (arith, last v l c.loop-i.n (length l / CHUNK * CHUNK) (c.loop-i.i * CHUNK) c.loop-i.invariant (omega arith) (omega arith)) in
    e ∙ counts_times v l
