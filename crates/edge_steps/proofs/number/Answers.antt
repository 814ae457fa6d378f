-- The bounds of Fits: nothing wraps, the difference is not below 0 and fits a byte.
use Prim.Native.Nat.{◌*◌, ◌≤◌}
use native.Mathlib.Nat.{mul-le-mul}
use native.Mathlib.Omega.{arith}
use Rattle.edge_steps.proofs.number.Goals as goal

pub overflow_add-result : goal.overflow_add-result
overflow_add-result c = omega arith

pub overflow_mul-result : goal.overflow_mul-result
overflow_mul-result c = omega arith

pub overflow_add-result-2 : goal.overflow_add-result-2
overflow_add-result-2 c = omega arith

pub overflow_mul-result-2 : goal.overflow_mul-result-2
overflow_mul-result-2 c = let k : c.args.t * c.args.m ≤ 4 * 124 = mul-le-mul c.requires.times c.requires.middle in omega arith

pub overflow_add-result-3 : goal.overflow_add-result-3
overflow_add-result-3 c = let k : c.args.t * c.args.m ≤ 4 * 124 = mul-le-mul c.requires.times c.requires.middle in omega arith
