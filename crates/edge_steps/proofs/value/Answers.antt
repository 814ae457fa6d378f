-- The products are at most 30 each, so nothing wraps and what is taken away is at most 60.
use Rattle.edges.proofs.Directions.{products}
use native.Mathlib.Omega.{arith}
use Rattle.edge_steps.proofs.value.Goals as goal

pub overflow_mul-result : goal.overflow_mul-result
overflow_mul-result c = let k = products c.requires in omega arith

pub overflow_mul-result-2 : goal.overflow_mul-result-2
overflow_mul-result-2 c = let k = products c.requires in omega arith

pub overflow_add-result : goal.overflow_add-result
overflow_add-result c = let k = products c.requires in omega arith

pub overflow_add-result-2 : goal.overflow_add-result-2
overflow_add-result-2 c = let k = products c.requires in omega arith

pub overflow_mul-result-3 : goal.overflow_mul-result-3
overflow_mul-result-3 c = let k = products c.requires in omega arith

pub overflow_mul-result-4 : goal.overflow_mul-result-4
overflow_mul-result-4 c = let k = products c.requires in omega arith

pub overflow_add-result-3 : goal.overflow_add-result-3
overflow_add-result-3 c = let k = products c.requires in omega arith

pub overflow_sub-result : goal.overflow_sub-result
overflow_sub-result c = let k = products c.requires in omega arith

pub returns : goal.returns
returns c = let k = products c.requires in omega arith
