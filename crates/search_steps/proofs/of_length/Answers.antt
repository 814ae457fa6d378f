-- Where the quick search says no there is no such list; else the tree is gone down.
use Rattle.rows.specs.Cells.{chosen}
use Rattle.search.proofs.Questions.{no_answer, start_kept}
use native.Mathlib.Omega.{arith}
use Rattle.search_steps.proofs.of_length.Goals as goal

pub returns-then-not-may_sum : goal.returns-then-not-may_sum
returns-then-not-may_sum c =
    let a = c.args in
    no_answer a.marks.now a.cells a.need a.nums.now a.cand.now c.requires.1 a.k (c.may_sum.ensures c.if-not-may_sum.true)

pub node-requires : goal.node-requires
node-requires c =
    let a = c.args in
    (omega arith, start_kept a.marks.now a.cells a.need a.nums.now a.cand.now c.requires.1 a.k _ c.requires.0)

pub returns : goal.returns
unfolding chosen
returns c = c.node.ensures
