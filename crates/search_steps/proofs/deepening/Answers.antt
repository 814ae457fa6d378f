-- The quick search is asked with the marked masks, their numbers and those of the cells.
use lib.ListN.{take}
use Rattle.rows.proofs.Known.{rows16}
use Rattle.search.proofs.Questions.{questioned, no_plan}
use native.Mathlib.Omega.{arith}
use Rattle.search_steps.proofs.deepening.Goals as goal

pub returns-then-not-may_sum : goal.returns-then-not-may_sum
returns-then-not-may_sum c =
    let a = c.args in
    let p = c.pooled-p in
    let l = p.result in
    let v = c.numbers-need in
    let g = c.requires.1.1 in
    let asked = questioned l.marks a.cells p.ensures.marks v.result l.nums l.list l.n a.w (rows16 a.cells _ c.well_formed.0)
    g.0 p.ensures.table v.ensures p.ensures.list in
    no_plan l.marks a.cells v.result l.nums (take l.n l.list) p.ensures.marks asked a.w a.h g.0 g.1 (c.may_sum.ensures c.if-not-may_sum.true)

pub by_length-requires : goal.by_length-requires
by_length-requires c =
    let a = c.args in
    let p = c.pooled-p in
    let l = p.result in
    let v = c.numbers-need in
    let g = c.requires.1.1 in
    let asked = questioned l.marks a.cells p.ensures.marks v.result l.nums l.list l.n a.w (rows16 a.cells _ c.well_formed.0)
    g.0 p.ensures.table v.ensures p.ensures.list in
    (omega arith, (omega arith, (g, (p.ensures.marks, asked))))
