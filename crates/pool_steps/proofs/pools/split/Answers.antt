use Rattle.std.proofs.Common.{refl, ⊎_elim, arith}
use Rattle.completions.proofs.Loops.{among_more}
use Rattle.completions.proofs.Drawing.{split_more, behind_is}
use Rattle.pool_steps.proofs.pools.split.Goals as goal

pub loop-m-preserved : goal.loop-m-preserved
loop-m-preserved c =
    let h = c.loop-m in
    let f = c.having-k.ensures in
    (omega arith, λ w. split_more _ _ _ h.list h.other h.p h.q h.m-index _ _ (omega arith) refl f.0 f.1.0 f.1.1 (h.invariant.1 w))

pub returns : goal.returns
returns c = λ w.
    let l = c.loop-m in
    let h = l.invariant.1 w in
    let k = c.appended.ensures h.list_long in
    record {
      all = λ m b a. among_more _ _ _ m (omega arith) (⊎_elim (k.first m) (k.behind m) (h.all m b (among_more _ _ _ m (omega arith) a)));
      only = λ m a. among_more _ _ _ m (omega arith) (h.only m (k.only m (among_more _ _ _ m (omega arith) a)));
      without = λ m b a. h.without m b (k.back m a);
      having = λ j l b. h.having _ (behind_is c.appended.new.list _ _ _ j k.after l (omega arith));
      order = omega arith;
      long = k.long;
    }
