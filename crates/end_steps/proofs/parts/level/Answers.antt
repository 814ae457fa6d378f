-- The level is packed, and taken through the stages.
use Rattle.end_steps.proofs.EndPlanes.{level_packs, level_turnable, level_run}
use Rattle.end_steps.proofs.parts.level.Goals as goal

pub returns : goal.returns
returns c =
    let x = c.args in
    let f = c.pack.ensures.done (level_packs c.requires.0 x.first.now c.requires.1.first) in
    level_run c.requires.0 x.some x.second.now c.requires.1 f
    (c.stages.ensures.through (level_turnable c.requires.0 x.some x.second.now c.requires.1 f))
