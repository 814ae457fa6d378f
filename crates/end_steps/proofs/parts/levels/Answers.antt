-- One level, and the second where there are two planes.
use Rattle.end_steps.proofs.EndPlanes.{run_one, run_two}
use Rattle.end_steps.proofs.parts.levels.Goals as goal

pub returns-then-o-ne0 : goal.returns-then-o-ne0
returns-then-o-ne0 c = run_two c.requires.0 c.requires.1 c.if-o-ne0.true c.level-n.ensures c.second_level.ensures

pub returns-else-o-ne0 : goal.returns-else-o-ne0
returns-else-o-ne0 c = run_one c.requires.0 c.requires.1 c.if-o-ne0.false c.level-n.ensures
