-- The answer of the call, with the number of stages as it was given.
use mir.Syntax.{w64}
use mir.ValLaws.{to_z-of_z}
use borrow.Author.Rules.{rules}
use Rattle.numbers.proofs.Parted.{found_for}
use Rattle.exports.proofs.musq_part.Goals as goal

pub returns : goal.returns
returns c = let st = c in found_for (to_z-of_z w64 st.args.stages st.ranges.stages) (search rules) c.part_of.ensures
