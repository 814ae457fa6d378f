-- A row of sixteen bits has none past them.
use Rattle.std.proofs.Common.{◌<◌, rules}
use Rattle.rows.proofs.RowBits.{bit_in}
use Rattle.rows.proofs.has.Goals as goal

pub returns-else-i-lt16-clause-no : goal.returns-else-i-lt16-clause-no
returns-else-i-lt16-clause-no c = λ n b.
    let in_row : c.args.i < 16 = bit_in 16 c.args.a c.args.i c.ranges.a.fits b in
    search rules
