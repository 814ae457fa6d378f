-- A row word is joined where it stands; a word of another kind has no cells.
use mathlib.Core.Path.{sym, ◌∙◌}
use lib.ListN.{get_or}
use Rattle.lists.proofs.Joined.{word_row}
use Rattle.list_steps.proofs.with_word.Goals as goal

pub returns-in-Row : goal.returns-in-Row
returns-in-Row c =
    word_row c.args.z.now (get_or c.args.ws.now c.args.at 0) c.in-Row.y c.in-Row.columns c.told-z (sym c.word_at.ensures ∙ c.in-Row.is)
