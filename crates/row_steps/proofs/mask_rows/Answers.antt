-- Each row is three bits of m: the law of proofs/MaskRows.antt.
use Rattle.rows.proofs.MaskRows.{mask_same}
use Rattle.row_steps.proofs.mask_rows.Goals as goal

pub returns : goal.returns
returns c = mask_same c.args.m
