use mathlib.Core.Path.{◌≡◌, sym, subst}
use Rattle.std.proofs.Common.{rules, bit_or}
use Rattle.std.specs.List.{fold}
use Rattle.extents.specs.Extents.{Columns}
use Rattle.extents.proofs.Search.{columns_of}
use Rattle.extent_steps.proofs.columns.Goals as goal

pub returns : goal.returns
returns c = let e : c.fold.result ≡ fold bit_or 0 c.args.a = search rules in subst (Columns c.args.a 16) (sym e) (columns_of c.args.a)
