-- The number has one digit or two.
use Prim.Native.Nat.{◌%◌}
use Rattle.text.proofs.Pages.{refused_low, refused_high}
use native.Mathlib.Omega.{arith}
use Rattle.page_steps.proofs.refused_page.Goals as goal

pub returns-then-n-lt10 : goal.returns-then-n-lt10
returns-then-n-lt10 c =
    let k = c in
    refused_low _ _ _ (k.args.number % 100) k.blank.ensures k.with_bytes-p.ensures _ (omega arith)
    c.digit.ensures c.with_bytes.ensures

pub returns : goal.returns
returns c =
    let e = c in
    let k = e in
    refused_high _ _ _ (k.args.number % 100) k.blank.ensures k.with_bytes-p.ensures _ _ (omega arith)
    (omega arith)
    c.digit-2.ensures c.digit-3.ensures c.with_bytes-2.ensures
