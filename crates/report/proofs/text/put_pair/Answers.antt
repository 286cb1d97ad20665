-- A named number, another, and the newline. Assumes nothing.
use native.Mathlib.Omega.{arith}
use Rattle.report.specs.Text.{pair}
use Rattle.report.proofs.Writing.{and_then}
use Rattle.report.proofs.text.put_pair.Goals as goal

pub returns : goal.returns
unfolding pair
returns c =
    let x = c.put_named-middle in
    let y = c.put_named-end in
    let z = c.put in
    let xy = and_then _ _ _ _ _ _ _ _ (omega (arith, x.ensures.1, c.requires)) x.ensures.0 y.ensures.0 in
    (and_then _ _ _ _ _ _ _ _ (omega (arith, x.ensures.1, y.ensures.1, c.requires)) xy z.ensures, omega (arith, x.ensures.1, y.ensures.1, z.ensures.place))
