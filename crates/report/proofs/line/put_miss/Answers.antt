-- The parts of the line, one after the other. Assumes nothing.
use native.Mathlib.Omega.{arith}
use Rattle.report.specs.Lines.{miss_line}
use Rattle.report.proofs.Writing.{and_then}
use Rattle.report.proofs.line.put_miss.Goals as goal

pub returns : goal.returns
unfolding miss_line
returns c =
    let x = c.put_named-a in
    let y = c.put_pair in
    (and_then _ _ _ _ _ _ _ _ (omega (arith, x.ensures.1, c.requires)) x.ensures.0 y.ensures.0, omega (arith, x.ensures.1, y.ensures.1))
