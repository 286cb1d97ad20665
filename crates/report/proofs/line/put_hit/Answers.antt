-- The parts of the line, one after the other. Assumes nothing.
use native.Mathlib.Omega.{arith}
use Rattle.report.specs.Lines.{hit_line}
use Rattle.report.proofs.Writing.{and_then}
use Rattle.report.proofs.line.put_hit.Goals as goal

pub returns : goal.returns
unfolding hit_line
returns c =
    let a = c.put_named-a.ensures in
    let b = c.put_named-b.ensures in
    let t = c.put-c.ensures in
    let x = c.put_hexadecimal-d.ensures in
    let e = c.put_pair.ensures in
    let ab = and_then _ _ _ _ _ _ _ _ (omega (arith, a.1, c.requires)) a.0 b.0 in
    let abt = and_then _ _ _ _ _ _ _ _ (omega (arith, a.1, b.1, c.requires)) ab t in
    let abtx = and_then _ _ _ _ _ _ _ _ (omega (arith, a.1, b.1, t.place, c.requires)) abt x.0 in
    (and_then _ _ _ _ _ _ _ _ (omega (arith, a.1, b.1, t.place, x.1, c.requires)) abtx e.0, omega (arith, a.1, b.1, t.place, x.1, e.1))
