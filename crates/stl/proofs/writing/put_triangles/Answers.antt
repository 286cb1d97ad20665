-- The triangles written so far are the first of the file's. Assumes nothing.
use mathlib.Core.Path.{refl, ap, ◌∙◌}
use native.Mathlib.Omega.{arith}
use Rattle.stl.specs.Layout.{record_of}
use Rattle.stl.proofs.Placing.{records_none, records_more, records_same_length}
use Rattle.stl.proofs.writing.put_triangles.Goals as goal

pub loop-i-init : goal.loop-i-init
loop-i-init c = (omega arith, refl, records_none c.args.mesh.now c.args.out.now)

pub loop-i-preserved : goal.loop-i-preserved
loop-i-preserved c =
    let a = c.args in
    let l = c.loop-i in
    let t = c.loop-i-test.true in
    let n = l.invariant.1 ∙ c.requires.0 in
    let e = c.put_triangle.ensures ∙ ap record_of c.read.ensures in
    (omega (arith, t), records_same_length a.mesh.now l.out _ l.i a.n n t e ∙ l.invariant.1, records_more a.mesh.now l.out _ l.i a.n n t e l.invariant.2)
