-- The triangles written so far are the first of the mesh. Assumes nothing.
use mathlib.Core.Path.{refl, ◌∙◌}
use native.Mathlib.Omega.{arith}
use Rattle.stl.proofs.Filling.{mesh_none, mesh_more, mesh_same_length}
use Rattle.stl.proofs.reading.fill.Goals as goal

pub loop-i-init : goal.loop-i-init
loop-i-init c = (omega arith, refl, mesh_none c.args.s.now c.args.at c.args.out.now)

pub loop-i-preserved : goal.loop-i-preserved
loop-i-preserved c =
    let a = c.args in
    let l = c.loop-i in
    let t = c.loop-i-test.true in
    let n = l.invariant.1 ∙ c.requires.1 in
    let e = c.put.ensures in
    (omega (arith, t), mesh_same_length a.s.now a.at l.out _ l.i a.n n t e ∙ l.invariant.1, mesh_more a.s.now a.at l.out _ l.i a.n n t e l.invariant.2)
