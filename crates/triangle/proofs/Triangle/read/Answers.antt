-- Beyond the mesh's end each vector is the one at its place. Assumes nothing.
use Rattle.triangle.proofs.Steps.{triangle_starts}
use Rattle.triangle.proofs.Triangle.read.Goals as goal

pub returns : goal.returns
returns c =
    let a = c.args in
    triangle_starts a.mesh.now a.i _ _ _ _ _ c.place-at.ensures c.read-v0.ensures c.read-v1.ensures c.read-v2.ensures c.read-normal.ensures
