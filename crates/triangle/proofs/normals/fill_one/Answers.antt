-- The normal of the corners that were read. Assumes nothing.
use mathlib.Core.Path.{◌∙◌, ap}
use Prim.Native.Nat.{◌+◌, ◌*◌}
use Rattle.triangle.specs.declared.Corners.{Corners}
use Rattle.triangle.specs.Mesh.{corners_of}
use Rattle.triangle.specs.Normal.{normal_of}
use Rattle.triangle.specs.Refilled.{put, filled}
use Rattle.triangle.proofs.normals.fill_one.Goals as goal

pub returns : goal.returns
unfolding filled corners_of
returns c =
    let s = c.args in
    c.put.ensures ∙ ap (put s.mesh.now (s.i * 12 + 9)) (c.normal_of-normal.ensures ∙ ap (λ (t : Corners). normal_of t.v0 t.v1 t.v2) c.read-t.ensures)
