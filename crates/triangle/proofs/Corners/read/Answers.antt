-- Each vertex is the one at its place. Assumes nothing.
use mathlib.Core.Path.{ap, ◌∙◌}
use Rattle.triangle.specs.Mesh.{triangle_at, corners_of}
use Rattle.triangle.proofs.Corners.read.Goals as goal

pub returns-then-i-mesh : goal.returns-then-i-mesh
unfolding triangle_at corners_of
returns-then-i-mesh c = rw (c.three-v0.ensures, c.three-v1.ensures, c.three-v2.ensures)

pub returns : goal.returns
returns c = c.corners.ensures ∙ ap corners_of c.read.ensures
