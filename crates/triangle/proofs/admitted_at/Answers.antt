-- Beyond the mesh's end there is none. Assumes nothing.
use mathlib.Core.Path.{◌∙◌}
use native.Mathlib.Omega.{arith}
use borrow.Author.Tests.{le-ltb}
use Rattle.triangle.proofs.Steps.{none_beyond}
use Rattle.triangle.proofs.admitted_at.Goals as goal

pub returns-else-i-mesh : goal.returns-else-i-mesh
returns-else-i-mesh c = le-ltb _ _ c.if-i-mesh.false ∙ none_beyond _ _ (omega arith)
