-- Each step is the definition's. Assumes nothing.
use mathlib.Core.Path.{◌∙◌, ap}
use Rattle.triangle.specs.Normal.{direction, normal_of}
use Rattle.triangle.proofs.normals.normal_of.Goals as goal

pub returns : goal.returns
unfolding normal_of
returns c = c.direction.ensures ∙ ap direction cc
