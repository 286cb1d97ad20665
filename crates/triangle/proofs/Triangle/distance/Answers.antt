-- By what the vertices give. Assumes nothing.
use mathlib.Core.Path.{◌∙◌, ap}
use Rattle.triangle.specs.Meeting.{distance_to, distance}
use Rattle.triangle.proofs.Triangle.distance.Goals as goal

pub returns : goal.returns
unfolding distance
returns c = c.distance.ensures ∙ ap (distance_to _) c.corners.ensures
