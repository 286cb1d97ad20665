-- By what the vertices give. Assumes nothing.
use Rattle.triangle.proofs.Steps.{centroid_corners}
use Rattle.triangle.proofs.Triangle.centroid.Goals as goal

pub returns : goal.returns
returns c = centroid_corners _ _ _ c.corners.ensures c.centroid.ensures
