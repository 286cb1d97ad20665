-- Assumes nothing.
use Rattle.triangle.proofs.Steps.{distance_crossed}
use Rattle.triangle.proofs.Corners.distance.Goals as goal

pub returns : goal.returns
returns c = distance_crossed _ _ _ _ c.crossing.ensures c.distance.ensures
