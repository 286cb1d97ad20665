-- The corners, and the normal that they give. Assumes nothing.
use Rattle.triangle.specs.Normal.{new_triangle}
use Rattle.triangle.proofs.Triangle.new.Goals as goal

pub returns : goal.returns
unfolding new_triangle
returns c = cc
