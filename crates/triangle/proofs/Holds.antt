-- The box of an admitted triangle is bounded and holds its vertices. Assumes nothing.
use lib.Dec.{T}
use lib.Ieee.Fits.{and_l, and_r}
use Rattle.aabb.specs.Bounds.{bounded, holds}
use Rattle.aabb.proofs.Holds.{three_bounded, three_holds}
use Rattle.triangle.specs.declared.Triangle.{Triangle}
use Rattle.triangle.specs.Mesh.{bounds_of, admitted_triangle}

module _ (a : Triangle) (A : T (admitted_triangle a)) where
  pub bounds_bounded : T (bounded (bounds_of a))
  unfolding bounds_of admitted_triangle
  bounds_bounded = three_bounded a.v0 a.v1 a.v2 (search (and_l, and_r)) (search (and_l, and_r)) (search (and_l, and_r))

  pub bounds_holds : T (holds (bounds_of a) a.v0) × T (holds (bounds_of a) a.v1) × T (holds (bounds_of a) a.v2)
  unfolding bounds_of admitted_triangle
  bounds_holds = three_holds a.v0 a.v1 a.v2 (search (and_l, and_r)) (search (and_l, and_r)) (search (and_l, and_r))
