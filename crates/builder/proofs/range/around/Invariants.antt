-- What is left of the range gives both boxes from those so far, and no number of these is a NaN. Assumes nothing.
use mathlib.Core.Path.{◌≡◌}
use lib.ListN.{drop}
use Rattle.builder.specs.Range.{box_from, centroid_box, centroids_from, node_box}
use Rattle.aabb.specs.Bounds.{Clear}
use Rattle.builder.proofs.range.around.Given as goal

abbrev pub invariant-loop-i : goal.invariant-loop-i
invariant-loop-i l = (box_from l.triangles l.bounds (drop l.i-index l.index) ≡ node_box l.triangles l.index) × (centroids_from l.triangles l.centroids (drop l.i-index l.index) ≡ centroid_box l.triangles l.index) × Clear l.bounds × Clear l.centroids
