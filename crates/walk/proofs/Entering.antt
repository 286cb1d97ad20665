-- A walk that no check refuses is its steps. Assumes nothing.
use mathlib.Core.Path.{◌≡◌, refl, ap}
use mathlib.Core.Bool.{true, false, not}
use mathlib.Core.List.{[], ◌∷◌}
use Prim.Native.Nat.{◌%◌, ◌≤◌}
use lib.ListN.{length}
use Rattle.aabb.specs.declared.vector.Ray.{Ray}
use Rattle.aabb.specs.Vector.{admitted_ray}
use Rattle.tree.specs.Lent.{Lent, Labelled, node_count}
use Rattle.lent.specs.Ladder.{triangle_count}
use Rattle.lent.specs.Limits.{most_triangles}
use Rattle.tree.specs.Node.{misfit}
use Rattle.walk.specs.Walk.{start, run, walk}
use Rattle.lent.proofs.Ladder.{ends, goes, serves, agree, not_below}

-- where none of the five checks fails, the walk is its steps
pub entered : (s : Lent) (r : Ray) → length s.mesh.triangles % 12 ≡ 0 → triangle_count s.mesh.triangles ≤ most_triangles → Labelled s.mesh → admitted_ray r ≡ true → misfit s.tree.boxes s.tree.links ≡ false
    → run s r (node_count s.tree.links) (0 ∷ []) start ≡ walk s r
unfolding walk
entered s r whole few named ray fits = ends (goes (agree whole) (goes (not_below few) (goes (agree named) (goes (ap not ray) (goes fits (serves refl))))))
